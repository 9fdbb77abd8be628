-- What every offer keeps, the search keeps; so no more is kept than the capacity.
use Prim.Native.Nat.{ℕ, zero, suc, ◌+◌, ◌≤◌, ◌<◌}
use mathlib.Core.Path.{◌≡◌}
use lib.ListN.{length, length-append}
use native.Mathlib.Omega.{arith}
use Rattle.runs.specs.Runs.{System}
use Rattle.reachability.specs.Search.{Result, Zones, Node, Nth, State, going, offer, follow, expand, take_from, begin, search}
use Rattle.reachability.proofs.Judged.{offer_kept, followed, follow-cases, take_cases}
use Rattle.reachability.proofs.Later.{later_nth, follow_later}

module _ {Z F : Type 0} (A : System) (O : Zones Z F) (cap : ℕ) where
  -- P is kept when an edge of a kept node is followed
  pub record Steady (P : State Z F → Type 0) : Type 0 where
    pub edge : (q : State Z F) (j : ℕ) (k : Node Z) (i : ℕ) → q.outcome ≡ going → Nth q.kept j k → i < A.edges → A.from i ≡ k.at → P q
        → P (followed A O cap j k i q)

  module _ {P : State Z F → Type 0} (I : Steady P) where
    pub expand_keeps : (j : ℕ) (k : Node Z) (m i : ℕ) (q : State Z F) → Nth q.kept j k → i + m ≤ A.edges → P q → P (expand A O cap j k m i q)
    unfolding expand
    expand_keeps j k zero i q n l h = h
    expand_keeps j k (suc m) i q n l h =
        expand_keeps j k m (suc i) (follow A O cap j k i q) (later_nth (follow_later A O cap j k i q) j k n) (omega arith)
        (follow-cases A O cap P j k i q h (λ e g. I.edge q j k i e n (omega arith) g h))

    pub take_keeps : (left next : ℕ) (q : State Z F) → P q → P (take_from A O cap left next q)
    unfolding take_from
    take_keeps zero next q h = h
    take_keeps (suc left) next q h =
        take_cases A O cap P left next q (λ e. h)
        (λ k n. take_keeps left (suc next) (expand A O cap next k A.edges 0 q) (expand_keeps next k A.edges 0 q n (omega arith) h))

    pub search_keeps : P (begin A O cap) → P (search A O cap)
    unfolding search
    search_keeps = take_keeps cap 0 (begin A O cap)

  -- ---- the capacity
  abbrev AtMost : State Z F → Type 0
  AtMost q = length q.kept ≤ cap

  pub offer_room : (q : State Z F) (c : Z → Node Z) (r : Result Z F) → length q.kept ≤ cap → length (offer A O cap q c r).kept ≤ cap
  offer_room q c r h = offer_kept A O cap (λ ks. length ks ≤ cap) q c r h (λ z f e a w l. rw length-append (omega arith))

  at_most_lem : Steady AtMost
  at_most_lem = record { edge = λ q j k i e n l g. offer_room q _ _ }

  pub begin_room : length (begin A O cap).kept ≤ cap
  begin_room = offer_room _ _ (O.enter O.top) (omega arith)

  pub expand_room : (j : ℕ) (k : Node Z) (q : State Z F) → Nth q.kept j k → length q.kept ≤ cap
      → length (expand A O cap j k A.edges 0 q).kept ≤ cap
  expand_room j k q n = expand_keeps at_most_lem j k A.edges 0 q n (omega arith)

  pub search_room : length (search A O cap).kept ≤ cap
  search_room = search_keeps at_most_lem begin_room
