-- The zones that a search counts add up: what an offer drops is at most one, and where nothing is left to take every zone that has entered is
-- accounted for.
use Prim.Native.Nat.{ℕ, zero, suc, ◌+◌, ◌≤◌}
use mathlib.Core.Bool.{Bool, true, false}
use mathlib.Core.List.{List, [], ◌∷◌}
use mathlib.Core.Path.{◌≡◌, refl}
use lib.Dec.{eqb}
use lib.ListN.{length, drop, length-append, drop_of_length-le}
use native.Mathlib.Omega.{arith}
use Rattle.runs.specs.Runs.{System}
use Rattle.reachability.specs.Search.{Result, empty, zone, Zones, Node, State, going, first_node, child, judge, offer, follow, expand}
use Rattle.reachability.specs.Search.{take_from, nothing, begin, search}
use Rattle.reachability.specs.Accounts.{one, one_if_empty, one_if_live, along, from, entered, Regardless, Accounted}
use Rattle.reachability.proofs.Lists.{nth_tail}
use Rattle.reachability.proofs.Judged.{ended_going, dropping-kept, dropping_drops, Judged, was_target, was_inside, was_big, was_kept, was_full}
use Rattle.reachability.proofs.Judged.{judged, follow-cases, take_cases}
use Rattle.reachability.proofs.Later.{later_going, later_nth, follow_later, expand_later, take-later}
use Rattle.reachability.proofs.Keeps.{begin_room, expand_room}

-- ---- no offer drops more than one, whatever its outcome
module _ {Z F : Type 0} (A : System) (O : Zones Z F) (cap : ℕ) where
  judged_drops : {q : State Z F} {k : Node Z} {f : F} {q' : State Z F} → Judged A O cap q k f q' → q'.again + q'.inside ≤ suc (q.again + q.inside)
  judged_drops (was_target e) = omega arith
  judged_drops (was_inside y e g) = rw dropping_drops (omega arith)
  judged_drops (was_big e g h) = omega arith
  judged_drops (was_kept e g h i) = omega arith
  judged_drops (was_full e g h i) = omega arith

  pub judge_drops : (q : State Z F) (k : Node Z) (f : F) → (judge A O cap q k f).again + (judge A O cap q k f).inside ≤ suc (q.again + q.inside)
  judge_drops q k f = judged_drops (judged A O cap q k f)

  pub offer_drops : (q : State Z F) (c : Z → Node Z) (r : Result Z F)
      → (offer A O cap q c r).again + (offer A O cap q c r).inside ≤ suc (q.again + q.inside)
  unfolding offer
  offer_drops q c (empty f) = omega arith
  offer_drops q c (zone z f) = judge_drops q (c z) f

  pub follow_drops : (j : ℕ) (k : Node Z) (i : ℕ) (q : State Z F)
      → (follow A O cap j k i q).again + (follow A O cap j k i q).inside ≤ suc (q.again + q.inside)
  follow_drops j k i q =
      follow-cases A O cap (λ (x : State Z F). x.again + x.inside ≤ suc (q.again + q.inside)) j k i q (omega arith) (λ e g. offer_drops q _ _)

  pub expand_drops : (j : ℕ) (k : Node Z) (m i : ℕ) (q : State Z F)
      → (expand A O cap j k m i q).again + (expand A O cap j k m i q).inside ≤ m + (q.again + q.inside)
  unfolding expand
  expand_drops j k zero i q = omega arith
  expand_drops j k (suc m) i q = omega (arith, follow_drops j k i q, expand_drops j k m (suc i) (follow A O cap j k i q))

-- ---- where nothing is left to take, the zones kept and those dropped are those that came out not empty
module _ {Z F : Type 0} (A : System) (O : Zones Z F) (cap : ℕ) where
  abbrev counted : State Z F → ℕ
  counted q = length q.kept + (q.again + q.inside)

  judged_live : {q : State Z F} {k : Node Z} {f : F} {q' : State Z F} → Judged A O cap q k f q' → q'.outcome ≡ going → counted q' ≡ suc (counted q)
  judged_live (was_target e) o = ended_going o
  judged_live (was_inside y e g) o = rw (dropping-kept, dropping_drops) (omega arith)
  judged_live (was_big e g h) o = ended_going o
  judged_live (was_kept e g h i) o = rw length-append (omega arith)
  judged_live (was_full e g h i) o = ended_going o

  offer_live : (q : State Z F) (c : Z → Node Z) (r : Result Z F) → (offer A O cap q c r).outcome ≡ going
      → counted (offer A O cap q c r) ≡ counted q + one_if_live r
  unfolding offer
  offer_live q c (empty f) o = omega arith
  offer_live q c (zone z f) o = omega (arith, judged_live (judged A O cap q (c z) f) o)

  -- what comes of the edges of k from i on, m of them, and of the kept nodes from the one at `next` on
  abbrev edges : Node Z → ℕ → ℕ → ℕ
  edges = along A O O.top one_if_live

  abbrev nodes : ℕ → State Z F → ℕ
  nodes next q = from A O O.top one_if_live (drop next q.kept)

  module _ (R : Regardless O) where
    follow_live : (j : ℕ) (k : Node Z) (m i : ℕ) (q : State Z F) → (follow A O cap j k i q).outcome ≡ going
        → counted (follow A O cap j k i q) + edges k m (suc i) ≡ counted q + edges k (suc m) i
    unfolding follow along
    follow_live j k m i q o = go (eqb (A.from i) k.at) refl
      where
        p : q.outcome ≡ going
        p = later_going (follow_later A O cap j k i q) o

        go : (b : Bool) → eqb (A.from i) k.at ≡ b → counted (follow A O cap j k i q) + edges k m (suc i) ≡ counted q + edges k (suc m) i
        go true e =
            let n = offer_live q (child A j k i) (O.succ i k.zone q.frac) (rw (follow, p, e) at o) in
            rw (follow, p, along, e) (omega (arith, n, R.succ i k.zone q.frac O.top))
        go false e = rw (follow, p, along, e)

    expand_live : (j : ℕ) (k : Node Z) (m i : ℕ) (q : State Z F) → (expand A O cap j k m i q).outcome ≡ going
        → counted (expand A O cap j k m i q) ≡ counted q + edges k m i
    unfolding expand along
    expand_live j k zero i q o = omega arith
    expand_live j k (suc m) i q o =
        let q₁ = follow A O cap j k i q in
        let p = later_going (expand_later A O cap j k m (suc i) q₁) o in
        omega (arith, follow_live j k m i q p, expand_live j k m (suc i) q₁ o)

    take-live : (left next : ℕ) (q : State Z F) → left + next ≡ cap → length q.kept ≤ cap → (take_from A O cap left next q).outcome ≡ going
        → counted (take_from A O cap left next q) ≡ counted q + nodes next (take_from A O cap left next q)
    unfolding take_from from
    take-live zero next q f r = λ o. rw (drop_of_length-le q.kept {i = next} (omega arith)) (omega arith)
    take-live (suc left) next q f r =
        take_cases A O cap (λ (x : State Z F). x.outcome ≡ going → counted x ≡ counted q + nodes next x) left next q
        (λ e o. rw e (omega arith))
        (λ k n o.
        let q₁ = expand A O cap next k A.edges 0 q in
        let t = take-later A O cap left (suc next) q₁ in
        let m = later_nth t next k (later_nth (expand_later A O cap next k A.edges 0 q) next k n) in
        let here = expand_live next k A.edges 0 q (later_going t o) in
        rw (nth_tail _ next k m) (omega (arith, here, take-live left (suc next) q₁ (omega arith) (expand_room A O cap next k q n r) o)))

    live : (search A O cap).outcome ≡ going → counted (search A O cap) ≡ entered A O O.top one_if_live (search A O cap).kept
    unfolding search
    live o =
        let b = begin A O cap in
        let p = later_going (take-later A O cap cap 0 b) o in
        let first = offer_live (nothing A O cap) (first_node A) (O.enter O.top) p in
        omega (arith, first, take-live cap 0 b (omega arith) (begin_room A O cap) o)

-- ---- each zone that has entered is empty or not
module _ {Z F : Type 0} where
  abbrev Split : ((Result Z F → ℕ) → ℕ) → Type 0
  Split sum = sum one_if_live + sum one_if_empty ≡ sum one

  split : (r : Result Z F) → Split (λ count. count r)
  split (empty f) = refl
  split (zone z f) = refl

  module _ (A : System) (O : Zones Z F) (f : F) where
    along_split : (k : Node Z) (m i : ℕ) → Split (λ count. along A O f count k m i)
    unfolding along
    along_split k zero i = refl
    along_split k (suc m) i = go (along_split k m (suc i)) (eqb (A.from i) k.at) refl
      where
        go : Split (λ count. along A O f count k m (suc i)) → (b : Bool) → eqb (A.from i) k.at ≡ b
            → Split (λ count. along A O f count k (suc m) i)
        go ih true e = rw (along, e) (omega (arith, split (O.succ i k.zone f)))
        go ih false e = rw (along, e) ih

    from-split : (ks : List (Node Z)) → Split (λ count. from A O f count ks)
    unfolding from
    from-split [] = refl
    from-split (k ∷ ks) = omega (arith, along_split k A.edges 0, from-split ks)

-- ---- so with the empty ones they are all
module _ {Z F : Type 0} (A : System) (O : Zones Z F) (cap : ℕ) (R : Regardless O) where
  pub accounted : (search A O cap).outcome ≡ going → Accounted A O (search A O cap)
  accounted o =
      let h = live A O cap R o in
      record { live = omega arith; all = omega (arith, split (O.enter O.top), from-split A O O.top (search A O cap).kept) }
