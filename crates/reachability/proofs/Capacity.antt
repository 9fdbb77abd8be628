-- The capacity enters a search through 10 alone.
use Prim.Native.Nat.{ℕ, zero, suc, ◌+◌, ◌≤◌}
use mathlib.Core.List.{List, [], ◌∷◌}
use mathlib.Core.Path.{◌≡◌, refl, sym, ap, ◌∙◌}
use mathlib.Core.Bool.{Bool, true, false}
use lib.ListN.{length, drop, length-append, drop_of_length-le}
use lib.Dec.{eqb}
use native.Mathlib.Omega.{arith}
use native.Mathlib.Decide.{dec_le}
use Rattle.runs.specs.Runs.{System}
use Rattle.reachability.specs.Search.{Result, empty, zone, Zones, Node, Nth, State, refused, Outcome, going, ended, first_node, offer, follow}
use Rattle.reachability.specs.Search.{expand, take_from, nothing, begin, search}
use Rattle.reachability.proofs.Lists.{nth_drop, grown_longer}
use Rattle.reachability.proofs.Judged.{Judged, was_target, was_inside, was_big, was_kept, was_full, judged, computes, take_none, take-one}
use Rattle.reachability.proofs.Later.{Later, expand_later, take-later}
use Rattle.reachability.proofs.Keeps.{begin_room, expand_room, search_room}

module _ {Z F : Type 0} (A : System) (O : Zones Z F) where
  -- a state that is not full, and fits n slots
  record Fine (n : ℕ) (q : State Z F) : Type 0 where
    finished : q.outcome ≡ ended (refused 10) → ⊥
    fits : length q.kept ≤ n

  earlier : {n : ℕ} {q q' : State Z F} → Later O q q' → Fine n q' → Fine n q
  earlier h g = record {
    finished = λ e. g.finished (ap (λ (x : State Z F). x.outcome) (h.stays (refused 10) e) ∙ e);
    fits = omega (arith, grown_longer h.grown, g.fits);
  }

  module _ (c c' : ℕ) where
    moved : {q : State Z F} {k : Node Z} {f : F} {q' : State Z F} → Fine c' q' → Judged A O c q k f q' → Judged A O c' q k f q'
    moved n (was_target e) = was_target e
    moved n (was_inside y e g) = was_inside y e g
    moved n (was_big e g h) = was_big e g h
    moved {q} {k = k} n (was_kept e g h i) = was_kept e g h (omega (arith, n.fits, length-append q.kept (k ∷ [])))
    moved n (was_full e g h i) = absurd (n.finished refl)

    offer_same : (q : State Z F) (m : Z → Node Z) (r : Result Z F) → Fine c' (offer A O c q m r) → offer A O c' q m r ≡ offer A O c q m r
    unfolding offer
    offer_same q m (empty f) n = refl
    offer_same q m (zone z f) n = computes A O (moved n (judged A O c q (m z) f))

    follow_same : (j : ℕ) (k : Node Z) (i : ℕ) (q : State Z F) → Fine c' (follow A O c j k i q) → follow A O c' j k i q ≡ follow A O c j k i q
    unfolding follow
    follow_same j k i q = go q.outcome refl (eqb (A.from i) k.at) refl
      where
        go : (d : Outcome) → q.outcome ≡ d → (b : Bool) → eqb (A.from i) k.at ≡ b → Fine c' (follow A O c j k i q)
            → follow A O c' j k i q ≡ follow A O c j k i q
        go going e true g n = rw (follow, e, g) (offer_same q _ _ (rw (follow, e, g) at n))
        go going e false g n = rw (follow, e, g)
        go (ended x) e b g n = rw (follow, e)

    expand_same : (j : ℕ) (k : Node Z) (m i : ℕ) (q : State Z F) → Fine c' (expand A O c j k m i q) → expand A O c' j k m i q ≡ expand A O c j k m i q
    unfolding expand
    expand_same j k zero i q n = refl
    expand_same j k (suc m) i q n =
        let q₁ = follow A O c j k i q in
        ap (expand A O c' j k m (suc i)) (follow_same j k i q (earlier (expand_later A O c j k m (suc i) q₁) n)) ∙ expand_same j k m (suc i) q₁ n

    take_same : (left left' next : ℕ) (q : State Z F) → left + next ≡ c → left' + next ≡ c' → length q.kept ≤ c
        → Fine c' (take_from A O c left next q) → take_from A O c' left' next q ≡ take_from A O c left next q
    unfolding take_from
    take_same zero left' next q e e' l n = take_none A O c' left' next q (drop_of_length-le q.kept {i = next} (omega arith))
    take_same (suc left) zero next q e e' l n =
        let m = earlier (take-later A O c (suc left) next q) n in
        sym (take_none A O c (suc left) next q (drop_of_length-le q.kept {i = next} (omega (arith, m.fits))))
    take_same (suc left) (suc left') next q e e' l n =
        go (drop next q.kept) refl n
        (λ k h. take_same left left' (suc next) (expand A O c next k A.edges 0 q) (omega arith) (omega arith) (expand_room A O c next k q h l))
      where
        go : (ks : List (Node Z)) → drop next q.kept ≡ ks → Fine c' (take_from A O c (suc left) next q)
            → ((k : Node Z) → Nth q.kept next k → Fine c' (take_from A O c left (suc next) (expand A O c next k A.edges 0 q))
            → take_from A O c' left' (suc next) (expand A O c next k A.edges 0 q)
            ≡ take_from A O c left (suc next) (expand A O c next k A.edges 0 q))
            → take_from A O c' (suc left') next q ≡ take_from A O c (suc left) next q
        go [] d n ih = take_none A O c' (suc left') next q d ∙ sym (take_none A O c (suc left) next q d)
        go (k ∷ ks) d n ih =
            let q₁ = expand A O c next k A.edges 0 q in
            let m : Fine c' (take_from A O c left (suc next) q₁) = rw (take-one A O c left next q k ks d) at n in
            take-one A O c' left' next q k ks d
            ∙ ap (take_from A O c' left' (suc next)) (expand_same next k A.edges 0 q (earlier (take-later A O c left (suc next) q₁) m))
            ∙ ih k (nth_drop q.kept next k ks d) m
            ∙ sym (take-one A O c left next q k ks d)

    -- every capacity that the kept nodes fit gives the same search, unless it was 10
    pub fits_same : ((search A O c).outcome ≡ ended (refused 10) → ⊥) → length (search A O c).kept ≤ c' → search A O c' ≡ search A O c
    unfolding search
    fits_same h l =
        let n : Fine c' (search A O c) = record { finished = h; fits = l } in
        let b = begin A O c in
        ap (take_from A O c' c' 0) (offer_same (nothing A O c) (first_node A) (O.enter O.top) (earlier (take-later A O c c 0 b) n))
        ∙ take_same c c' 0 b (omega arith) (omega arith) (begin_room A O c) n

  pub larger_same : (c c' : ℕ) → c ≤ c' → ((search A O c).outcome ≡ ended (refused 10) → ⊥) → search A O c' ≡ search A O c
  larger_same c c' l h = fits_same c c' h (omega (arith, search_room A O c))

  pub finished_same : (c c' : ℕ) → ((search A O c).outcome ≡ ended (refused 10) → ⊥) → ((search A O c').outcome ≡ ended (refused 10) → ⊥)
      → search A O c' ≡ search A O c
  finished_same c c' h h' = elim (dec_le c c') [ yes l ↦ larger_same c c' l h | no n ↦ sym (larger_same c' c (omega arith) h') ]
