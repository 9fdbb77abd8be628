-- The ways in which a zone is judged, once: the proofs go by these, and `judge`, `offer`, `follow` and `take_from` stay shut.
use Prim.Native.Nat.{ℕ, zero, suc, ◌+◌, ◌≤◌, ◌<◌}
use mathlib.Core.List.{List, [], ◌∷◌, ◌++◌}
use mathlib.Core.Bool.{Bool, true, false}
use mathlib.Core.Path.{◌≡◌, refl, sym, ap, ◌∙◌, subst}
use lib.ListN.{length, drop}
use lib.Dec.{ltb, eqb}
use native.Mathlib.Omega.{arith}
use borrow.Author.Tests.{ltb-true, ltb-false, lt-ltb, le-ltb, eqb-true, eqb-false, eq-eqb}
use Rattle.runs.specs.Runs.{System}
use Rattle.reachability.specs.Search.{Result, empty, zone, frac_of, Found, none, found, Zones, Node, Nth, End, reached, refused, Outcome, going}
use Rattle.reachability.specs.Search.{Came, ended, State, stopped, keeping, dropping, child, find, judge, offer, follow, expand, take_from}
use Rattle.reachability.proofs.Lists.{nth_drop}

pub ended_going {ℓ} : {X : Type ℓ} {x : End} → ended x ≡ going → X
ended_going e = let z : ◌≡◌ {A = ℕ} 0 1 = cc in absurd (omega arith)

other_end {ℓ} : {X : Type ℓ} {n : ℕ} {x : Came} → ended (refused n) ≡ ended (reached x) → X
other_end e = let z : ◌≡◌ {A = ℕ} 0 1 = cc in absurd (omega arith)

-- ---- what counting a dropped zone leaves
module _ {Z F : Type 0} (q : State Z F) (f : F) where
  pub dropping-kept : (b : Bool) → (dropping q f b).kept ≡ q.kept
  unfolding dropping
  dropping-kept true = refl
  dropping-kept false = refl

  pub dropping_frac : (b : Bool) → (dropping q f b).frac ≡ f
  unfolding dropping
  dropping_frac true = refl
  dropping_frac false = refl

  pub dropping_going : (b : Bool) → (dropping q f b).outcome ≡ going
  unfolding dropping
  dropping_going true = refl
  dropping_going false = refl

  pub dropping_drops : (b : Bool) → (dropping q f b).again + (dropping q f b).inside ≡ suc (q.again + q.inside)
  unfolding dropping
  dropping_drops true = omega arith
  dropping_drops false = omega arith

module _ {Z F : Type 0} (A : System) (O : Zones Z F) where
  pub data Judged (cap : ℕ) (q : State Z F) (k : Node Z) (f : F) : State Z F → Type 0 where
    was_target : eqb k.at A.target ≡ true → Judged cap q k f (stopped q f (reached k.came))
    was_inside : (y : Node Z) → eqb k.at A.target ≡ false → find A O q.kept k.at k.zone ≡ found y
        → Judged cap q k f (dropping q (O.lowered k.zone y.zone f) (O.equal k.zone y.zone))
    was_big : eqb k.at A.target ≡ false → find A O q.kept k.at k.zone ≡ none → O.big k.zone ≡ true
        → Judged cap q k f (stopped q f (refused 9))
    was_kept : eqb k.at A.target ≡ false → find A O q.kept k.at k.zone ≡ none → O.big k.zone ≡ false
        → length q.kept < cap → Judged cap q k f (keeping q f k)
    was_full : eqb k.at A.target ≡ false → find A O q.kept k.at k.zone ≡ none → O.big k.zone ≡ false
        → cap ≤ length q.kept → Judged cap q k f (stopped q f (refused 10))

  pub judged : (cap : ℕ) (q : State Z F) (k : Node Z) (f : F) → Judged cap q k f (judge A O cap q k f)
  unfolding judge
  judged cap q k f =
      go (eqb k.at A.target) refl (find A O q.kept k.at k.zone) refl (O.big k.zone) refl (ltb (length q.kept) cap) refl
    where
      go : (a : Bool) → eqb k.at A.target ≡ a → (b : Found (Node Z)) → find A O q.kept k.at k.zone ≡ b
          → (c : Bool) → O.big k.zone ≡ c → (d : Bool) → ltb (length q.kept) cap ≡ d → Judged cap q k f (judge A O cap q k f)
      go true e b g c h d i = rw (judge, e) (was_target e)
      go false e (found y) g c h d i = rw (judge, e, g) (was_inside y e g)
      go false e none g true h d i = rw (judge, e, g, h) (was_big e g h)
      go false e none g false h true i = rw (judge, e, g, h, i) (was_kept e g h (ltb-true _ _ i))
      go false e none g false h false i = rw (judge, e, g, h, i) (was_full e g h (ltb-false _ _ i))

  pub computes : {cap : ℕ} {q : State Z F} {k : Node Z} {f : F} {q' : State Z F} → Judged cap q k f q' → judge A O cap q k f ≡ q'
  unfolding judge
  computes (was_target e) = rw (judge, e)
  computes (was_inside y e g) = rw (judge, e, g)
  computes (was_big e g h) = rw (judge, e, g, h)
  computes (was_kept e g h i) = rw (judge, e, g, h, lt-ltb _ _ i)
  computes (was_full e g h i) = rw (judge, e, g, h, le-ltb _ _ i)

  -- ---- the node that was found
  pub record Inside (ks : List (Node Z)) (l : ℕ) (z : Z) (k : Node Z) : Type 0 where
    pub place : ℕ
    pub kept : Nth ks place k
    pub at : k.at ≡ l
    pub holds : O.within z k.zone ≡ true

  pub find_inside : (ks : List (Node Z)) (l : ℕ) (z : Z) (k : Node Z) → find A O ks l z ≡ found k → Inside ks l z k
  unfolding find
  find_inside [] l z k e = let z : ◌≡◌ {A = ℕ} 0 1 = cc in absurd (omega arith)
  find_inside (x ∷ ks) l z k e = go (eqb x.at l) refl (O.within z x.zone) refl (find_inside ks l z k)
    where
      on : Inside ks l z k → Inside (x ∷ ks) l z k
      on h = record { place = suc h.place; kept = h.kept; at = h.at; holds = h.holds }

      go : (a : Bool) → eqb x.at l ≡ a → (b : Bool) → O.within z x.zone ≡ b → (find A O ks l z ≡ found k → Inside ks l z k)
          → Inside (x ∷ ks) l z k
      go true a true b ih =
          let h : found x ≡ found k = rw (find, a, b) at e in
          subst (Inside (x ∷ ks) l z) (cc) (record { place = zero; kept = refl; at = eqb-true _ _ a; holds = b })
      go true a false b ih = on (ih (rw (find, a, b) at e))
      go false a b d ih = on (ih (rw (find, a) at e))

  module _ (cap : ℕ) where
    -- ---- what an offer leaves: its kept nodes, its fraction, and where the target was reached
    judge_kept : (P : List (Node Z) → Type 0) {q : State Z F} {k : Node Z} {f : F} {q' : State Z F} → Judged cap q k f q' → P q.kept
        → ((k.at ≡ A.target → ⊥) → O.big k.zone ≡ false → length q.kept < cap → P (q.kept ++ (k ∷ []))) → P q'.kept
    judge_kept P (was_target e) s t = s
    judge_kept P (was_inside y e g) s t = rw dropping-kept s
    judge_kept P (was_big e g h) s t = s
    judge_kept P (was_kept e g h i) s t = t (eqb-false _ _ e) h i
    judge_kept P (was_full e g h i) s t = s

    pub offer_kept : (P : List (Node Z) → Type 0) (q : State Z F) (c : Z → Node Z) (r : Result Z F) → P q.kept
        → ((z : Z) (f : F) → r ≡ zone z f → ((c z).at ≡ A.target → ⊥) → O.big (c z).zone ≡ false → length q.kept < cap
        → P (q.kept ++ (c z ∷ []))) → P (offer A O cap q c r).kept
    unfolding offer
    offer_kept P q c (empty f) s t = s
    offer_kept P q c (zone z f) s t = judge_kept P (judged cap q (c z) f) s (t z f refl)

    judge_frac : (P : F → Type 0) {q : State Z F} {k : Node Z} {f : F} {q' : State Z F} → Judged cap q k f q' → P f
        → ((y : Node Z) → Inside q.kept k.at k.zone y → P (O.lowered k.zone y.zone f)) → P q'.frac
    judge_frac P (was_target e) s t = s
    judge_frac P (was_inside y e g) s t = rw dropping_frac (t y (find_inside _ _ _ y g))
    judge_frac P (was_big e g h) s t = s
    judge_frac P (was_kept e g h i) s t = s
    judge_frac P (was_full e g h i) s t = s

    pub offer_frac : (P : F → Type 0) (q : State Z F) (c : Z → Node Z) (r : Result Z F) → P (frac_of r)
        → ((z : Z) (f : F) (y : Node Z) → r ≡ zone z f → Inside q.kept (c z).at (c z).zone y → P (O.lowered (c z).zone y.zone f))
        → P (offer A O cap q c r).frac
    unfolding offer
    offer_frac P q c (empty f) s t = s
    offer_frac P q c (zone z f) s t = judge_frac P (judged cap q (c z) f) s (λ y. t z f y refl)

    -- the zone that met the target
    pub record Met (q q' : State Z F) (c : Z → Node Z) (r : Result Z F) (x : Came) : Type 0 where
      pub met : Z
      pub after : F
      pub made : r ≡ zone met after
      pub there : (c met).at ≡ A.target
      pub came : (c met).came ≡ x
      pub same : q'.kept ≡ q.kept

    judge_met : {q : State Z F} {f : F} {x : Came} (c : Z → Node Z) (z : Z) {q' : State Z F} → Judged cap q (c z) f q'
        → q'.outcome ≡ ended (reached x)
        → Met q q' c (zone z f) x
    judge_met {f = f} c z (was_target e) h = record { met = z; after = f; made = refl; there = eqb-true _ _ e; came = cc; same = refl }
    judge_met c z (was_inside y e g) h = ended_going (sym h ∙ dropping_going _ _ _)
    judge_met c z (was_big e g i) h = other_end h
    judge_met c z (was_kept e g i j) h = ended_going (sym h)
    judge_met c z (was_full e g i j) h = other_end h

    pub offer_met : (q : State Z F) (c : Z → Node Z) (r : Result Z F) (x : Came) → (offer A O cap q c r).outcome ≡ ended (reached x)
        → Met q (offer A O cap q c r) c r x
    unfolding offer
    offer_met q c (empty f) x h = ended_going (sym h)
    offer_met q c (zone z f) x h = judge_met c z (judged cap q (c z) f) h

    -- ---- what one edge comes to
    abbrev pub followed : ℕ → Node Z → ℕ → State Z F → State Z F
    followed j k i q = offer A O cap q (child A j k i) (O.succ i k.zone q.frac)

    pub follow-cases {ℓ} : (P : State Z F → Type ℓ) (j : ℕ) (k : Node Z) (i : ℕ) (q : State Z F) → P q
        → (q.outcome ≡ going → A.from i ≡ k.at → P (followed j k i q)) → P (follow A O cap j k i q)
    unfolding follow
    follow-cases P j k i q s t = go q.outcome refl (eqb (A.from i) k.at) refl
      where
        go : (c : Outcome) → q.outcome ≡ c → (b : Bool) → eqb (A.from i) k.at ≡ b → P (follow A O cap j k i q)
        go going e true g = rw (follow, e, g) (t e (eqb-true _ _ g))
        go going e false g = rw (follow, e, g) s
        go (ended x) e b g = rw (follow, e) s

    pub follow_on : (j : ℕ) (k : Node Z) (i : ℕ) (q : State Z F) → q.outcome ≡ going → A.from i ≡ k.at → follow A O cap j k i q ≡ followed j k i q
    unfolding follow
    follow_on j k i q e g =
        rw (follow, e, eq-eqb _ _ g)
        (ap (λ c. followed j k i (record { kept = q.kept; frac = q.frac; outcome = c; again = q.again; inside = q.inside })) e)

    -- ---- what taking comes to
    pub take_none : (left next : ℕ) (q : State Z F) → drop next q.kept ≡ [] → take_from A O cap left next q ≡ q
    unfolding take_from
    take_none zero next q e = refl
    take_none (suc left) next q e = rw (take_from, e)

    pub take-one : (left next : ℕ) (q : State Z F) (k : Node Z) (ks : List (Node Z)) → drop next q.kept ≡ k ∷ ks
        → take_from A O cap (suc left) next q ≡ take_from A O cap left (suc next) (expand A O cap next k A.edges 0 q)
    unfolding take_from
    take-one left next q k ks e = rw (take_from, e)

    pub take_cases {ℓ} : (P : State Z F → Type ℓ) (left next : ℕ) (q : State Z F) → (drop next q.kept ≡ [] → P q)
        → ((k : Node Z) → Nth q.kept next k → P (take_from A O cap left (suc next) (expand A O cap next k A.edges 0 q)))
        → P (take_from A O cap (suc left) next q)
    take_cases P left next q s t = go (drop next q.kept) refl
      where
        go : (ks : List (Node Z)) → drop next q.kept ≡ ks → P (take_from A O cap (suc left) next q)
        go [] e = rw (take_none (suc left) next q e) (s e)
        go (k ∷ ks) e = rw (take-one left next q k ks e) (t k (nth_drop q.kept next k ks e))
