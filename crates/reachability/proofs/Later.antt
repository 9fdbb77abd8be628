-- A later state: nothing kept is lost, bounds on the error only fall, and a search that has stopped stays as it is.
use Prim.Native.Nat.{ℕ, zero, suc}
use mathlib.Core.List.{[], ◌∷◌}
use mathlib.Core.Path.{◌≡◌, refl, sym, ap, ◌∙◌, subst}
use Rattle.runs.specs.Runs.{System}
use Rattle.reachability.specs.Search.{Result, frac_of, Zones, Node, Nth, End, Outcome, going, ended, State, offer, follow, expand, take_from}
use Rattle.reachability.specs.Laws.{Falls}
use Rattle.reachability.proofs.Lists.{All, Grown, grown_refl, grown_trans, grown_nth}
use Rattle.reachability.proofs.Judged.{ended_going, offer_kept, offer_frac, follow-cases, take_cases}

-- what is below g is below f
abbrev pub Below : {Z F : Type 0} → Zones Z F → F → F → Type 1
Below {Z} {F} O f g = (B : F → Type 0) → Falls O B → B g → B f

pub record Later {Z F : Type 0} (O : Zones Z F) (q q' : State Z F) : Type 1 where
  pub stays : (x : End) → q.outcome ≡ ended x → q' ≡ q
  pub grown : Grown q.kept q'.kept
  pub falls : Below O q.frac q'.frac

module _ {Z F : Type 0} {O : Zones Z F} where
  later_refl : (q : State Z F) → Later O q q
  later_refl q = record { stays = λ x e. refl; grown = grown_refl q.kept; falls = λ B fall b. b }

  later_trans : {p q r : State Z F} → Later O p q → Later O q r → Later O p r
  later_trans h g = record {
    stays = λ x e. g.stays x (ap (λ (y : State Z F). y.outcome) (h.stays x e) ∙ e) ∙ h.stays x e;
    grown = grown_trans h.grown g.grown;
    falls = λ B fall b. h.falls B fall (g.falls B fall b);
  }

  pub later_going : {q q' : State Z F} → Later O q q' → q'.outcome ≡ going → q.outcome ≡ going
  later_going {q} h e = go q.outcome refl
    where
      go : (c : Outcome) → q.outcome ≡ c → q.outcome ≡ going
      go going g = g
      go (ended x) g = sym (ap (λ (y : State Z F). y.outcome) (h.stays x g)) ∙ e

  pub later_nth : {q q' : State Z F} → Later O q q' → (j : ℕ) (k : Node Z) → Nth q.kept j k → Nth q'.kept j k
  later_nth h = grown_nth h.grown

  pub earlier_all : {N : Node Z → Type 0} {q q' : State Z F} → Later O q q' → All N q'.kept → All N q.kept
  earlier_all h a j k n = a j k (later_nth h j k n)

-- ---- every part of the search goes on to a later state
module _ {Z F : Type 0} (A : System) (O : Zones Z F) (cap : ℕ) where
  pub offer_falls : (q : State Z F) (c : Z → Node Z) (r : Result Z F) → Below O (frac_of r) (offer A O cap q c r).frac
  offer_falls q c r B fall =
      offer_frac A O cap (λ g. B g → B (frac_of r)) q c r (λ b. b)
      (λ z f y e i b. subst (λ x. B (frac_of x)) (sym e) (fall.lowered (c z).zone y.zone f b))

  pub offer_later : (q : State Z F) (c : Z → Node Z) (r : Result Z F) → q.outcome ≡ going → Below O q.frac (frac_of r)
      → Later O q (offer A O cap q c r)
  offer_later q c r g b = record {
    stays = λ x e. ended_going (sym e ∙ g);
    grown = offer_kept A O cap (Grown q.kept) q c r (grown_refl q.kept) (λ z f e a w l. record { more = c z ∷ []; same = refl });
    falls = λ B fall h. b B fall (offer_falls q c r B fall h);
  }

  pub follow_later : (j : ℕ) (k : Node Z) (i : ℕ) (q : State Z F) → Later O q (follow A O cap j k i q)
  follow_later j k i q =
      follow-cases A O cap (Later O q) j k i q (later_refl q) (λ e g. offer_later q _ _ e (λ B fall. fall.succ i k.zone q.frac))

  pub expand_later : (j : ℕ) (k : Node Z) (m i : ℕ) (q : State Z F) → Later O q (expand A O cap j k m i q)
  unfolding expand
  expand_later j k zero i q = later_refl q
  expand_later j k (suc m) i q = later_trans (follow_later j k i q) (expand_later j k m (suc i) (follow A O cap j k i q))

  pub take-later : (left next : ℕ) (q : State Z F) → Later O q (take_from A O cap left next q)
  unfolding take_from
  take-later zero next q = later_refl q
  take-later (suc left) next q =
      take_cases A O cap (Later O q) left next q (λ e. later_refl q)
      (λ k n. later_trans (expand_later next k A.edges 0 q) (take-later left (suc next) (expand A O cap next k A.edges 0 q)))
