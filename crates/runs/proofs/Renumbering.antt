-- A run with its jumps numbered anew is a run of the other system, through the same states.
-- Assumes nothing.
use Prim.Native.Nat.{ℕ, ◌<◌}
use mathlib.Core.List.{List, [], ◌∷◌, map}
use mathlib.Core.Logic.{inl, inr}
use mathlib.Core.Path.{◌≡◌, refl, sym, ap, ◌∙◌, subst}
use Rattle.runs.specs.Runs.{System, Step, wait, jump, Stand, first, after, StandsIn, Can, Steps, Run, Reaches}
use Rattle.runs.specs.Renumbering.{Renumbers, renumbered, carried, states, RunsAs}

module _ (A B : System) (ρ : ℕ → ℕ) (same : A.Val → B.Val) (R : Renumbers A B ρ same) where
  first_same : first B ≡ carried same (first A)
  first_same = λ i. record { at = R.start i; clocks = R.origin i }

  wait_same : (q : Stand A.Val) (t : ℕ) → after B (carried same q) (wait t) ≡ carried same (after A q (wait t))
  wait_same q t = λ i. record { at = q.at; clocks = R.pass t q.clocks i }

  jump_same : (q : Stand A.Val) (k : ℕ) → k < A.edges → after B (carried same q) (jump (ρ k)) ≡ carried same (after A q (jump k))
  jump_same q k h = λ i. record { at = R.to k h i; clocks = R.reset k q.clocks h i }

  module _ (s e : ℕ) where
    wait_can : (q : Stand A.Val) (t : ℕ) → q.at < R.locations → Can A s e q (wait t) → Can B s e (carried same q) (wait t)
    wait_can q t l c = subst (B.inv s e q.at) (sym (R.pass t q.clocks)) (R.inv s e q.at (A.pass t q.clocks) l c)

    jump_can : (q : Stand A.Val) (k : ℕ) → Can A s e q (jump k) → Can B s e (carried same q) (jump (ρ k))
    jump_can q k c =
        let h = c.0 in (
          R.edge k h,
          R.from k h ∙ c.1,
          R.guard s e k q.clocks h c.2,
          subst (λ (p : Stand B.Val). B.inv s e p.at p.clocks) (sym (jump_same q k h))
              (R.inv s e (A.to k) (A.reset k q.clocks) (R.to< k h) c.3),
        )

    -- the steps can be made, from any state
    steps_same : (q : Stand A.Val) (xs : List Step) → q.at < R.locations → Steps A s e q xs → Steps B s e (carried same q) (renumbered ρ xs)
    steps_same q [] l h = tt
    steps_same q (wait t ∷ xs) l h =
        let rest = steps_same (after A q (wait t)) xs l h.1 in
        (wait_can q t l h.0, subst (λ (p : Stand B.Val). Steps B s e p (renumbered ρ xs)) (sym (wait_same q t)) rest)
    steps_same q (jump k ∷ xs) l h =
        let i = h.0.0 in
        let rest = steps_same (after A q (jump k)) xs (R.to< k i) h.1 in
        (jump_can q k h.0, subst (λ (p : Stand B.Val). Steps B s e p (renumbered ρ xs)) (sym (jump_same q k i)) rest)

    -- and pass through the same states
    states_along : (q : Stand A.Val) (xs : List Step) → Steps A s e q xs
        → states B (carried same q) (renumbered ρ xs) ≡ map (carried same) (states A q xs)
    states_along q [] h = refl
    states_along q (wait t ∷ xs) h =
        ap (λ (ps : List (Stand B.Val)). carried same q ∷ ps)
        (ap (λ (p : Stand B.Val). states B p (renumbered ρ xs)) (wait_same q t) ∙ states_along (after A q (wait t)) xs h.1)
    states_along q (jump k ∷ xs) h =
        ap (λ (ps : List (Stand B.Val)). carried same q ∷ ps)
        (ap (λ (p : Stand B.Val). states B p (renumbered ρ xs)) (jump_same q k h.0.0) ∙ states_along (after A q (jump k)) xs h.1)

    stands_along : (l : ℕ) (q : Stand A.Val) (xs : List Step) → Steps A s e q xs → StandsIn A l q xs
        → StandsIn B l (carried same q) (renumbered ρ xs)
    stands_along l q [] h m = m
    stands_along l q (wait t ∷ xs) h (inl m) = inl m
    stands_along l q (wait t ∷ xs) h (inr m) =
        inr (subst (λ (p : Stand B.Val). StandsIn B l p (renumbered ρ xs)) (sym (wait_same q t)) (stands_along l (after A q (wait t)) xs h.1 m))
    stands_along l q (jump k ∷ xs) h (inl m) = inl m
    stands_along l q (jump k ∷ xs) h (inr m) =
        let rest = stands_along l (after A q (jump k)) xs h.1 m in
        inr (subst (λ (p : Stand B.Val). StandsIn B l p (renumbered ρ xs)) (sym (jump_same q k h.0.0)) rest)

    -- ---- of whole runs
    pub run_same : (xs : List Step) → Run A s e xs → Run B s e (renumbered ρ xs)
    run_same xs r = (
      subst (λ (p : Stand B.Val). B.inv s e p.at p.clocks) (sym first_same) (R.inv s e A.start A.origin R.start< r.0),
      subst (λ (p : Stand B.Val). Steps B s e p (renumbered ρ xs)) (sym first_same) (steps_same (first A) xs R.start< r.1),
    )

    pub states_same : (xs : List Step) → Run A s e xs → states B (first B) (renumbered ρ xs) ≡ map (carried same) (states A (first A) xs)
    states_same xs r = ap (λ (p : Stand B.Val). states B p (renumbered ρ xs)) first_same ∙ states_along (first A) xs r.1

    stands_same : (l : ℕ) (xs : List Step) → Run A s e xs → StandsIn A l (first A) xs → StandsIn B l (first B) (renumbered ρ xs)
    stands_same l xs r m = subst (λ (p : Stand B.Val). StandsIn B l p (renumbered ρ xs)) (sym first_same) (stands_along l (first A) xs r.1 m)

    pub reaches_same : Reaches A s e → Reaches B s e
    reaches_same h = record {
      steps = renumbered ρ h.steps;
      run = run_same h.steps h.run;
      stands = subst (λ (l : ℕ). StandsIn B l (first B) (renumbered ρ h.steps)) (sym R.target)
          (stands_same A.target h.steps h.run h.stands);
    }

  pub runs_as : RunsAs A B ρ same
  runs_as = record { target = R.target; run = run_same; through = states_same }
