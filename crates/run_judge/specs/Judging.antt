-- The judge, as a definition over the automaton's bytes and the buffer's numbers.
use Rattle.std.specs.Prelude.{ℕ, Bool, false, cond, List, [], ◌∷◌, eqb, ℤ, Some, None, Result, Ok, Err}
use Rattle.std.proofs.Math.Seq.{slice}
use Rattle.automata.specs.Automata.{target}
use Rattle.automata.specs.Numbers.{named}
use Rattle.automata.specs.Refusals.{refusal_of}
use Rattle.automata.specs.declared.refusals.Refusal.{Refusal}
use Rattle.run_judge.specs.declared.state.State.{State}
use Rattle.run_judge.specs.Moves.{first_move, wait_move, jump_move}
use Rattle.run_judge.specs.Numbers.{capped, announced}

-- "a wait is followed by a jump and a jump by a wait, waits at both ends": whether the numbers are those of such steps from
-- the state q, "ending at the target"
unfoldable mutual
  pub waits_from : List ℕ → List ℤ → State → Bool
  waits_from b [] q = false
  waits_from b (z ∷ zs) q = elim (wait_move b q (capped z)) [ Some p ↦ jumps_from b zs p | None ↦ false ]

  pub jumps_from : List ℕ → List ℤ → State → Bool
  jumps_from b [] q = eqb q.location (target b)
  jumps_from b (z ∷ zs) q = elim (jump_move b q (capped z)) [ Some p ↦ waits_from b zs p | None ↦ false ]

-- the numbers are a run's
unfoldable pub begins : List ℕ → List ℤ → Bool
begins b zs = elim (first_move b) [ Some q ↦ waits_from b zs q | None ↦ false ]

-- the numbers from 1 to end are a run's
unfoldable pub passes_to : List ℕ → List ℤ → ℕ → Bool
passes_to b r end = cond (eqb end 0) false (begins b (slice 1 end r))

-- "refuses by 1 to 8", else yes or no. That yes is said exactly of runs is the second clause of `judge`, by `Passes`
unfoldable pub judgement_of : List ℕ → List ℤ → Result Bool Refusal
judgement_of b r = cond (eqb (refusal_of b) 0) (Ok (passes_to b r (announced r))) (Err (named (refusal_of b)))
