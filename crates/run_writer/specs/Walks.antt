-- The walk back over a branch: what it has left, and what a jump back leaves of it.
use Rattle.std.specs.Prelude.{ℕ, suc, List, ◌∷◌, ◌≡◌, MatchOption, Option, length}
use Rattle.reachability.specs.Search.{first_zone}
use Rattle.reachability.specs.Witnesses.{back_to, last_state}
use Rattle.runs.specs.Runs.{Step, wait, jump}
use Rattle.search.specs.Answers.{state_of}
use Rattle.search.specs.Outcomes.{came_of}
use Rattle.run_writer.specs.declared.branch.Branch.{Branch}
use Rattle.run_writer.specs.declared.crossing.Jump.{Jump}
use Rattle.run_writer.specs.Branch.{kept_of, jumps_before}
use Rattle.run_writer.specs.Crossing.{witnesses_of}
use Rattle.run_writer.specs.Jumps.{back_over, landing_over}
use Rattle.run_writer.specs.Writing.{run_of}

abbrev pub jumps_left : Branch → ℕ
jumps_left x = jumps_before x.automaton.bytes.now (length x.store.now) x.origin

-- the last state of the run to its zone, and that run
abbrev pub last_left : Branch → List ℕ
last_left x =
    let b = x.automaton.bytes.now in
    last_state (witnesses_of b) (kept_of b (length x.store.now)) (came_of x.origin)

abbrev pub run_left : Branch → List Step
run_left x =
    let b = x.automaton.bytes.now in
    run_of b (state_of b (length x.store.now)) (came_of x.origin)

-- from the branch x, whose last jump is j, to the branch y to the zone that j leaves: one jump fewer, and a step of each definition of the run
pub record Goes (x : Branch) (j : Jump) (y : Branch) : Type 0 where
  pub automaton : y.automaton ≡ x.automaton
  pub store : y.store ≡ x.store
  pub fewer : jumps_left x ≡ suc (jumps_left y)
  pub last : last_left x ≡ landing_over j
  pub step : let b = x.automaton.bytes.now in let ks = kept_of b (length x.store.now) in
      (m : ℕ) (v : List ℕ) (xs : List Step) → back_to (witnesses_of b) (suc m) ks (came_of x.origin) v xs
      ≡ back_to (witnesses_of b) m ks (came_of y.origin) (back_over j v).valuation
      (jump j.edge ∷ wait (back_over j v).wait ∷ xs)

-- a turn goes one jump back, or gives none where the zone is the first one
abbrev pub Walks : Branch → Option Jump → Branch → Type 0
Walks x r y = MatchOption r ((came_of x.origin ≡ first_zone) × (y ≡ x)) (λ j. Goes x j y)
