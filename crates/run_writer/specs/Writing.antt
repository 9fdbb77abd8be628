-- "A run in whole time units with no loosening is written by a call over the bare search": what the call finds, and what it leaves of the buffer.
use Rattle.std.specs.Prelude.{ℕ, cond, List, [], ◌++◌, ltb, eqb, ℤ, length, drop, Result, Err}
use Rattle.automata.specs.Refusals.{refusal_of}
use Rattle.automata.specs.declared.refusals.Refusal.{Refusal}
use Rattle.automata.specs.declared.refusals.Refusal.TheVariants.{RunTooLong}
use Rattle.reachability.specs.Search.{Came, Outcome, going, ended, reached, refused}
use Rattle.reachability.specs.Witnesses.{run_to}
use Rattle.runs.specs.Runs.{Step}
use Rattle.runs.specs.Written.{written}
use Rattle.search.specs.declared.verdict.Findings.{Findings}
use Rattle.search.specs.Answers.{state_of, search_findings}
use Rattle.search.specs.Instance.{ZoneState}
use Rattle.run_writer.specs.Crossing.{witnesses_of}

-- the run to a zone that came so, in the search that ended in q: "Its jumps are those of the search's branch; its waits are the writer's choice"
abbrev pub run_of : List ℕ → ZoneState → Came → List Step
run_of b q c = run_to (witnesses_of b) q.kept c

-- the numbers to be written: the run to the zone that met the target, or none
unfoldable pub outcome_numbers : List ℕ → ZoneState → Outcome → List ℤ
outcome_numbers b q going = []
outcome_numbers b q (ended (reached c)) = written (run_of b q c)
outcome_numbers b q (ended (refused k)) = []

unfoldable pub run_numbers : List ℕ → ℕ → List ℤ
run_numbers b amount = cond (eqb (refusal_of b) 0) (outcome_numbers b (state_of b amount) (state_of b amount).outcome) []

-- "Turned away: 14, run buffer too short, after a reached verdict, buffer untouched." The store is of `amount` numbers, the buffer of `room`
unfoldable pub run_findings : List ℕ → ℕ → ℕ → Result Findings Refusal
run_findings b amount room = cond (ltb room (length (run_numbers b amount))) (Err RunTooLong) (search_findings b amount)

-- "Numbers outside a run are unchanged."
unfoldable pub run_buffer : List ℕ → ℕ → List ℤ → List ℤ
run_buffer b amount r =
    cond (ltb (length r) (length (run_numbers b amount))) r (run_numbers b amount ++ drop (length (run_numbers b amount)) r)
