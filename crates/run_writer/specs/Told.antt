-- What holds of the waits that were written: "with them this is such a run, ending at the target".
use Rattle.std.specs.Prelude.{ℕ, ◌+◌, ◌*◌, ◌≤◌, List, ◌++◌, ◌≡◌, true, ℤ, length, Result, Ok, Err}
use Rattle.automata.specs.declared.refusals.Refusal.{Refusal}
use Rattle.automata.specs.Semantics.{system_of}
use Rattle.reachability.specs.Branches.{path_of}
use Rattle.reachability.specs.Search.{Came, ended, reached}
use Rattle.reachability.specs.Witnesses.{RunAlong}
use Rattle.run_judge.specs.Judging.{judgement_of}
use Rattle.runs.specs.Written.{written}
use Rattle.search.specs.declared.verdict.Findings.{Findings}
use Rattle.search.specs.declared.verdict.Verdict.{Verdict}
use Rattle.search.specs.declared.verdict.Verdict.TheVariants.{Reached, Holds}
use Rattle.search.specs.Answers.{state_of}
use Rattle.run_writer.specs.Writing.{run_of}

pub record Written (b : List ℕ) (amount : ℕ) (run : List ℤ) : Type 0 where
  -- the zone that met the target came so
  pub came : Came
  pub met : (state_of b amount).outcome ≡ ended (reached came)
  -- there are no more jumps than kept zones
  pub few : length (path_of (state_of b amount).kept came) ≤ length (state_of b amount).kept
  -- "It begins with its own count of numbers, 2k + 2 for k jumps."
  pub count : length (written (run_of b (state_of b amount) came)) ≡ 2 * length (path_of (state_of b amount).kept came) + 2
  -- the buffer begins with it
  pub rest : List ℤ
  pub begins : run ≡ written (run_of b (state_of b amount) came) ++ rest
  -- a run in whole time units with no loosening, wait and jump by turns, its jumps the search's branch, and its last state at the target
  pub along : RunAlong (system_of b) 1 0 (path_of (state_of b amount).kept came) (run_of b (state_of b amount) came)
  -- "What the writer gives, the judge passes."
  pub passes : judgement_of b run ≡ Ok true

-- of what was found, with what was left in the buffer
abbrev pub WrittenOf : List ℕ → ℕ → List ℤ → Verdict → Type 0
WrittenOf b amount run Reached = Written b amount run
WrittenOf b amount run (Holds h) = Unit {0}

unfoldable pub Tells : List ℕ → ℕ → List ℤ → Result Findings Refusal → Type 0
Tells b amount run (Ok x) = WrittenOf b amount run x.answer.verdict
Tells b amount run (Err k) = Unit {0}
