-- What the judge is to say: "the buffer begins with a run of the card in this form, ending at the target".
use Rattle.std.specs.Prelude.{ℕ, List, ◌++◌, ◌≡◌, ℤ}
use Rattle.runs.specs.Runs.{Step, first, last, Run}
use Rattle.runs.specs.Written.{ByTurns, written}
use Rattle.automata.specs.Automata.{target}
use Rattle.automata.specs.Refusals.{refusal_of}
use Rattle.automata.specs.Semantics.{system_of}

pub record Passes (b : List ℕ) (r : List ℤ) : Type 0 where
  -- "refuses by 1 to 8"
  pub accepted : refusal_of b ≡ 0
  pub steps : List Step
  pub rest : List ℤ
  pub begins : r ≡ written steps ++ rest
  pub turns : ByTurns steps
  -- "A run in whole time units with no loosening"
  pub run : Run (system_of b) 1 0 steps
  pub there : (last (system_of b) (first (system_of b)) steps).at ≡ target b
