-- What a step leads to, in the code's own type.
use Rattle.std.specs.Prelude.{ℕ, ◌≡◌, List, Option, Some, None}
use Rattle.run_judge.specs.declared.state.State.{State}
use Rattle.run_judge.specs.declared.steps.Ready.{Ready}

-- nothing where it may not be made, else the state m of the automaton b
abbrev pub Leads : List ℕ → Option State → Option Ready → Type 0
Leads b m None = m ≡ None
Leads b m (Some r) = (r.automaton.now.bytes.now ≡ b) × (m ≡ Some r.state)
