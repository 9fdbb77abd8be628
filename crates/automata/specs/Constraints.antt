-- An invariant or a guard of an automaton, as it is fetched.
use Rattle.std.specs.Prelude.{ℕ, ◌≡◌, List}
use Rattle.automata.specs.Automata.{clocks}
use Rattle.automata.specs.declared.constraint.Constraint.{Constraint}

-- c has the limits of all clocks of s that stand at `at`
pub record Constrains (s : List ℕ) (at : ℕ) (c : Constraint) : Type 0 where
  pub bytes≡ : c.bytes.now ≡ s
  pub at≡ : c.at ≡ at
  pub clocks≡ : c.clocks ≡ clocks s
