-- Where the edges of an automaton lie.
use Rattle.std.specs.Prelude.{ℕ, ◌+◌, List, ◌≡◌, drop}
use Rattle.automata.specs.Automata.{edges}
use Rattle.automata.specs.Canonical.{edge_size, invariants_size}
use Rattle.canonical.specs.declared.edges.Edges.{Edges}

-- behind head and invariants
pub record EdgesOf (b : List ℕ) (e : Edges) : Type 0 where
  pub at : e.at ≡ 11 + invariants_size b
  pub bytes : e.bytes.now ≡ drop e.at b
  pub size : e.size ≡ edge_size b
  pub count : e.count ≡ edges b
