-- The form of an automaton, part after part: what the writer has in hand, and what it writes.
use Rattle.std.specs.Prelude.{ℕ, ◌-◌, List, ◌++◌, take, drop}
use Rattle.encoding.specs.Numbers.{be16, be32}
use Rattle.automata.specs.Accepted.{Complete}
use Rattle.canonical.specs.declared.ordering.Order.{Order}
use Rattle.canonical.specs.Edges.{EdgesOf}
use Rattle.canonical.specs.Numbers.{Lists}

-- the edges of an automaton, and their numbers in order
pub record Sorted (b : List ℕ) (o : Order) : Type 0 where
  pub complete : Complete b
  pub edges : EdgesOf b o.edges
  pub order : Lists o.edges.size o.edges.bytes.now o.edges.count o.numbers.items

-- what stands before the edges, which begin at `at`
unfoldable pub front_of : List ℕ → ℕ → ℕ → ℕ → List ℕ
front_of b at total count = be32 total ++ (take 5 (drop 4 b) ++ (be16 count ++ take (at - 11) (drop 11 b)))
