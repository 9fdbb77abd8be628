-- What it is that two automata differ only in the numbering of their edges, byte by byte.
-- Assumes nothing.
use Prim.Native.Nat.{ℕ, ◌+◌, ◌<◌}
use mathlib.Core.List.{List}
use mathlib.Core.Path.{◌≡◌}
use lib.ListN.{get_or}
use Rattle.automata.specs.Automata.{clocks, locations, start, target, edges, edge_at}
use Rattle.automata.specs.Canonical.{edge_size, invariants_size}

-- the bytes of b from p on and those of c from q on agree, `size` of them
pub record Agree (b c : List ℕ) (p q size : ℕ) : Type 0 where
  pub byte : (k : ℕ) → k < size → get_or b (p + k) 0 ≡ get_or c (q + k) 0

-- edge i of b has the bytes of edge ρ i of c, and all else is the same
pub record Alike (b c : List ℕ) (ρ : ℕ → ℕ) : Type 0 where
  pub clocks≡ : clocks c ≡ clocks b
  pub locations≡ : locations c ≡ locations b
  pub start≡ : start c ≡ start b
  pub target≡ : target c ≡ target b
  pub invariants : Agree b c 11 11 (invariants_size b)
  pub edge : (i : ℕ) → i < edges b → ρ i < edges c
  pub bytes : (i : ℕ) → i < edges b → Agree b c (edge_at b i) (edge_at c (ρ i)) (edge_size b)
