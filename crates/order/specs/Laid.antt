-- Edges of one size that lie one after another.
use Rattle.std.specs.Prelude.{ℕ, zero, suc, ◌+◌, ◌*◌, List, [], ◌∷◌, ◌++◌, map, take, drop}
use Rattle.order.specs.Edges.{Edge}

-- the edge whose bytes begin at `at`
unfoldable pub edge_bytes : ℕ → List ℕ → ℕ → Edge
edge_bytes size s at = take size (drop at s)

-- edge i, counted from 0
abbrev pub nth_edge : ℕ → List ℕ → ℕ → Edge
nth_edge size s i = edge_bytes size s (i * size)

-- n edges from `at` on
unfoldable pub edges_from : ℕ → List ℕ → ℕ → ℕ → List Edge
edges_from size s at zero = []
edges_from size s at (suc n) = edge_bytes size s at ∷ edges_from size s (at + size) n

-- the first n
abbrev pub first_edges : ℕ → List ℕ → ℕ → List Edge
first_edges size s n = edges_from size s 0 n

-- the edges with these numbers
abbrev pub numbered : ℕ → List ℕ → List ℕ → List Edge
numbered size s ns = map (nth_edge size s) ns

-- edges written one after another
unfoldable pub joined : List Edge → List ℕ
joined [] = []
joined (x ∷ xs) = x ++ joined xs
