-- Document 02, Change 1: "We want one order: edges rise by their bytes, repeats dropped." The form of an automaton's bytes.
use Rattle.std.specs.Prelude.{ℕ, ◌+◌, ◌*◌, Bool, ◌&&◌, List, ◌++◌, eqb, length, take, drop}
use Rattle.encoding.specs.Numbers.{be16, be32}
use Rattle.order.specs.Edges.{Edge, rising, sorted}
use Rattle.order.specs.Laid.{edges_from, joined}
use Rattle.order.specs.Places.{number_in}
use Rattle.automata.specs.Automata.{clocks, locations, edges}
use Rattle.automata.specs.Refusals.{refusal_of}

-- "3 + 8n each"
abbrev pub edge_size : List ℕ → ℕ
edge_size b = 3 + 8 * clocks b

-- "8n each" for each location
abbrev pub invariants_size : List ℕ → ℕ
invariants_size b = 8 * clocks b * locations b

-- the edges as drawn, each its bytes
abbrev pub drawn : List ℕ → List Edge
drawn b = edges_from (edge_size b) b (11 + invariants_size b) (edges b)

-- whether they rise already, each less than the next
unfoldable pub in_order : List ℕ → Bool
in_order b = rising (drawn b)

-- "a shelf with any other card is now unsound": not turned down, and its own form (Forms, `OwnForm`, `decided`)
unfoldable pub is_canonical : List ℕ → Bool
is_canonical b = eqb (refusal_of b) 0 && in_order b

-- the edges in order, each once
abbrev pub ordered : List ℕ → List Edge
ordered b = sorted (drawn b)

-- head, invariants, and the edges in order
abbrev pub form_length : List ℕ → ℕ
form_length b = 11 + invariants_size b + length (ordered b) * edge_size b

-- length and number of edges put right, the edges in order; all else as drawn: version, counts, start and target in five bytes, the invariants
unfoldable pub canonical_of : List ℕ → List ℕ
canonical_of b =
    be32 (form_length b) ++ (take 5 (drop 4 b) ++ (be16 (length (ordered b)) ++ (take (invariants_size b) (drop 11 b) ++ joined (ordered b))))

-- ---- "up to the numbering of edges"
-- a drawn edge's number in the form, and a number of the form as drawn
abbrev pub to_form : List ℕ → ℕ → ℕ
to_form b = number_in (drawn b) (ordered b)

abbrev pub to_drawn : List ℕ → ℕ → ℕ
to_drawn b = number_in (ordered b) (drawn b)
