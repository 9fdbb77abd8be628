-- Document 01's opened card: an automaton that carries the lent bytes it was read from.
use Rattle.std.specs.Prelude.{ℕ, ◌+◌, ◌≡◌, List, Option, None, Some, cond, eqb, get_or}
use Rattle.automata.specs.Automata.{clocks, locations, start, target, edges, edge_at, reset_set, lo_at, hi_at, no_upper}
use Rattle.automata.specs.declared.fields.Edge.{Edge}
use Rattle.automata.specs.declared.fields.Head.{Head}
use Rattle.automata.specs.declared.fields.Limits.{Limits}

-- the counts of bytes
pub record Counted (s : List ℕ) (n m e : ℕ) : Type 0 where
  pub clocks≡ : n ≡ clocks s
  pub locations≡ : m ≡ locations s
  pub edges≡ : e ≡ edges s

-- ---- what is fetched of bytes
-- the counts, the start and the target
abbrev pub head_of : List ℕ → Head
head_of s = record { clocks = clocks s; locations = locations s; start = start s; target = target s; edges = edges s }

-- the edge that stands at a place: its ends and its resets
abbrev pub edge_there : List ℕ → ℕ → Edge
edge_there s at = record { from = get_or s at 0; to = get_or s (at + 1) 0; resets = reset_set (get_or s (at + 2) 0) }

-- edge i: from, to, and the reset byte's set
abbrev pub edge_of : List ℕ → ℕ → Edge
edge_of s i = edge_there s (edge_at s i)

-- of clock x, from 1, among the limits at `at`
abbrev pub limits_of : List ℕ → ℕ → ℕ → Limits
limits_of s at x = record { lo = lo_at s at x; hi = hi_at s at x }

-- a hi, where there is one
unfoldable pub upper_of : ℕ → Option ℕ
upper_of hi = cond (eqb hi no_upper) None (Some hi)
