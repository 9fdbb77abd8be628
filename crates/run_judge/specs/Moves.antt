-- One step of a run from a state, where it may be made.
use Rattle.std.specs.Prelude.{ℕ, cond, List, replicate, ltb, leb, eqb, Option, Some, None}
use Rattle.runs.specs.Limits.{scale}
use Rattle.automata.specs.Automata.{clocks, edges, start, from}
use Rattle.automata.specs.Opened.{edge_of}
use Rattle.automata.specs.declared.fields.Edge.{Edge}
use Rattle.run_judge.specs.declared.state.State.{State}
use Rattle.run_judge.specs.Clocks.{meets_invariant, meets_guard, waited, reset_by, marked_in}

-- the state q, where the invariant of its location holds
unfoldable pub arrived : List ℕ → State → Option State
arrived b q = cond (meets_invariant b q.location q.clocks) (Some q) None

-- "A run starts at the start location with all clocks 0"
unfoldable pub first_move : List ℕ → Option State
first_move b = arrived b (record { location = start b; clocks = replicate 8 0 })

-- a wait of t: one above every limit is not made
unfoldable pub wait_move : List ℕ → State → ℕ → Option State
wait_move b q t = cond (ltb scale t) None (arrived b (record { location = q.location; clocks = waited t (clocks b) q.clocks }))

-- edge i, fetched as e, with the clocks c: the guard before the reset, the invariant at arrival after it
unfoldable pub edge_move : List ℕ → ℕ → Edge → List ℕ → Option State
edge_move b i e c =
    cond (meets_guard b i c) (arrived b (record { location = e.to; clocks = reset_by (marked_in e.resets) (clocks b) c })) None

-- a jump by edge i, which there is and which leaves the location
unfoldable pub jump_move : List ℕ → State → ℕ → Option State
jump_move b q i = cond (leb (edges b) i) None (cond (eqb (from b i) q.location) (edge_move b i (edge_of b i) q.clocks) None)
