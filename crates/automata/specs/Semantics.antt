-- The timed automaton of the bytes, and the runs that it allows.
use Rattle.std.specs.Prelude.{ℕ, List}
use Rattle.runs.specs.Runs.{System}
use Rattle.runs.specs.Timed.{TimedAutomaton, system_for}
use Rattle.automata.specs.Automata.{clocks, edges, from, to, start, target, resets_of, guard_of, invariant_of}

abbrev pub automaton_of : List ℕ → TimedAutomaton
automaton_of b =
    record {
      clocks = clocks b;
      edges = edges b;
      from = from b;
      to = to b;
      start = start b;
      target = target b;
      resets = resets_of b;
      guard = guard_of b;
      invariant = invariant_of b;
    }

abbrev pub system_of : List ℕ → System
system_of b = system_for (automaton_of b)
