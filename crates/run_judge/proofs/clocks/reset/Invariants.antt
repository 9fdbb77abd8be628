-- The loop of `reset`: what it keeps.
use mathlib.Core.Path.{◌≡◌}
use Rattle.run_judge.specs.Clocks.{reset_by, marked_in}
use Rattle.run_judge.proofs.clocks.reset.Given as goal

abbrev pub invariant-loop-x : goal.invariant-loop-x
invariant-loop-x l = l.clocks ≡ reset_by (marked_in l.resets) l.x l.initial.clocks
