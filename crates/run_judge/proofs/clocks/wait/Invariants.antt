-- The loop of `wait`: what it keeps.
use mathlib.Core.Path.{◌≡◌}
use Rattle.run_judge.specs.Clocks.{waited}
use Rattle.run_judge.proofs.clocks.wait.Given as goal

abbrev pub invariant-loop-c : goal.invariant-loop-c
invariant-loop-c l = l.clocks ≡ waited l.t l.c-index l.initial.clocks
