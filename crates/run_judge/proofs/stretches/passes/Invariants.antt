-- The loop of `passes`: what is left comes to the whole's answer, and falls.
use Rattle.run_judge.specs.Judging.{begins}
use Rattle.run_judge.specs.Stretches.{Rest}
use Rattle.run_judge.proofs.stretches.Ending.{left}
use Rattle.run_judge.proofs.stretches.passes.Given as goal

abbrev pub invariant-loop-passed : goal.invariant-loop-passed
invariant-loop-passed l = Rest l.automaton.bytes.now (begins l.automaton.bytes.now l.numbers) l.left

abbrev pub decreases-loop-passed : goal.decreases-loop-passed
decreases-loop-passed l = left l.left
