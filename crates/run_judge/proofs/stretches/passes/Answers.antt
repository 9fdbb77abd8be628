-- `passes` meets its contract: what is left to judge comes to the whole's answer.
-- Assumes nothing.
use Rattle.run_judge.proofs.stretches.Ending.{passes_out, passes-start, rest_next, rest_over, less}
use Rattle.run_judge.proofs.stretches.passes.Goals as goal

pub returns-in_default : goal.returns-in_default
returns-in_default c = passes_out _ c.args.numbers c.in_default.ensures

pub loop-passed-init : goal.loop-passed-init
loop-passed-init c = passes-start _ c.args.numbers c.in-Some.ready c.in-Some.ensures

pub loop-passed-smaller : goal.loop-passed-smaller
loop-passed-smaller c = less c.loop-passed.left c.wait_step.new.left _ c.in_default-wait_step.ensures

pub loop-passed-preserved : goal.loop-passed-preserved
loop-passed-preserved c = rest_next c.loop-passed.left c.loop-passed.invariant c.wait_step.new.left c.in_default-wait_step.ensures

pub returns-in-Some-wait_step : goal.returns-in-Some-wait_step
returns-in-Some-wait_step c =
    rest_over c.loop-passed.left c.loop-passed.invariant c.wait_step.new.left c.in-Some-wait_step.passed c.in-Some-wait_step.ensures
