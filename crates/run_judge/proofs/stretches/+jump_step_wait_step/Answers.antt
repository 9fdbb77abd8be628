-- `wait_step` and `jump_step` meet their contracts where a number is left.
-- Assumes nothing.
use borrow.Author.Rules.{rules}
use Rattle.std.specs.Prelude.{Some, None}
use Rattle.run_judge.specs.declared.stretches.Left.{Left}
use Rattle.run_judge.proofs.stretches.Stretches.{wait_no, wait_on, jump_on, jump_back}
use Rattle.run_judge.proofs.stretches.+jump_step_wait_step.Goals as goal

pub wait_step-returns-in_default-wait : goal.wait_step-returns-in_default-wait
wait_step-returns-in_default-wait t c = wait_no c.args.left.now (search rules) c.in-Some.ensures.cases c.in_default-wait.ensures

pub wait_step-returns : goal.wait_step-returns
wait_step-returns t c =
    let after : Left = record { ready = c.in-Some-wait.ready; numbers = c.in-Some.numbers } in
    wait_on c.args.left.now (search rules) after c.in-Some.ensures.cases c.in-Some-wait.ensures c.jump_step.new.left _ c.jump_step.ensures

pub jump_step-returns-in_default-jump : goal.jump_step-returns-in_default-jump
jump_step-returns-in_default-jump t c =
    jump_back c.args.left.now (search rules) None c.in-Some.numbers c.in-Some.ensures.cases c.in_default-jump.ensures

pub jump_step-returns-then-further-eq0 : goal.jump_step-returns-then-further-eq0
jump_step-returns-then-further-eq0 t c =
    jump_back c.args.left.now (search rules) (Some c.in-Some-jump.ready) c.in-Some.numbers c.in-Some.ensures.cases c.in-Some-jump.ensures

pub jump_step-returns : goal.jump_step-returns
jump_step-returns t c =
    let after : Left = record { ready = c.in-Some-jump.ready; numbers = c.in-Some.numbers } in
    jump_on c.args.left.now (search rules) after c.in-Some.ensures.cases c.in-Some-jump.ensures c.wait_step.new.left _ c.wait_step.ensures
