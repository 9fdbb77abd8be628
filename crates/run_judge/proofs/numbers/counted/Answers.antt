-- `counted` meets its contract.
-- Assumes nothing.
use borrow.Author.Rules.{rules}
use Rattle.run_judge.proofs.numbers.Numbers.{natural_is, announced_none, announced_up_to, announced_part}
use Rattle.run_judge.proofs.numbers.counted.Goals as goal

pub returns-in_err-first : goal.returns-in_err-first
returns-in_err-first c = rw c.from_residual.ensures (announced_none _ c.in_err-first.ensures.value)

pub returns-in_err-end : goal.returns-in_err-end
returns-in_err-end c =
    rw c.from_residual-in_err-end.ensures (announced_up_to _ c.in_ok-first.ensures.value
    (natural_is _ (search rules) _ c.try_from.ensures c.in_err-end.ensures.value))

pub returns : goal.returns
returns c =
    announced_part _ (announced_up_to _ c.in_ok-first.ensures.value (natural_is _ (search rules) _ c.try_from.ensures c.in_ok-end.ensures.value)) _
    c.get.ensures.lookup
