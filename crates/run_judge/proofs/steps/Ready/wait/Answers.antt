-- `wait` meets its contract.
-- Assumes nothing.
use native.Mathlib.Omega.{arith}
use borrow.Author.Rules.{rules}
use Rattle.run_judge.proofs.numbers.Numbers.{natural_is}
use Rattle.run_judge.proofs.steps.Moving.{wait_is}
use Rattle.run_judge.proofs.steps.Ready.wait.Goals as goal

pub returns : goal.returns
returns c =
    rw (wait_is _ c.args.self.now.state _ (natural_is c.args.z (search rules) _ c.try_from.ensures c.in_ok-t.ensures.value)
    (omega (arith, c.from.ensures, c.if-from-t.false)) c.args.self.now.automaton.now.counted.clocks≡
    (search rules) c.wait.ensures)
    c.at.ensures
