-- `clock_before` meets its contract.
use mathlib.Core.Path.{◌∙◌}
use native.Mathlib.Omega.{arith}
use Rattle.witness.proofs.Parts.{entry_plus}
use Rattle.witness.proofs.Turns.{least_next, least_skips}
use Rattle.witness.proofs.Square.clock_before.Goals as goal
use Rattle.witness.proofs.Square.clock_before.Goals.{then-not-resets-b, else-not-resets-b}

pub loop-b-preserved : goal.loop-b-preserved
loop-b-preserved c =
    let b = c.loop-b in
    elim c.if-not-resets-b.branch [
      | then-not-resets-b w ↦ w.least-is ∙ least_next _ _ _ _ b.b (omega arith) b.invariant w.if-not-resets-b.true
          (w.saturating_add_signed.ensures ∙ entry_plus _ _ c.args.self.spans c.args.x c.requires _ (c.args.u.up_to _) b.b (omega arith))
          w.min-least.ensures
      | else-not-resets-b w ↦ w.least-is ∙ least_skips _ _ _ _ b.b (omega arith) b.invariant w.if-not-resets-b.false
    ]
