-- `valuation_before` meets its contract: no clock is above its bound.
use native.Mathlib.Omega.{arith}
use Rattle.runs.specs.Limits.{scale}
use Rattle.witness.proofs.Sizes.{before_most}
use Rattle.witness.proofs.Square.valuation_before.Goals as goal

pub invariant_of-result : goal.invariant_of-result
invariant_of-result c = record {
  up_to = before_most scale _ _ c.args.self.spans _ c.loop-x.invariant.0 (omega (arith, c.args.self.few, c.loop-x.invariant.0))
      _ _ c.loop-x.invariant.1;
}
