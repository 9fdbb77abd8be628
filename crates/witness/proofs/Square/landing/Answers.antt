-- `landing` meets its contract: no bound is above the scale.
use native.Mathlib.Omega.{arith}
use Rattle.runs.specs.Limits.{scale}
use Rattle.witness.proofs.Sizes.{landing_most}
use Rattle.witness.proofs.Square.landing.Goals as goal

pub invariant_of-result : goal.invariant_of-result
invariant_of-result c = record {
  up_to = landing_most scale _ _ c.args.self.spans _ c.loop-x.invariant.0 (omega (arith, c.args.self.few, c.loop-x.invariant.0))
      c.loop-x.invariant.1;
}
