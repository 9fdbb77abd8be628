-- `earlier` meets its contract: no clock goes up.
use native.Mathlib.Omega.{arith}
use Rattle.runs.specs.Limits.{scale}
use Rattle.witness.proofs.Sizes.{earlier_most}
use Rattle.witness.proofs.Valuation.earlier.Goals as goal

pub invariant_of-result : goal.invariant_of-result
invariant_of-result c = record {
  up_to = earlier_most scale _ _ _ c.args.self.up_to (omega (arith, c.requires, c.loop-x.invariant.0))
      c.loop-x.invariant.1;
}
