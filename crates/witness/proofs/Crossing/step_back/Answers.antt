-- `step_back` meets its contract: a wait is no longer than a clock and a bound.
use native.Mathlib.Omega.{arith}
use Rattle.runs.specs.Limits.{scale}
use Rattle.witness.proofs.Sizes.{wait_most}
use Rattle.witness.proofs.Crossing.step_back.Goals as goal

pub invariant_of-result : goal.invariant_of-result
invariant_of-result c = record {
  short = wait_most scale _ _ _ _ c.args.v.up_to c.args.self.arrived.spans (omega arith) c.wait_before-wait.ensures;
}
