-- The loop of `clock_before`: of the indices before b that are not reset, the least way counts.
use Prim.Native.Nat.{◌-◌}
use mathlib.Core.Path.{◌≡◌}
use Rattle.zones.specs.Zones.{set_of}
use Rattle.witness.specs.Witnesses.{least_to}
use Rattle.witness.proofs.Square.clock_before.Given as goal

abbrev pub invariant-loop-b : goal.invariant-loop-b
invariant-loop-b l = l.least ≡ least_to l.u.clocks l.self.pairs (set_of l.resets) l.x (l.b - 1)
