-- The loop of `wait_before`: no clock before x is above its bound by more than the wait.
use Prim.Native.Nat.{◌-◌, ◌≤◌}
use mathlib.Core.Path.{◌≡◌}
use Rattle.witness.specs.Witnesses.{wait_to}
use Rattle.witness.proofs.Square.wait_before.Given as goal

abbrev pub invariant-loop-x : goal.invariant-loop-x
invariant-loop-x l = (l.x - 1 ≤ l.self.size - 1) × (l.wait ≡ wait_to l.v.clocks l.self.pairs (l.x - 1))
