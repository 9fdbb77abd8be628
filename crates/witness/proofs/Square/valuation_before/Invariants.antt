-- The loop of `valuation_before`: the clocks before x are as before the jump.
use Prim.Native.Nat.{◌-◌, ◌≤◌}
use mathlib.Core.Path.{◌≡◌}
use Rattle.zones.specs.Zones.{set_of}
use Rattle.witness.specs.Witnesses.{places_of, least_to}
use Rattle.witness.proofs.Square.valuation_before.Given as goal

abbrev pub invariant-loop-x : goal.invariant-loop-x
invariant-loop-x l =
    (l.x - 1 ≤ l.self.size - 1)
    × (l.clocks ≡ places_of (λ y. least_to l.u.clocks l.self.pairs (set_of l.resets) y (l.self.size - 1)) (l.x - 1))
