-- The loop of `landing`: the clocks before x are at their least.
use Prim.Native.Nat.{◌-◌, ◌≤◌}
use mathlib.Core.Path.{◌≡◌}
use Rattle.zones.specs.Integers.{down}
use Rattle.zones.specs.Zones.{pair_at}
use Rattle.witness.specs.Witnesses.{places_of}
use Rattle.witness.proofs.Square.landing.Given as goal

abbrev pub invariant-loop-x : goal.invariant-loop-x
invariant-loop-x l = (l.x - 1 ≤ l.self.size - 1) × (l.clocks ≡ places_of (λ y. down (pair_at l.self.pairs 0 y).m) (l.x - 1))
