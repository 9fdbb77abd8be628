-- The loop of `meet`: what it keeps.
use Prim.Native.Nat.{◌-◌}
use mathlib.Core.Path.{◌≡◌}
use mathlib.Core.Bool.{true}
use Rattle.zones.specs.Zones.{meet_limits}
use Rattle.automata.specs.Automata.{limits_at}
use Rattle.search.proofs.successor.meet.Given as goal

abbrev pub invariant-loop-x : goal.invariant-loop-x
invariant-loop-x l =
    (l.work ≡ meet_limits (limits_at l.constraint.bytes.now l.constraint.at) (l.x - 1) l.initial.work)
    × (l.same ≡ true → (l.initial.same ≡ true) × (l.work.zone ≡ l.initial.work.zone))
