-- The loops of `reset`: what they keep.
use Prim.Native.Nat.{◌+◌, ◌*◌}
use mathlib.Core.Path.{◌≡◌}
use mathlib.Core.List.{List}
use lib.ListN.{length}
use Rattle.zones.specs.declared.pair.Pair.{Pair}
use Rattle.zones.specs.Zones.{set_of, reset_places}
use Rattle.zones.proofs.zone.Work.reset.Given as goal

-- of a row, whatever square the reset began with
abbrev pub invariant-loop-j : goal.invariant-loop-j
invariant-loop-j l =
    (l.work.fraction ≡ l.initial.work.fraction)
    × ((y : List Pair) → length y ≡ 81 → l.initial.work.zone ≡ reset_places (set_of l.marked) y (l.i * 9) y
    → l.work.zone ≡ reset_places (set_of l.marked) y (l.i * 9 + l.j) y)

abbrev pub invariant-loop-i : goal.invariant-loop-i
invariant-loop-i l =
    (l.work.zone ≡ reset_places (set_of l.marked) l.initial.work.zone (l.i * 9) l.initial.work.zone)
    × (l.work.fraction ≡ l.initial.work.fraction)
