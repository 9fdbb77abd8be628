-- The loops of `decode`: the zone has the pairs of the places before (i, 0), or before (i, j).
use Prim.Native.Nat.{◌+◌, ◌*◌}
use mathlib.Core.Path.{◌≡◌}
use Rattle.slots.specs.Slots.{square_to}
use Rattle.slots.proofs.slot.decode.Given as goal

abbrev pub invariant-loop-i : goal.invariant-loop-i
invariant-loop-i l = l.z ≡ square_to l.size (l.i * 9) l.slot

abbrev pub invariant-loop-j : goal.invariant-loop-j
invariant-loop-j l = l.z ≡ square_to l.size (l.i * 9 + l.j) l.slot
