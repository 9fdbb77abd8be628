-- The loops of `encode`: the slot has the pairs of the places before (i, 0), or before (i, j), and zeros.
use Prim.Native.Nat.{◌+◌, ◌*◌}
use mathlib.Core.Path.{◌≡◌}
use Rattle.slots.specs.Slots.{head_of}
use Rattle.slots.proofs.slot.Loops.{encoded}
use Rattle.slots.proofs.slot.encode.Given as goal

abbrev pub invariant-loop-i : goal.invariant-loop-i
invariant-loop-i l = l.slot ≡ encoded l.size (head_of l.location l.fn.origin) l.z (l.i * 9)

abbrev pub invariant-loop-j : goal.invariant-loop-j
invariant-loop-j l = l.slot ≡ encoded l.size (head_of l.location l.fn.origin) l.z (l.i * 9 + l.j)
