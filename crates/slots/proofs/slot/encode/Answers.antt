-- Each pair that is put is one of the first 81, and in range.
-- Assumes nothing.
use Prim.Native.Nat.{◌+◌, ◌*◌}
use native.Mathlib.Omega.{arith}
use Rattle.slots.proofs.slot.Loops.{place_few}
use Rattle.slots.proofs.slot.encode.Goals as goal
use Rattle.zones.proofs.places.Inside.{bounded_place}

pub put_pair-requires : goal.put_pair-requires
put_pair-requires c =
    let i = c.loop-i.i in
    let j = c.loop-j.j in (
      place_few c.args.size (omega arith) i j (omega arith) (omega arith),
      bounded_place _ _ _ _ (i * 9 + j) c.requires.all_bounded (omega arith) (omega arith),
    )
