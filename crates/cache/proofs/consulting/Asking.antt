-- Making empty where there is room, and the room for a record where there is no 12.
-- Assumes nothing.
use Prim.Native.Nat.{ℕ, ◌≤◌}
use mathlib.Core.Bool.{false}
use mathlib.Core.List.{List}
use mathlib.Core.Path.{◌≡◌, refl}
use borrow.Author.Tests.{le-ltb}
use lib.ListN.{length}
use native.Mathlib.Omega.{arith}
use Rattle.std.proofs.lemmas.Grind.{common_steps}
use Rattle.std.specs.Prelude.{Ok}
use Rattle.cache.specs.declared.layout.Layout.{Layout}
use Rattle.encoding.specs.Placing.{placed}
use Rattle.cache.specs.Layouts.{header_length}
use Rattle.cache.specs.Caches.{used_of}
use Rattle.cache.specs.Consulting.{make_empty_reply, empty_header, make_empty_as, full, Room}

-- ---- making empty
pub empty-made : (L : Layout) (c : List ℕ) → header_length ≤ length c
    → (Ok tt ≡ make_empty_reply c) × (placed 0 (empty_header L) c ≡ make_empty_as L c)
unfolding make_empty_reply make_empty_as
empty-made L c h =
    let room = le-ltb (length c) header_length h in
    (rw (make_empty_reply, room) refl, rw (make_empty_as, room) refl)

-- ---- 12
pub has_room : (c : List ℕ) (size : ℕ) → header_length ≤ used_of c → full c size ≡ false → Room c size
unfolding full
has_room c size h e = grind (arith, common_steps)
