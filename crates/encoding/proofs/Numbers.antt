-- A number of four bytes is that of its bytes; they determine each other.
-- Assumes nothing.
use Prim.Native.Nat.{ℕ, ◌+◌, ◌*◌, ◌<◌}
use mathlib.Core.List.{List, [], ◌∷◌, ◌++◌}
use mathlib.Core.Path.{◌≡◌}
use lib.ListN.{get_or}
use native.Mathlib.Omega.{arith}
use Rattle.std.proofs.lemmas.Nat.{from_be_bytes-to_be_bytes_4}
use Rattle.encoding.specs.Numbers.{be16_at, be32_at, be16, be32}

-- ---- it is that of its four bytes, wherever they stand
pub be32_same : (s t : List ℕ) (i j : ℕ) → ((k : ℕ) → k < 4 → get_or s (i + k) 0 ≡ get_or t (j + k) 0) → be32_at s i ≡ be32_at t j
unfolding be32_at be16_at
be32_same s t i j h = grind (arith, h 0 (omega arith), h 1 (omega arith), h 2 (omega arith), h 3 (omega arith))

-- ---- written and read back
pub be16-back : (x : ℕ) (rest : List ℕ) → x < 65536 → be16_at (be16 x ++ rest) 0 ≡ x
unfolding be16_at be16
be16-back x rest h = omega arith

pub be32-back : (x : ℕ) (rest : List ℕ) → x < 4294967296 → be32_at (be32 x ++ rest) 0 ≡ x
unfolding be32_at be16_at be32
be32-back x rest h = omega (arith, from_be_bytes-to_be_bytes_4 x h)

-- ---- read and written again
pub be16_own : (p q : ℕ) → p < 256 → q < 256 → be16 (p * 256 + q) ≡ p ∷ q ∷ []
unfolding be16
be16_own p q a b = grind arith

pub be32_own : (p q r s : ℕ) → p < 256 → q < 256 → r < 256 → s < 256 → be32 ((p * 256 + q) * 65536 + (r * 256 + s)) ≡ p ∷ q ∷ r ∷ s ∷ []
unfolding be32
be32_own p q r s a b c d = grind arith
