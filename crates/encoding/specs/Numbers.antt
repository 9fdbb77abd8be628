-- "Big-endian numbers": read at a place of a byte string, 0 for bytes that are not there, and written.
use Rattle.std.specs.Prelude.{ℕ, ◌+◌, ◌*◌, ◌/◌, ◌%◌, List, [], ◌∷◌, get_or}

unfoldable pub be16_at : List ℕ → ℕ → ℕ
be16_at s at = get_or s at 0 * 256 + get_or s (at + 1) 0

unfoldable pub be32_at : List ℕ → ℕ → ℕ
be32_at s at = be16_at s at * 65536 + be16_at s (at + 2)

-- four bytes as one little-endian number, by which the code compares strings; no format has it
unfoldable pub le32_at : List ℕ → ℕ → ℕ
le32_at s at = get_or s at 0 + get_or s (at + 1) 0 * 256 + get_or s (at + 2) 0 * 65536 + get_or s (at + 3) 0 * 16777216

-- the two bytes of a number, and its four, the largest first
unfoldable pub be16 : ℕ → List ℕ
be16 x = x / 256 % 256 ∷ x % 256 ∷ []

unfoldable pub be32 : ℕ → List ℕ
be32 x = x / 16777216 % 256 ∷ x / 65536 % 256 ∷ x / 256 % 256 ∷ x % 256 ∷ []
