-- Byte strings compared, the same length and the same bytes; and which numbers are bytes.
use Rattle.std.specs.Prelude.{ℕ, ◌+◌, ◌<◌, Bool, true, false, cond, List, [], ◌∷◌, eqb, get_or}

unfoldable pub same_bytes : List ℕ → List ℕ → Bool
same_bytes [] [] = true
same_bytes [] (y ∷ ys) = false
same_bytes (x ∷ xs) [] = false
same_bytes (x ∷ xs) (y ∷ ys) = cond (eqb x y) (same_bytes xs ys) false

-- ---- numbers that are bytes: two at a place, and four
pub record Two (s : List ℕ) (at : ℕ) : Type 0 where
  pub first : get_or s at 0 < 256
  pub second : get_or s (at + 1) 0 < 256

pub record Four (s : List ℕ) (at : ℕ) : Type 0 where
  pub front : Two s at
  pub back : Two s (at + 2)
