-- The numbers of a buffer as naturals.
use Rattle.std.specs.Prelude.{ℕ, ◌+◌, ◌≤◌, ◌≡◌, cond, List, ltb, ℤ, pos, negsuc, length, get_or}
use Rattle.std.proofs.Math.Seq.{slice}
use Rattle.runs.specs.Limits.{scale}

-- a wait or an edge; a number that no run has becomes one more than the scale
unfoldable pub capped : ℤ → ℕ
capped (pos n) = cond (ltb scale n) (scale + 1) n
capped (negsuc n) = scale + 1

-- "It begins with its own count of numbers": the count, or 0 where it is below 0 or above k, the numbers that there are
unfoldable pub count_of : ℤ → ℕ → ℕ
count_of (pos n) k = cond (ltb k n) 0 n
count_of (negsuc n) k = 0

-- the count of a buffer
abbrev pub announced : List ℤ → ℕ
announced r = count_of (get_or r 0 (pos 0)) (length r)

-- the numbers zs of the buffer r stand behind its count
pub record Announced (r zs : List ℤ) : Type 0 where
  pub some : 1 ≤ announced r
  pub numbers : zs ≡ slice 1 (announced r) r
