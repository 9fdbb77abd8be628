-- Document 02, Change 2: a run written as numbers.
use Rattle.std.specs.Prelude.{ℕ, ◌+◌, ◌*◌, List, [], ◌∷◌, ℤ, pos, length}
use Rattle.runs.specs.Runs.{Step, wait, jump, jumps}

-- "A run in whole time units .. is written .. into a lent buffer of 64-bit signed numbers": the time units of a wait, the edge of a jump
abbrev pub numbers : List Step → List ℤ
numbers [] = []
numbers (wait t ∷ xs) = pos t ∷ numbers xs
numbers (jump i ∷ xs) = pos i ∷ numbers xs

-- "a wait is followed by a jump and a jump by a wait, waits at both ends"
pub data ByTurns : List Step → Type 0 where
  alone : (t : ℕ) → ByTurns (wait t ∷ [])
  then : (t i : ℕ) {xs : List Step} → ByTurns xs → ByTurns (wait t ∷ jump i ∷ xs)

-- "It begins with its own count of numbers, 2k + 2 for k jumps."
abbrev pub written : List Step → List ℤ
written xs = pos (2 * length (jumps xs) + 2) ∷ numbers xs
