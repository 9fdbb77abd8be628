-- Bytes, or numbers, put at a place of others, which stand where they are not covered.
use Rattle.std.specs.Prelude.{ℕ, ◌+◌, List, ◌++◌, length, take, drop}

unfoldable pub placed : {X : Type 0} → ℕ → List X → List X → List X
placed at xs s = take at s ++ (xs ++ drop (at + length xs) s)
