-- Numbers written over the front of what was there.
-- Assumes nothing.
use Prim.Native.Nat.{ℕ, zero, suc, min}
use mathlib.Core.List.{List, [], ◌∷◌, ◌++◌}
use mathlib.Core.Path.{◌≡◌, refl, ap}
use lib.ListN.{length, take, drop}
use native.Mathlib.Omega.{arith}
use Rattle.exports.specs.Replies.{over}

-- as many as there is room for, and what stands behind them
pub over_front : (xs old : List ℕ) (n : ℕ) → n ≡ min (length old) (length xs) → take n xs ++ drop n old ≡ over xs old
unfolding over
over_front [] old zero h = refl
over_front [] old (suc n) h = absurd (omega arith)
over_front (x ∷ xs) [] zero h = refl
over_front (x ∷ xs) [] (suc n) h = absurd (omega arith)
over_front (x ∷ xs) (y ∷ ys) zero h = absurd (omega arith)
over_front (x ∷ xs) (y ∷ ys) (suc n) h = ap (λ (l : List ℕ). x ∷ l) (over_front xs ys n (omega arith))
