-- What follows from a test that both passes and fails.
-- Assumes nothing.
use mathlib.Core.Bool.{true, false}
use mathlib.Core.Path.{◌≡◌, subst}
use lib.Dec.{T}

pub true_false {ℓ} : {X : Type ℓ} → true ≡ false → X
true_false e = absurd (subst T e tt)
