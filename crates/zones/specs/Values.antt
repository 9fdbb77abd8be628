-- What a pair stands for at the error e/s, in ticks of 1/s: m × s + p × e.
use Rattle.std.specs.Prelude.{ℕ, ◌*◌, ◌<◌, ℤ, pos, ◌+ℤ◌, ◌*ℤ◌}
use Rattle.zones.specs.declared.fraction.Fraction.{Fraction}
use Rattle.zones.specs.declared.pair.Pair.{Pair}

unfoldable pub value_of : ℕ → ℕ → Pair → ℤ
value_of s e a = a.m *ℤ pos s +ℤ pos (a.p * e)

-- the error e/s is below the fraction n/d; below 1/0 there is every error
abbrev pub Below : ℕ → ℕ → Fraction → Type 0
Below s e f = e * f.d < f.n * s
