-- "One running fraction is lowered where it stands by every comparison made in meeting limits and in reduction. It starts at 1/0, no limit,
-- and is given out in lowest terms." That is the exact one; document 02 has a safe one beside it, which is lowered likewise, but less often.
use Rattle.std.specs.Prelude.{ℕ, zero, suc, ◌*◌, ◌/◌, ◌%◌, ◌≤◌, ◌≡◌, cond, ltb}
use Rattle.zones.specs.declared.fraction.Fraction.{Fraction}

abbrev pub no_limit : Fraction
no_limit = record { n = 1; d = 0 }

-- the lower of two fractions, the first where they are equal
unfoldable pub lowered_by : Fraction → Fraction → Fraction
lowered_by f g = cond (ltb (g.n * f.d) (f.n * g.d)) g f

-- f is not above g; 1/0 is above every other
abbrev pub AtMost : Fraction → Fraction → Type 0
AtMost f g = f.n * g.d ≤ g.n * f.d

-- ---- "in lowest terms"
-- Euclid's algorithm in at most the given number of steps
unfoldable pub euclid : ℕ → ℕ → ℕ → ℕ
euclid zero a b = a
euclid (suc steps) a zero = a
euclid (suc steps) a (suc b) = euclid steps (suc b) (a % suc b)

-- the greatest common divisor; y steps are enough, as each makes the second number smaller
unfoldable pub gcd_of : ℕ → ℕ → ℕ
gcd_of x y = euclid y x y

-- n and d divided by their greatest common divisor; 0/0 stays, as 0 / 0 is 0
unfoldable pub lowest_terms : Fraction → Fraction
lowest_terms f = record { n = f.n / gcd_of f.n f.d; d = f.d / gcd_of f.n f.d }

-- g divides x
pub record Divides (g x : ℕ) : Type 0 where
  pub times : ℕ
  pub product : x ≡ times * g
