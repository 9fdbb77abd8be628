-- The greatest common divisor by Euclid, and lowest terms: an equal fraction, whose terms have the greatest common divisor 1.
-- Assumes nothing.
use Prim.Native.Nat.{ℕ, zero, suc, ◌*◌, ◌/◌, ◌%◌, ◌<◌, ◌≤◌, ◌∣◌}
use mathlib.Core.Path.{◌≡◌, refl, sym, ap, ◌∙◌}
use mathlib.Core.Logic.{⊎_elim}
use native.Mathlib.Nat.{le_refl, mod-lt, one-mul, mul_assoc, mul_right_comm, mul-lt-mul_of_pos_right, lt_of_mul-lt-mul_right, eq-zero-or-pos}
use native.Mathlib.Nat.{div_self, div-zero, div-one, zero-div, div-le_self, div-mul_cancel, dvd_refl, dvd-zero, dvd-mul_left, mul-dvd-mul_right}
use native.Mathlib.Nat.{dvd_of_mul-dvd-mul_right, dvd-mod_iff, eq-one_of_dvd-one, eq-zero_of_zero-dvd, pos_of_dvd_of_pos}
use native.Mathlib.Omega.{arith}
use Rattle.zones.specs.Fractions.{euclid, gcd_of, lowest_terms, Divides}
use Rattle.zones.specs.declared.fraction.Fraction.{Fraction}

-- ---- Euclid's algorithm
-- steps beyond the second number change nothing
euclid_enough : (m n a b : ℕ) → b ≤ m → b ≤ n → euclid m a b ≡ euclid n a b
unfolding euclid
euclid_enough zero zero a b h k = refl
euclid_enough zero (suc n) a zero h k = refl
euclid_enough zero (suc n) a (suc b) h k = omega arith
euclid_enough (suc m) zero a zero h k = refl
euclid_enough (suc m) zero a (suc b) h k = omega arith
euclid_enough (suc m) (suc n) a zero h k = refl
euclid_enough (suc m) (suc n) a (suc b) h k =
    let l = mod-lt a {m = suc b} (omega arith) in
    euclid_enough m n (suc b) (a % suc b) (omega arith) (omega arith)

pub gcd-zero : (a : ℕ) → gcd_of a 0 ≡ a
unfolding gcd_of euclid
gcd-zero a = refl

pub gcd_step : (a b : ℕ) → 0 < b → gcd_of a b ≡ gcd_of b (a % b)
unfolding gcd_of euclid
gcd_step a zero h = omega arith
gcd_step a (suc b) h =
    let l = mod-lt a h in
    euclid_enough b (a % suc b) (suc b) (a % suc b) (omega arith) (omega arith)

-- an induction along the steps: what holds of (a, 0), and of (a, b) if of (b, a % b), holds of all
module _ (P : ℕ → ℕ → ℕ → Type 0)
    (base : (a : ℕ) → P a 0 a)
    (step : (a b g : ℕ) → 0 < b → P b (a % b) g → P a b g) where
  by_steps : (n x y : ℕ) → y ≤ n → P x y (euclid n x y)
  unfolding euclid
  by_steps zero x zero h = base x
  by_steps zero x (suc y) h = absurd (omega arith)
  by_steps (suc n) x zero h = base x
  by_steps (suc n) x (suc y) h =
      let l = mod-lt x {m = suc y} (omega arith) in
      step x (suc y) _ (omega arith) (by_steps n (suc y) (x % suc y) (omega arith))

  pub by_euclid : (x y : ℕ) → P x y (gcd_of x y)
  unfolding gcd_of
  by_euclid x y = by_steps y x y (le_refl y)

-- ---- the greatest common divisor
-- the library's laws are of `◌∣◌`, which hides the factor: x / g is one
dvd_of : {g x : ℕ} → Divides g x → g ∣ x
dvd_of {g} d = rw d.product (dvd-mul_left g d.times)

of_dvd : {g x : ℕ} → g ∣ x → Divides g x
of_dvd {g} {x} d = record { times = x / g; product = sym (div-mul_cancel g d) }

dvd_both : (x y : ℕ) → (gcd_of x y ∣ x) × (gcd_of x y ∣ y)
dvd_both =
    by_euclid (λ a b g. (g ∣ a) × (g ∣ b)) (λ a. (dvd_refl a, dvd-zero a))
    (λ a b g h d. ((dvd-mod_iff g d.0).0 d.1, d.0))

dvd_greatest : (k x y : ℕ) → k ∣ x → k ∣ y → k ∣ gcd_of x y
dvd_greatest k =
    by_euclid (λ a b g. k ∣ a → k ∣ b → k ∣ g) (λ a d e. d)
    (λ a b g h next d e. next e ((dvd-mod_iff k e).1 d))

pub gcd_divides_left : (x y : ℕ) → Divides (gcd_of x y) x
gcd_divides_left x y = of_dvd (dvd_both x y).0

pub gcd_divides_right : (x y : ℕ) → Divides (gcd_of x y) y
gcd_divides_right x y = of_dvd (dvd_both x y).1

pub gcd_greatest : {k x y : ℕ} → Divides k x → Divides k y → Divides k (gcd_of x y)
gcd_greatest {k} {x} {y} d e = of_dvd (dvd_greatest k x y (dvd_of d) (dvd_of e))

pub gcd-zero-only : (x y : ℕ) → gcd_of x y ≡ 0 → (x ≡ 0) × (y ≡ 0)
gcd-zero-only x y e =
    let d = dvd_both x y in
    (eq-zero_of_zero-dvd (rw e at d.0), eq-zero_of_zero-dvd (rw e at d.1))

-- ---- lowest terms
module _ (f : Fraction) where
  whole_n : f.n ≡ (lowest_terms f).n * gcd_of f.n f.d
  unfolding lowest_terms
  whole_n = sym (div-mul_cancel _ (dvd_both f.n f.d).0)

  whole_d : f.d ≡ (lowest_terms f).d * gcd_of f.n f.d
  unfolding lowest_terms
  whole_d = sym (div-mul_cancel _ (dvd_both f.n f.d).1)

  -- the sides of a comparison with f: those with its lowest terms, times the divisor
  scaled_n : (s : ℕ) → f.n * s ≡ (lowest_terms f).n * s * gcd_of f.n f.d
  scaled_n s = ap (λ k. k * s) whole_n ∙ mul_right_comm _ _ _

  scaled_d : (e : ℕ) → e * f.d ≡ e * (lowest_terms f).d * gcd_of f.n f.d
  scaled_d e = ap (λ k. e * k) whole_d ∙ sym (mul_assoc _ _ _)

  -- the same fraction
  pub lowest_equal : (lowest_terms f).n * f.d ≡ f.n * (lowest_terms f).d
  lowest_equal = scaled_d _ ∙ sym (scaled_n _)

  -- only 0/0 has the divisor 0
  lowest_of_zero : gcd_of f.n f.d ≡ 0 → lowest_terms f ≡ f
  unfolding lowest_terms
  lowest_of_zero e =
      let z = gcd-zero-only f.n f.d e in
      simp (e, div-zero) (λ i. record { n = sym z.0 i; d = sym z.1 i })

  -- and a divisor of 1 changes nothing
  pub lowest_of_small : gcd_of f.n f.d ≤ 1 → lowest_terms f ≡ f
  unfolding lowest_terms
  lowest_of_small h =
      ⊎_elim lowest_of_zero (λ p. let e : gcd_of f.n f.d ≡ 1 = omega arith in simp (e, div-one) refl) (eq-zero-or-pos (gcd_of f.n f.d))

  -- the same limit: what is below the one is below the other
  pub below-from_lowest : (e s : ℕ) → e * (lowest_terms f).d < (lowest_terms f).n * s → e * f.d < f.n * s
  below-from_lowest e s h =
      ⊎_elim (λ z. rw (lowest_of_zero z) at h)
      (λ p. rw (scaled_d, scaled_n) (mul-lt-mul_of_pos_right h p))
      (eq-zero-or-pos (gcd_of f.n f.d))

  pub below-to_lowest : (e s : ℕ) → e * f.d < f.n * s → e * (lowest_terms f).d < (lowest_terms f).n * s
  below-to_lowest e s h = lt_of_mul-lt-mul_right _ (rw (scaled_d, scaled_n) at h)

  pub lowest_n_le : (lowest_terms f).n ≤ f.n
  unfolding lowest_terms
  lowest_n_le = div-le_self _ _

  pub lowest_d_le : (lowest_terms f).d ≤ f.d
  unfolding lowest_terms
  lowest_d_le = div-le_self _ _

  module _ (h : 0 < f.n) where
    pub lowest_positive : 0 < (lowest_terms f).n
    lowest_positive = omega (arith, below-to_lowest 0 1 (omega arith))

    -- no limit becomes 1/0
    pub lowest_unlimited : f.d ≡ 0 → lowest_terms f ≡ record { n = 1; d = 0 }
    unfolding lowest_terms
    lowest_unlimited e = simp (e, gcd-zero, div_self h, zero-div)

    divisor_positive : 0 < gcd_of f.n f.d
    divisor_positive = pos_of_dvd_of_pos (dvd_both f.n f.d).0 h

    pub lowest_coprime : gcd_of (lowest_terms f).n (lowest_terms f).d ≡ 1
    lowest_coprime =
        let d = dvd_both (lowest_terms f).n (lowest_terms f).d in
        let l = rw (← whole_n) at (mul-dvd-mul_right _ d.0 (gcd_of f.n f.d)) in
        let r = rw (← whole_d) at (mul-dvd-mul_right _ d.1 (gcd_of f.n f.d)) in
        let g = dvd_greatest _ _ _ l r in
        eq-one_of_dvd-one (dvd_of_mul-dvd-mul_right _ {n = 1} divisor_positive (rw one-mul g))
