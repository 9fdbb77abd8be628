-- What a threshold is for: below it, the chosen pair has the smaller value. Below a lowered fraction is below both, and no numerator is
-- ever 0, so that no error at all is always below.
-- Assumes nothing.
use Prim.Native.Nat.{ℕ, zero, suc, ◌+◌, ◌-◌, ◌*◌, ◌<◌, ◌≤◌}
use mathlib.Core.Path.{◌≡◌, ap}
use mathlib.Core.Bool.{false}
use lib.IntN.{pos, ◌+ℤ◌, ◌-ℤ◌, ◌*ℤ◌, nat_abs}
use lib.Signed.{◌≤ℤ◌, ◌<ℤ◌}
use native.Mathlib.Omega.{arith}
use native.Mathlib.Nat.{mul-le-mul_right, lt_of_mul-lt-mul_right, mul-lt-mul_of_pos_right, mul-pos}
use native.Mathlib.Decide.{dec_lt}
use Rattle.zones.specs.declared.fraction.Fraction.{Fraction}
use Rattle.zones.specs.declared.pair.Pair.{Pair}
use Rattle.zones.specs.Integers.{up, down}
use Rattle.zones.proofs.pairs.Integers.{int, le_read, lt_read, sum_law, times_law, abs_gap}
use Rattle.zones.specs.Fractions.{lowered_by, AtMost}
use Rattle.zones.specs.Pairs.{zero_pair, sum_of, is_less, threshold_of, smaller_of}
use Rattle.zones.specs.Values.{value_of, Below}
use Rattle.zones.proofs.pairs.Choices.{less_shows, not_less_shows, threshold_cases, smaller_cases, lowered_cases}

-- ---- numerators
pub threshold_n : (a b : Pair) → (b.p < a.p → a.m <ℤ b.m) → 0 < (threshold_of a b).n
threshold_n a b h =
    threshold_cases a b (λ f. 0 < f.n) (λ t. let l = h t in omega (arith, lt_read l, abs_gap a.m b.m (omega (arith, int)))) (λ t. omega arith)

pub choice_n : (a b : Pair) → 0 < (smaller_of a b).threshold.n
choice_n a b =
    smaller_cases a b (λ c. 0 < c.threshold.n) (λ e. threshold_n b a (λ l. (less_shows b a e).1 (omega arith)))
    (λ e. threshold_n a b (not_less_shows a b e).1)

pub lowered_n : (f g : Fraction) → 0 < f.n → 0 < g.n → 0 < (lowered_by f g).n
lowered_n f g hf hg = lowered_cases f g (λ x. 0 < x.n) (λ l. hg) (λ l. hf)

-- the threshold of a pair that is not above the other, as a containment test has it
pub beside_n : (a b : Pair) → is_less b a ≡ false → 0 < (threshold_of a b).n
beside_n a b e = threshold_n a b (not_less_shows a b e).1

pub proper_below : (f : Fraction) → 0 < f.n → Below 1 0 f
proper_below f h = omega arith

-- ---- values
module _ (s e : ℕ) where
  -- the value, as naturals
  pub value_law : (a : Pair) → up (value_of s e a) + down a.m * s ≡ up a.m * s + a.p * e + down (value_of s e a)
  unfolding value_of
  value_law a = omega (arith, sum_law (a.m *ℤ pos s) (pos (a.p * e)), times_law a.m s)

  pub zero_value : value_of s e zero_pair ≡ pos 0
  zero_value = omega (arith, int, value_law zero_pair)

  pub value_sum : (a b : Pair) → value_of s e (sum_of a b) ≡ value_of s e a +ℤ value_of s e b
  unfolding sum_of
  value_sum a b =
      omega (
        arith,
        int,
        value_law a,
        value_law b,
        value_law (sum_of a b),
        sum_law (value_of s e a) (value_of s e b),
        ap (λ (n : ℕ). n * s) (sum_law a.m b.m).even,
      )

  pub value_pos : (a : Pair) → pos 0 ≤ℤ a.m → pos 0 ≤ℤ value_of s e a
  value_pos a h = omega (arith, int, value_law a, mul-le-mul_right s (le_read h))

  -- below its threshold, the chosen pair has the smaller value
  at_gap : (a b : Pair) (d n : ℕ) → d + b.p ≡ a.p → n + (up a.m + down b.m) ≡ up b.m + down a.m → e * d < n * s →
      value_of s e a <ℤ value_of s e b
  at_gap a b d n g f u = omega (arith, int, value_law a, value_law b, ap (λ (x : ℕ). x * s) f, ap (λ (x : ℕ). x * e) g)

  above : (a b : Pair) → b.p < a.p → a.m ≤ℤ b.m → Below s e (record { n = nat_abs (b.m -ℤ a.m); d = a.p - b.p }) →
      value_of s e a <ℤ value_of s e b
  above a b l h t = at_gap a b (a.p - b.p) (nat_abs (b.m -ℤ a.m)) (omega arith) (abs_gap a.m b.m h) t

  pub threshold_sound : (a b : Pair) → a.m ≤ℤ b.m → Below s e (threshold_of a b) → value_of s e a ≤ℤ value_of s e b
  threshold_sound a b h =
      threshold_cases a b (λ f. Below s e f → value_of s e a ≤ℤ value_of s e b) (λ l t. let k = above a b l h t in omega (arith, int))
      (λ l t. omega (arith, int, value_law a, value_law b, mul-le-mul_right s (le_read h), mul-le-mul_right e l))

  pub threshold_strict : 0 < s → (a b : Pair) → a.m <ℤ b.m → Below s e (threshold_of a b) → value_of s e a <ℤ value_of s e b
  threshold_strict s> a b h =
      threshold_cases a b (λ f. Below s e f → value_of s e a <ℤ value_of s e b) (λ l t. above a b l (omega (arith, int)) t)
      (λ l t. omega (arith, int, value_law a, value_law b, mul-lt-mul_of_pos_right (lt_read h) s>, mul-le-mul_right e l))

  -- and where it has, the error is below the threshold
  back_gap : (a b : Pair) (d n : ℕ) → d + b.p ≡ a.p → n + (up a.m + down b.m) ≡ up b.m + down a.m →
      value_of s e a <ℤ value_of s e b → e * d < n * s
  back_gap a b d n g f v = omega (arith, int, value_law a, value_law b, ap (λ (x : ℕ). x * s) f, ap (λ (x : ℕ). x * e) g)

  pub threshold_back : 0 < s → (a b : Pair) → a.m ≤ℤ b.m → value_of s e a <ℤ value_of s e b → Below s e (threshold_of a b)
  threshold_back s> a b h v =
      threshold_cases a b (Below s e) (λ l. back_gap a b (a.p - b.p) (nat_abs (b.m -ℤ a.m)) (omega arith) (abs_gap a.m b.m h) v)
      (λ l. omega arith)

  -- and the smaller of two pairs the smaller of their values
  pub smaller_sound : (a b : Pair) → Below s e (smaller_of a b).threshold →
      (value_of s e (smaller_of a b).pair ≤ℤ value_of s e a) × (value_of s e (smaller_of a b).pair ≤ℤ value_of s e b)
  smaller_sound a b =
      smaller_cases a b (λ c. Below s e c.threshold → (value_of s e c.pair ≤ℤ value_of s e a) × (value_of s e c.pair ≤ℤ value_of s e b))
      (λ q t. (threshold_sound b a (less_shows b a q).0 t, omega (arith, int)))
      (λ q t. (omega (arith, int), threshold_sound a b (not_less_shows a b q).0 t))

  -- ---- an error below the lowered fraction is below both
  lower_of : (f g : Fraction) → 0 < s → g.n * f.d < f.n * g.d → Below s e g → Below s e f
  lower_of f g h l u =
      lt_of_mul-lt-mul_right g.d (step f.n f.d g.n g.d h l u)
    where
      step : (fn fd gn gd : ℕ) → 0 < s → gn * fd < fn * gd → e * gd < gn * s → (e * fd) * gd < (fn * s) * gd
      step fn fd gn gd h l u = omega (arith, mul-le-mul_right fd u, mul-lt-mul_of_pos_right l h)

  other_of : (f g : Fraction) → 0 < s → 0 < g.n + g.d → f.n * g.d ≤ g.n * f.d → Below s e f → Below s e g
  other_of f g h k l u = go (dec_lt 0 g.d) (dec_lt 0 f.d)
    where
      step : (fn fd gn gd : ℕ) → 0 < gd → fn * gd ≤ gn * fd → e * fd < fn * s → (e * gd) * fd < (gn * s) * fd
      step fn fd gn gd p l u = omega (arith, mul-lt-mul_of_pos_right u p, mul-le-mul_right s l)

      zero_pair : (fn fd gn gd : ℕ) → 0 < gd → ¬ (0 < fd) → fn * gd ≤ gn * fd → e * fd < fn * s → ⊥
      zero_pair zero fd gn gd p q l u = omega arith
      zero_pair (suc fn) fd gn gd p q l u = let z : fd ≡ 0 = omega arith in omega (arith, rw z at l)

      open_end : (n d : ℕ) → ¬ (0 < d) → 0 < n + d → e * d < n * s
      open_end n d p k = let z : d ≡ 0 = omega arith in rw z (omega (arith, mul-pos {m = n} {n = s} (omega arith) h))

      go : Dec (0 < g.d) → Dec (0 < f.d) → Below s e g
      go (yes p) (yes q) = lt_of_mul-lt-mul_right f.d (step f.n f.d g.n g.d p l u)
      go (yes p) (no q) = absurd (zero_pair f.n f.d g.n g.d p q l u)
      go (no p) q = open_end g.n g.d p k

  -- whatever the other is, it is below the one that was there
  pub lowered_before : (f g : Fraction) → 0 < s → Below s e (lowered_by f g) → Below s e f
  lowered_before f g h = lowered_cases f g (λ x. Below s e x → Below s e f) (λ l u. lower_of f g h l u) (λ l u. u)

  pub lowered_sound : (f g : Fraction) → 0 < s → 0 < g.n → Below s e (lowered_by f g) → Below s e f × Below s e g
  lowered_sound f g h k =
      lowered_cases f g (λ x. Below s e x → Below s e f × Below s e g) (λ l u. (lower_of f g h l u, u))
      (λ l u. (u, other_of f g h (omega arith) l u))

  -- and below both is below the lower
  pub lowered_below : (f g : Fraction) → Below s e f → Below s e g → Below s e (lowered_by f g)
  lowered_below f g h k = lowered_cases f g (Below s e) (λ l. k) (λ l. h)

  -- what is below a fraction is below one that it is not above
  pub at_most_below : (f g : Fraction) → 0 < s → 0 < g.n → AtMost f g → Below s e f → Below s e g
  at_most_below f g h k = other_of f g h (omega arith)

-- and where every error below f is below g, f is not above g: at g itself no error is below it
pub below_at_most : (f g : Fraction) → ((s e : ℕ) → 0 < s → Below s e f → Below s e g) → AtMost f g
below_at_most f g h = go (dec_lt 0 g.d) (dec_lt (g.n * f.d) (f.n * g.d))
  where
    go : Dec (0 < g.d) → Dec (g.n * f.d < f.n * g.d) → f.n * g.d ≤ g.n * f.d
    go (yes p) (yes q) = absurd (omega (arith, h g.d g.n p q))
    go (yes p) (no q) = omega arith
    go (no p) q = let z : g.d ≡ 0 = omega arith in rw z (omega arith)
