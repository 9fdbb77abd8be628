-- The order of pairs, as linear arithmetic. `a ≼ b`: b is not below a. At a number K above every p in play, a pair is the integer m × K +
-- p, and the order of pairs is that of these integers: `lex_read` and `lex_make`. So an order of pairs and of their sums is proved by
-- omega, from `lex_read` of each hypothesis and `sum_at` of each sum.
-- Assumes nothing.
use Prim.Native.Nat.{ℕ, suc, ◌+◌, ◌*◌, ◌<◌, ◌≤◌}
use mathlib.Core.Path.{◌≡◌, refl, sym, ap}
use mathlib.Core.Bool.{Bool, true, false}
use mathlib.Core.Logic.{◌⊎◌, inl, inr}
use lib.IntN.{pos}
use lib.Signed.{◌≤ℤ◌, ◌<ℤ◌}
use native.Mathlib.Omega.{arith}
use native.Mathlib.Decide.{dec_lt}
use native.Mathlib.Nat.{mul-le-mul_right}
use Rattle.zones.specs.Integers.{up, down}
use Rattle.zones.proofs.pairs.Integers.{le_read, lt_read, eq_read, eq_make, sum_law}
use Rattle.zones.specs.declared.pair.Pair.{Pair}
use Rattle.zones.specs.Pairs.{sum_of, is_less, threshold_of, smaller_of}
use Rattle.runs.proofs.Contradictions.{true_false}
use Rattle.zones.proofs.pairs.Choices.{less_cases, not_less_shows, smaller_cases}

infix 4 ◌≼◌
pub record ◌≼◌ (a b : Pair) : Type 0 where
  pub kept : is_less b a ≡ false

-- m × K + p is `hi` less `lo`. They stay shut, so that omega takes each as one unknown
pub hi : ℕ → Pair → ℕ
hi K a = up a.m * K + a.p

pub lo : ℕ → Pair → ℕ
lo K a = down a.m * K

-- m × K + p of a is at most that of b
pub record Lex (K : ℕ) (a b : Pair) : Type 0 where
  pub lex : hi K a + lo K b ≤ hi K b + lo K a

pub lex_read : (K : ℕ) {a b : Pair} → a.p ≤ K → a ≼ b → Lex K a b
unfolding hi lo
lex_read K {a} {b} h l =
    less_cases b a (λ t. t ≡ false → Lex K a b) (λ k e. true_false e) (λ k e. omega (arith, mul-le-mul_right K (lt_read k))) (λ m k e. true_false e)
    (λ m k e. omega (arith, ap (λ (x : ℕ). x * K) (eq_read m))) l.kept

pub lex_make : (K : ℕ) {a b : Pair} → b.p < K → Lex K a b → a ≼ b
unfolding hi lo
lex_make K {a} {b} h l = record {
  kept = less_cases b a (λ t. t ≡ false) (λ k. absurd (omega (arith, mul-le-mul_right K (lt_read k)))) (λ k. refl)
      (λ m k. absurd (omega (arith, ap (λ (x : ℕ). x * K) (eq_read m)))) (λ m k. refl);
}

pub lex_lt : (K : ℕ) {a b : Pair} → a.p < K → is_less a b ≡ true → Lex K a b × (hi K a + lo K b < hi K b + lo K a)
unfolding hi lo
lex_lt K {a} {b} h =
    less_cases a b (λ t. t ≡ true → Lex K a b × (hi K a + lo K b < hi K b + lo K a)) (λ k e. omega (arith, mul-le-mul_right K (lt_read k)))
    (λ k e. true_false (sym e)) (λ m k e. omega (arith, ap (λ (x : ℕ). x * K) (eq_read m))) (λ m k e. true_false (sym e))

-- a number K above n, of which nothing else is known: omega takes `up x * K` as one unknown
pub large {ℓ} : {X : Type ℓ} (n : ℕ) → ((K : ℕ) → n < K → X) → X
large n f = f (suc n) (omega arith)

-- a sum of pairs at K
pub sum_at : (K : ℕ) (a b : Pair) → hi K (sum_of a b) + (lo K a + lo K b) ≡ (hi K a + hi K b) + lo K (sum_of a b)
unfolding sum_of hi lo
sum_at K a b = omega (arith, ap (λ (n : ℕ). n * K) (sum_law a.m b.m).even)

pub sum_p : (a b : Pair) → (sum_of a b).p ≡ a.p + b.p
unfolding sum_of
sum_p a b = refl

-- a pair with m at least 0 is at least 0
pub at_least_0 : (K : ℕ) (a : Pair) → pos 0 ≤ℤ a.m → lo K a ≤ hi K a
unfolding hi lo
at_least_0 K a h = omega (arith, mul-le-mul_right K (le_read h))

-- ---- a total order, which sums respect
pub ≼_refl : (a : Pair) → a ≼ a
≼_refl a = lex_make (suc a.p) (omega arith) (omega arith)

pub ≼_trans : {a b c : Pair} → a ≼ b → b ≼ c → a ≼ c
≼_trans {a} {b} {c} h g =
    large (a.p + b.p + c.p) λ K big.
    lex_make K (omega arith) (omega (arith, lex_read K (omega arith) h, lex_read K (omega arith) g))

pub less-≼ : {a b : Pair} → is_less a b ≡ true → a ≼ b
less-≼ {a} {b} e = large (a.p + b.p) λ K big. lex_make K (omega arith) (lex_lt K (omega arith) e).0

pub ≼-total : (a b : Pair) → (a ≼ b) ⊎ (b ≼ a)
≼-total a b = go (is_less b a) refl
  where
    go : (t : Bool) → is_less b a ≡ t → (a ≼ b) ⊎ (b ≼ a)
    go true e = inr (less-≼ e)
    go false e = inl (record { kept = e })

pub ≼-sum : {a b c d : Pair} → a ≼ b → c ≼ d → sum_of a c ≼ sum_of b d
≼-sum {a} {b} {c} {d} h g =
    large (a.p + b.p + c.p + d.p) λ K big.
    lex_make K (omega (arith, sum_p b d)) (omega (arith, sum_at K a c, sum_at K b d, lex_read K (omega arith) h, lex_read K (omega arith) g))

-- equal only to itself: m × K + p says which pair it is
pub ≼-antisym : {a b : Pair} → a ≼ b → b ≼ a → a ≡ b
≼-antisym {a} {b} h g = λ i. record { m = m i; p = p (dec_lt a.p b.p) (dec_lt b.p a.p) i }
  where
    x : (a.m ≤ℤ b.m) × (b.p < a.p → a.m <ℤ b.m)
    x = not_less_shows a b h.kept

    y : (b.m ≤ℤ a.m) × (a.p < b.p → b.m <ℤ a.m)
    y = not_less_shows b a g.kept

    m : a.m ≡ b.m
    m = eq_make a.m b.m (omega (arith, le_read x.0, le_read y.0))

    p : Dec (a.p < b.p) → Dec (b.p < a.p) → a.p ≡ b.p
    p (yes l) d = absurd (omega (arith, eq_read m, lt_read (y.1 l)))
    p (no n) (yes l) = absurd (omega (arith, eq_read m, lt_read (x.1 l)))
    p (no n) (no k) = omega arith

-- ---- the smaller of two: one of them, and no larger than either
module _ (a b : Pair) where
  pub smaller_left : (smaller_of a b).pair ≼ a
  smaller_left = smaller_cases a b (λ c. c.pair ≼ a) less-≼ (λ e. ≼_refl a)

  pub smaller_right : (smaller_of a b).pair ≼ b
  smaller_right = smaller_cases a b (λ c. c.pair ≼ b) (λ e. ≼_refl b) (λ e. record { kept = e })

  pub smaller_or : ((smaller_of a b).pair ≡ a) ⊎ ((smaller_of a b).pair ≡ b)
  smaller_or = smaller_cases a b (λ c. (c.pair ≡ a) ⊎ (c.pair ≡ b)) (λ e. inr refl) (λ e. inl refl)

  -- "if equal, the one already there stays"
  pub smaller_kept : a ≼ b → smaller_of a b ≡ record { pair = a; threshold = threshold_of a b }
  unfolding smaller_of
  smaller_kept h = rw h.kept
