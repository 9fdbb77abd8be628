-- Comparisons by their branches: one principle for each definition that branches, and the branches as the code returns them.
-- Assumes nothing.
use Prim.Native.Nat.{◌-◌, ◌*◌, ◌<◌, ◌≤◌}
use mathlib.Core.Path.{◌≡◌, refl, sym, ◌∙◌}
use mathlib.Core.Bool.{Bool, true, false, cond}
use borrow.Author.Tests.{lt-ltb, le-ltb, ltb-true, ltb-false}
use lib.Dec.{ltb}
use lib.IntN.{◌-ℤ◌, nat_abs}
use lib.Signed.{◌≤ℤ◌, ◌<ℤ◌}
use native.Mathlib.Omega.{arith}
use Rattle.runs.proofs.Contradictions.{true_false}
use Rattle.zones.specs.declared.fraction.Fraction.{Fraction}
use Rattle.zones.specs.declared.pair.Pair.{Pair}
use Rattle.zones.specs.declared.pair.Choice.{Choice}
use Rattle.std.specs.declared.cmp.Ordering.{Ordering}
use Rattle.std.specs.declared.cmp.Ordering.TheVariants.{Less, Equal, Greater}
use Rattle.std.specs.Ordering.{MatchOrdering, ordering_then, int_cmp, nat_cmp}
use Rattle.std.proofs.lemmas.Cmp.{ranked, int_ranked}
use Rattle.zones.proofs.pairs.Integers.{int}
use Rattle.zones.specs.Fractions.{no_limit, lowered_by}
use Rattle.zones.specs.Pairs.{is_below, is_equal, is_at_most, compare_of, is_less, threshold_of, smaller_of}

-- ---- how two pairs stand to each other, by its cases: m decides, or p where the m are the same
pub compare_cases : (a b : Pair) (P : Ordering → Type 0) → (a.m <ℤ b.m → P Less) → (b.m <ℤ a.m → P Greater) →
    (a.m ≡ b.m → a.p < b.p → P Less) → (a.m ≡ b.m → b.p < a.p → P Greater) → (a.m ≡ b.m → a.p ≡ b.p → P Equal) → P (compare_of a b)
compare_cases a b P lower higher fewer more same = go (int_cmp a.m b.m) (nat_cmp a.p b.p) (int_ranked a.m b.m _ refl) (ranked a.p b.p _ refl)
  where
    go : (r s : Ordering) → MatchOrdering r (a.m <ℤ b.m) (a.m ≡ b.m) (b.m <ℤ a.m) → MatchOrdering s (a.p < b.p) (a.p ≡ b.p) (b.p < a.p) →
        P (ordering_then r s)
    go Less s h k = lower h
    go Greater s h k = higher h
    go Equal Less h k = fewer h k
    go Equal Equal h k = same h k
    go Equal Greater h k = more h k

-- equal are only a pair and itself
pub equal_shows : (a b : Pair) → is_equal (compare_of a b) ≡ true → a ≡ b
equal_shows a b =
    compare_cases a b (λ c. is_equal c ≡ true → a ≡ b) (λ h e. true_false (sym e)) (λ h e. true_false (sym e)) (λ h k e. true_false (sym e))
    (λ h k e. true_false (sym e)) (λ h k e i. record { m = h i; p = k i })

pub equal_itself : (a : Pair) → is_equal (compare_of a a) ≡ true
equal_itself a =
    compare_cases a a (λ c. is_equal c ≡ true) (λ h. absurd (omega (arith, int))) (λ h. absurd (omega (arith, int))) (λ e h. absurd (omega arith))
    (λ e h. absurd (omega arith)) (λ e h. refl)

-- ---- the smaller of two pairs, by its cases
pub less_cases : (a b : Pair) (P : Bool → Type 0) → (a.m <ℤ b.m → P true) → (b.m <ℤ a.m → P false) → (a.m ≡ b.m → a.p < b.p → P true) →
    (a.m ≡ b.m → b.p ≤ a.p → P false) → P (is_less a b)
unfolding is_less
less_cases a b P lower higher fewer rest =
    compare_cases a b (λ c. P (is_below c)) lower higher fewer (λ e h. rest e (omega arith)) (λ e h. rest e (omega arith))

-- a pair is the smaller or equal where the other is not the smaller
pub at_most_shows : (a b : Pair) → is_at_most (compare_of a b) ≡ true → is_less b a ≡ false
at_most_shows a b =
    compare_cases a b (λ c. is_at_most c ≡ true → is_less b a ≡ false)
    (λ h e. less_cases b a (λ t. t ≡ false) (λ k. absurd (omega (arith, int))) (λ k. refl) (λ d k. absurd (omega (arith, int))) (λ d k. refl))
    (λ h e. true_false (sym e))
    (λ m h e. less_cases b a (λ t. t ≡ false) (λ k. absurd (omega (arith, int))) (λ k. refl) (λ d k. absurd (omega arith)) (λ d k. refl))
    (λ m h e. true_false (sym e))
    (λ m h e. less_cases b a (λ t. t ≡ false) (λ k. absurd (omega (arith, int))) (λ k. refl) (λ d k. absurd (omega arith)) (λ d k. refl))

-- what a smaller pair shows, and one that is not
pub less_shows : (a b : Pair) → is_less a b ≡ true → (a.m ≤ℤ b.m) × (b.p ≤ a.p → a.m <ℤ b.m)
less_shows a b =
    less_cases a b (λ t. t ≡ true → (a.m ≤ℤ b.m) × (b.p ≤ a.p → a.m <ℤ b.m)) (λ h e. (omega (arith, int), λ k. h)) (λ h e. true_false (sym e))
    (λ m h e. (omega (arith, int), λ k. absurd (omega arith))) (λ m h e. true_false (sym e))

pub not_less_shows : (a b : Pair) → is_less b a ≡ false → (a.m ≤ℤ b.m) × (b.p < a.p → a.m <ℤ b.m)
not_less_shows a b =
    less_cases b a (λ t. t ≡ false → (a.m ≤ℤ b.m) × (b.p < a.p → a.m <ℤ b.m)) (λ h e. true_false e) (λ h e. (omega (arith, int), λ k. h))
    (λ m h e. true_false e) (λ m h e. (omega (arith, int), λ k. absurd (omega arith)))

-- ---- the threshold
pub threshold_none : (a b : Pair) → a.p ≤ b.p → no_limit ≡ threshold_of a b
unfolding threshold_of
threshold_none a b h = rw (le-ltb b.p a.p h)

pub threshold_cases : (a b : Pair) (P : Fraction → Type 0) →
    (b.p < a.p → P (record { n = nat_abs (b.m -ℤ a.m); d = a.p - b.p })) → (a.p ≤ b.p → P no_limit) → P (threshold_of a b)
unfolding threshold_of
threshold_cases a b P f g = go (ltb b.p a.p) refl
  where
    go : (t : Bool) → ltb b.p a.p ≡ t → P (cond t (record { n = nat_abs (b.m -ℤ a.m); d = a.p - b.p }) no_limit)
    go true e = f (ltb-true b.p a.p e)
    go false e = g (ltb-false b.p a.p e)

-- ---- the smaller of two
pub smaller_old : (a b : Pair) (f : Fraction) → is_less b a ≡ false → f ≡ threshold_of a b → record { pair = a; threshold = f } ≡ smaller_of a b
unfolding smaller_of
smaller_old a b f e g = rw e (λ i. record { pair = a; threshold = g i })

pub smaller_cases : (a b : Pair) (P : Choice → Type 0) → (is_less b a ≡ true → P (record { pair = b; threshold = threshold_of b a })) →
    (is_less b a ≡ false → P (record { pair = a; threshold = threshold_of a b })) → P (smaller_of a b)
unfolding smaller_of
smaller_cases a b P f g = go (is_less b a) refl
  where
    go : (t : Bool) → is_less b a ≡ t →
        P (cond t (record { pair = b; threshold = threshold_of b a }) (record { pair = a; threshold = threshold_of a b }))
    go true e = f e
    go false e = g e

-- a chosen pair that is not below the one there is that one: the other is not below it
pub smaller_stays : (a b : Pair) → is_less (smaller_of a b).pair a ≡ false → is_less b a ≡ false
smaller_stays a b = smaller_cases a b (λ c. is_less c.pair a ≡ false → is_less b a ≡ false) (λ e f. true_false (sym e ∙ f)) (λ e f. e)

pub smaller_same : (a b : Pair) → is_less (smaller_of a b).pair a ≡ false → (smaller_of a b).pair ≡ a
smaller_same a b = smaller_cases a b (λ c. is_less c.pair a ≡ false → c.pair ≡ a) (λ e f. true_false (sym e ∙ f)) (λ e f. refl)

-- ---- the lower of two fractions
pub lowered_new : (f g : Fraction) → g.n * f.d < f.n * g.d → g ≡ lowered_by f g
unfolding lowered_by
lowered_new f g h = rw (lt-ltb (g.n * f.d) (f.n * g.d) h)

pub lowered_old : (f g : Fraction) → f.n * g.d ≤ g.n * f.d → f ≡ lowered_by f g
unfolding lowered_by
lowered_old f g h = rw (le-ltb (g.n * f.d) (f.n * g.d) h)

pub lowered_none : (f g : Fraction) → g.d ≡ 0 → f ≡ lowered_by f g
lowered_none f g e = lowered_old f g (rw e (omega arith))

pub lowered_cases : (f g : Fraction) (P : Fraction → Type 0) → (g.n * f.d < f.n * g.d → P g) → (f.n * g.d ≤ g.n * f.d → P f) →
    P (lowered_by f g)
unfolding lowered_by
lowered_cases f g P h k = go (ltb (g.n * f.d) (f.n * g.d)) refl
  where
    go : (t : Bool) → ltb (g.n * f.d) (f.n * g.d) ≡ t → P (cond t g f)
    go true e = h (ltb-true (g.n * f.d) (f.n * g.d) e)
    go false e = k (ltb-false (g.n * f.d) (f.n * g.d) e)
