-- The containment test and the largest error count, by places: what they show of every entry.
-- Assumes nothing.
use Prim.Native.Nat.{ℕ, zero, suc, ◌+◌, ◌*◌, ◌/◌, ◌%◌, ◌<◌, ◌≤◌}
use mathlib.Core.Path.{◌≡◌, refl, sym, subst}
use mathlib.Core.Bool.{Bool, true, false, cond}
use mathlib.Core.List.{List}
use mathlib.Core.Logic.{◌↔◌}
use borrow.Author.Tests.{ltb-true, ltb-false}
use lib.Dec.{ltb}
use native.Mathlib.Omega.{arith}
use native.Mathlib.Decide.{ℕ_discrete}
use native.Mathlib.Nat.{not-suc-le-zero}
use Rattle.zones.specs.declared.fraction.Fraction.{Fraction}
use Rattle.zones.specs.declared.pair.Pair.{Pair}
use Rattle.zones.specs.Fractions.{no_limit, lowered_by}
use Rattle.zones.specs.Pairs.{compare_of, is_equal, is_at_most, is_less, threshold_of}
use Rattle.zones.specs.Zones.{pair_at}
use Rattle.zones.specs.Containment.{place_of, every_to, compare_at, within, equal, inside_to, inside_below, larger, count_to, largest_count}
use Rattle.zones.specs.Ranges.{Bounded, AllBounded, Fits32, last_counts, widest}
use Rattle.runs.specs.Limits.{scale}
use Rattle.runs.proofs.Contradictions.{true_false}
use Rattle.zones.proofs.pairs.Choices.{equal_shows, equal_itself, at_most_shows, not_less_shows}
use Rattle.zones.proofs.ranges.Ranges.{lowered_narrow, chosen_narrow, last_here}

-- entry (a, b) stands at place a × 9 + b
pub at_place : (P : Pair → Type 0) (z : List Pair) (n a b : ℕ) → n ≤ 9 → a < n → b < n → ((k : ℕ) → k < n * 9 → k % 9 < n → P (place_of z k)) →
    P (pair_at z a b)
unfolding pair_at
at_place P z n a b h ha hb f = let e : (a * 9 + b) % 9 ≡ b = omega arith in f (a * 9 + b) (omega arith) (omega arith)

-- ---- what every place passes
module _ (n : ℕ) (passes : ℕ → Bool) where
  next_shows : (k : ℕ) → (every_to n k passes ≡ true → (m : ℕ) → m < k → m % 9 < n → passes m ≡ true) → (s t : Bool) → ltb (k % 9) n ≡ s →
      passes k ≡ t → cond s (cond t (every_to n k passes) false) (every_to n k passes) ≡ true → (m : ℕ) → m < suc k → m % 9 < n → Dec (m ≡ k) →
      passes m ≡ true
  next_shows k ih true true e f g m hm c (yes q) = rw q f
  next_shows k ih true true e f g m hm c (no q) = ih g m (omega arith) c
  next_shows k ih true false e f g m hm c d = true_false (sym g)
  next_shows k ih false t e f g m hm c (yes q) = absurd (omega (arith, ltb-false (k % 9) n e, rw q at c))
  next_shows k ih false t e f g m hm c (no q) = ih g m (omega arith) c

  pub every_shows : (k : ℕ) → every_to n k passes ≡ true → (m : ℕ) → m < k → m % 9 < n → passes m ≡ true
  unfolding every_to
  every_shows zero e m hm c = absurd (not-suc-le-zero hm)
  every_shows (suc k) e m hm c = next_shows k (every_shows k) (ltb (k % 9) n) (passes k) refl refl e m hm c (ℕ_discrete m k)

  pub every_all : (k : ℕ) → ((m : ℕ) → m < k → m % 9 < n → passes m ≡ true) → every_to n k passes ≡ true
  unfolding every_to
  every_all zero f = refl
  every_all (suc k) f = go (every_all k (λ m h. f m (omega arith))) (ltb (k % 9) n) refl
    where
      go : every_to n k passes ≡ true → (s : Bool) → ltb (k % 9) n ≡ s →
          cond s (cond (passes k) (every_to n k passes) false) (every_to n k passes) ≡ true
      go ih true e = rw (f k (omega arith) (ltb-true (k % 9) n e)) ih
      go ih false e = ih

-- ---- the tests of two zones, and the fraction where the first holds
module _ (n : ℕ) (z y : List Pair) where
  -- containment shows that no pair of y is smaller
  pub within_shows : within n z y ≡ true → (m : ℕ) → m < n * 9 → m % 9 < n → is_less (place_of y m) (place_of z m) ≡ false
  within_shows e m hm c = at_most_shows (place_of z m) (place_of y m) (every_shows n (λ k. is_at_most (compare_at z y k)) (n * 9) e m hm c)

  -- zones of which every pair is equal have the same pairs, and back
  pub equal_zones : n ≤ 9 → (equal n z y ≡ true) ↔ ((a b : ℕ) → a < n → b < n → pair_at z a b ≡ pair_at y a b)
  unfolding pair_at
  equal_zones h = (
    λ e a b ha hb.
        let d : (a * 9 + b) % 9 ≡ b = omega arith in
        equal_shows _ _ (every_shows n (λ k. is_equal (compare_at z y k)) (n * 9) e (a * 9 + b) (omega arith) (omega arith)),
    λ f. every_all n (λ k. is_equal (compare_at z y k)) (n * 9)
        (λ m hm c.
        let d : m / 9 * 9 + m % 9 ≡ m = omega arith in
        let g : place_of z m ≡ place_of y m = subst (λ (x : ℕ). place_of z x ≡ place_of y x) d (f (m / 9) (m % 9) (omega arith) c) in
        subst (λ (q : Pair). is_equal (compare_of (place_of z m) q) ≡ true) g (equal_itself (place_of z m))),
  )

  -- what each lowering keeps, they all keep
  pub inside_ind : (P : Fraction → Type 0) (K : ℕ) →
      ((k : ℕ) (g : Fraction) → k < K → k % 9 < n → P g → P (lowered_by g (threshold_of (place_of z k) (place_of y k)))) → P no_limit → (k : ℕ)
      → k ≤ K →
      P (inside_to n k z y)
  unfolding inside_to
  inside_ind P K s p zero h = p
  inside_ind P K s p (suc k) h = go (inside_ind P K s p k (omega arith)) (ltb (k % 9) n) refl
    where
      go : P (inside_to n k z y) → (t : Bool) → ltb (k % 9) n ≡ t →
          P (cond t (lowered_by (inside_to n k z y) (threshold_of (place_of z k) (place_of y k))) (inside_to n k z y))
      go q true e = s k (inside_to n k z y) h (ltb-true (k % 9) n e) q
      go q false e = q

-- ---- the largest count
module _ (n : ℕ) (z : List Pair) where
  larger-le : (a b : ℕ) → (a ≤ larger a b) × (b ≤ larger a b)
  unfolding larger
  larger-le a b = go (ltb a b) refl
    where
      go : (t : Bool) → ltb a b ≡ t → (a ≤ cond t b a) × (b ≤ cond t b a)
      go true e = omega (arith, ltb-true a b e)
      go false e = omega (arith, ltb-false a b e)

  next_count : (k : ℕ) (t : Bool) → ltb (k % 9) n ≡ t → ((m : ℕ) → m < k → m % 9 < n → (place_of z m).p ≤ count_to n k z) → (m : ℕ) →
      m < suc k → m % 9 < n → Dec (m ≡ k) → (place_of z m).p ≤ cond t (larger (count_to n k z) (place_of z k).p) (count_to n k z)
  next_count k true e ih m hm c (yes q) = rw q (larger-le (count_to n k z) (place_of z k).p).1
  next_count k true e ih m hm c (no q) = omega (arith, ih m (omega arith) c, (larger-le (count_to n k z) (place_of z k).p).0)
  next_count k false e ih m hm c (yes q) = absurd (omega (arith, ltb-false (k % 9) n e, rw q at c))
  next_count k false e ih m hm c (no q) = ih m (omega arith) c

  pub count_most : (k : ℕ) → (m : ℕ) → m < k → m % 9 < n → (place_of z m).p ≤ count_to n k z
  unfolding count_to
  count_most zero m hm c = absurd (not-suc-le-zero hm)
  count_most (suc k) m hm c = next_count k (ltb (k % 9) n) refl (count_most k) m hm c (ℕ_discrete m k)

  pub largest_most : n ≤ 9 → (a b : ℕ) → a < n → b < n → (pair_at z a b).p ≤ largest_count n z
  largest_most h a b ha hb = at_place (λ q. q.p ≤ largest_count n z) z n a b h ha hb (λ k hk c. count_most (n * 9) k hk c)

-- ---- ranges: each threshold of a test that holds fits, and so does the fraction
pub bounded_place : (C P n : ℕ) (z : List Pair) (k : ℕ) → AllBounded C P n z → k < n * 9 → k % 9 < n → Bounded C P (place_of z k)
unfolding pair_at
bounded_place C P n z k b hk hc =
    let e : k / 9 * 9 + k % 9 ≡ k = omega arith in
    subst (λ (x : ℕ). Bounded C P (place_of z x)) e (b (k / 9) (k % 9) (omega arith) hc)

module _ (z y : List Pair) (n : ℕ) (new : AllBounded scale last_counts n z) (old : AllBounded scale last_counts n y) (h : within n z y ≡ true) where
  threshold_fits : (k : ℕ) → k < n * 9 → k % 9 < n → Fits32 (threshold_of (place_of z k) (place_of y k))
  threshold_fits k hk hc =
      let least = (not_less_shows (place_of z k) (place_of y k) (within_shows n z y h k hk hc)).0 in
      chosen_narrow widest widest scale last_counts last_here (place_of z k) (place_of y k)
      (bounded_place scale last_counts n z k new hk hc) (bounded_place scale last_counts n y k old hk hc) least

  pub inside_fits : Fits32 (inside_below n z y)
  inside_fits =
      inside_ind n z y Fits32 (n * 9)
      (λ k g hk hc q. lowered_narrow widest widest g (threshold_of (place_of z k) (place_of y k)) q (threshold_fits k hk hc))
      (record { n = omega arith; d = omega arith }) (n * 9) (omega arith)
