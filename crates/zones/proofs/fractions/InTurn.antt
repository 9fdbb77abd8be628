-- Lowering by the lower of two is lowering by the one and then by the other, to the same term.
-- Assumes nothing.
use Prim.Native.Nat.{ℕ, zero, suc, ◌*◌, ◌%◌, ◌<◌, ◌≤◌}
use mathlib.Core.Path.{◌≡◌, refl, sym, ap, ◌∙◌}
use mathlib.Core.Bool.{Bool, true, false, cond}
use mathlib.Core.List.{List}
use lib.Dec.{ltb}
use lib.IntN.{pos}
use lib.Signed.{lt_z}
use native.Mathlib.Omega.{arith}
use native.Mathlib.Nat.{mul-le-mul_right, lt_of_mul-lt-mul_right, le_of_mul-le-mul_right, mul-lt-mul_of_pos_right, mul-pos}
use native.Mathlib.Decide.{dec_lt}
use Rattle.zones.specs.declared.fraction.Fraction.{Fraction}
use Rattle.zones.specs.declared.pair.Pair.{Pair}
use Rattle.zones.specs.declared.zone.Work.{Work}
use Rattle.zones.specs.Fractions.{no_limit, lowered_by}
use Rattle.zones.specs.Pairs.{zero_pair, threshold_of}
use Rattle.zones.specs.Zones.{entry}
use Rattle.zones.specs.Reductions.{empty_below}
use Rattle.zones.specs.Containment.{place_of, within, inside_to}
use Rattle.zones.specs.InTurn.{diagonals_lower, places_lower}
use Rattle.zones.proofs.pairs.Choices.{lowered_new, lowered_old, lowered_none}
use Rattle.zones.proofs.fractions.Thresholds.{lowered_n, beside_n}
use Rattle.zones.proofs.places.Inside.{within_shows, inside_ind}
use Rattle.zones.proofs.sets.Diagonals.{safe_n}

-- ---- a / b, c / d and p / q: the order of fractions, crosswise
below_lower : (a b c d p q : ℕ) → c * b < a * d → p * d < c * q → p * b < a * q
below_lower a b c d p q x y = go (dec_lt 0 d) (dec_lt 0 q)
  where
    both : 0 < q → (p * b) * d < (a * q) * d
    both h = omega (arith, mul-lt-mul_of_pos_right x h, mul-le-mul_right b y)

    go : Dec (0 < d) → Dec (0 < q) → p * b < a * q
    go (yes g) (yes h) = lt_of_mul-lt-mul_right d (both h)
    go (no g) h = let z : d ≡ 0 = omega arith in absurd (omega (arith, rw z at x))
    go (yes g) (no h) = let z : q ≡ 0 = omega arith in absurd (omega (arith, rw z at y))

above_lower : (a b c d p q : ℕ) → 0 < c → a * d ≤ c * b → c * q ≤ p * d → a * q ≤ p * b
above_lower a b c d p q n x y = go (dec_lt 0 d) (dec_lt 0 q)
  where
    both : (a * q) * d ≤ (p * b) * d
    both = omega (arith, mul-le-mul_right q x, mul-le-mul_right b y)

    go : Dec (0 < d) → Dec (0 < q) → a * q ≤ p * b
    go (yes g) h = le_of_mul-le-mul_right both g
    go (no g) (yes h) = let z : d ≡ 0 = omega arith in absurd (omega (arith, rw z at y, mul-pos n h))
    go (no g) (no h) = let z : q ≡ 0 = omega arith in rw z (omega arith)

-- ---- by two
pub lowered_twice : (f t u : Fraction) → 0 < t.n → lowered_by f (lowered_by t u) ≡ lowered_by (lowered_by f t) u
lowered_twice f t u h = go (dec_lt (t.n * f.d) (f.n * t.d)) (dec_lt (u.n * t.d) (t.n * u.d))
  where
    go : Dec (t.n * f.d < f.n * t.d) → Dec (u.n * t.d < t.n * u.d) → lowered_by f (lowered_by t u) ≡ lowered_by (lowered_by f t) u
    go (yes x) (yes y) =
        sym (ap (lowered_by f) (lowered_new t u y)) ∙ sym (lowered_new f u (below_lower f.n f.d t.n t.d u.n u.d x y))
        ∙ lowered_new t u y ∙ ap (λ (g : Fraction). lowered_by g u) (lowered_new f t x)
    go (yes x) (no y) =
        let o = lowered_old t u (omega arith) in
        sym (ap (lowered_by f) o) ∙ sym (lowered_new f t x) ∙ o ∙ ap (λ (g : Fraction). lowered_by g u) (lowered_new f t x)
    go (no x) (yes y) = sym (ap (lowered_by f) (lowered_new t u y)) ∙ ap (λ (g : Fraction). lowered_by g u) (lowered_old f t (omega arith))
    go (no x) (no y) =
        let o = lowered_old f t (omega arith) in
        sym (ap (lowered_by f) (lowered_old t u (omega arith))) ∙ sym o
        ∙ lowered_old f u (above_lower f.n f.d t.n t.d u.n u.d h (omega arith) (omega arith))
        ∙ ap (λ (g : Fraction). lowered_by g u) o

-- ---- by all
pub diagonals_in_turn : (i : ℕ) (w : Work) (f : Fraction) → lowered_by f (empty_below i w) ≡ diagonals_lower i w f
unfolding empty_below diagonals_lower
diagonals_in_turn zero w f = sym (lowered_none f no_limit refl)
diagonals_in_turn (suc i) w f = go (diagonals_in_turn i w f) (lt_z (entry w i i).m (pos 0))
  where
    t : Fraction
    t = threshold_of (entry w i i) zero_pair

    go : lowered_by f (empty_below i w) ≡ diagonals_lower i w f → (b : Bool) →
        lowered_by f (cond b (lowered_by (empty_below i w) (threshold_of (entry w i i) zero_pair)) (empty_below i w))
        ≡ cond b (lowered_by (diagonals_lower i w f) (threshold_of (entry w i i) zero_pair)) (diagonals_lower i w f)
    go e true = lowered_twice f (empty_below i w) t (safe_n i w) ∙ ap (λ (g : Fraction). lowered_by g t) e
    go e false = e

module _ (n : ℕ) (z y : List Pair) (h : within n z y ≡ true) where
  inside_n : (k : ℕ) → k ≤ n * 9 → 0 < (inside_to n k z y).n
  inside_n =
      inside_ind n z y (λ g. 0 < g.n) (n * 9)
      (λ k g hk hc q. lowered_n g (threshold_of (place_of z k) (place_of y k)) q
      (beside_n (place_of z k) (place_of y k) (within_shows n z y h k hk hc))) (omega arith)

  pub places_in_turn : (f : Fraction) (k : ℕ) → k ≤ n * 9 → lowered_by f (inside_to n k z y) ≡ places_lower n k z y f
  unfolding inside_to places_lower
  places_in_turn f zero hk = sym (lowered_none f no_limit refl)
  places_in_turn f (suc k) hk = go (places_in_turn f k (omega arith)) (ltb (k % 9) n)
    where
      t : Fraction
      t = threshold_of (place_of z k) (place_of y k)

      go : lowered_by f (inside_to n k z y) ≡ places_lower n k z y f → (b : Bool) →
          lowered_by f (cond b (lowered_by (inside_to n k z y) (threshold_of (place_of z k) (place_of y k))) (inside_to n k z y))
          ≡ cond b (lowered_by (places_lower n k z y f) (threshold_of (place_of z k) (place_of y k))) (places_lower n k z y f)
      go e true = lowered_twice f (inside_to n k z y) t (inside_n k (omega arith)) ∙ ap (λ (g : Fraction). lowered_by g t) e
      go e false = e
