-- One comparison at an error e/s: what it does to the set, the values and the running fraction.
-- Assumes nothing.
use Prim.Native.Nat.{ℕ, ◌<◌, ◌≤◌}
use mathlib.Core.Path.{◌≡◌}
use mathlib.Core.Logic.{⊎_elim}
use lib.ListN.{length}
use lib.Signed.{◌≤ℤ◌}
use native.Mathlib.Omega.{arith}
use Rattle.zones.specs.declared.pair.Pair.{Pair}
use Rattle.zones.specs.declared.zone.Work.{Work}
use Rattle.zones.proofs.pairs.Integers.{int}
use Rattle.zones.specs.Pairs.{smaller_of}
use Rattle.zones.specs.Zones.{entry, lower_at}
use Rattle.zones.specs.Values.{value_of, Below}
use Rattle.zones.specs.Sets.{Gap, In, square_of}
use Rattle.zones.proofs.pairs.Order.{smaller_or}
use Rattle.zones.proofs.places.Places.{lower_at_lem, lower_place}
use Rattle.zones.proofs.sets.Squares.{in_above}
use Rattle.zones.proofs.fractions.Thresholds.{smaller_sound, lowered_sound, choice_n, lowered_n}

-- the running fraction's numerator stays at least 1
pub lower_proper : (i j : ℕ) (q : Pair) (w : Work) → 0 < w.fraction.n → 0 < (lower_at i j q w).fraction.n
unfolding lower_at
lower_proper i j q w h = lowered_n w.fraction (smaller_of (entry w i j) q).threshold h (choice_n (entry w i j) q)

module _ (s e : ℕ) (s> : 0 < s) where
  pub lower_limits : (w : Work) (i j : ℕ) (q : Pair) → Below s e (lower_at i j q w).fraction →
      Below s e w.fraction × Below s e (smaller_of (entry w i j) q).threshold
  unfolding lower_at
  lower_limits w i j q t = lowered_sound s e w.fraction (smaller_of (entry w i j) q).threshold s> (choice_n (entry w i j) q) t

  -- w' came from w by lowering: below the running fraction no value has risen
  pub record Falls (n : ℕ) (w w' : Work) : Type 0 where
    pub before : Below s e w'.fraction → Below s e w.fraction
    pub values : Below s e w'.fraction → (a b : ℕ) → a < n → b < n → value_of s e (entry w' a b) ≤ℤ value_of s e (entry w a b)

  pub falls_refl : (n : ℕ) (w : Work) → Falls n w w
  falls_refl n w = record { before = λ t. t; values = λ t a b ha hb. omega (arith, int) }

  pub falls_trans : (n : ℕ) (u v w : Work) → Falls n u v → Falls n v w → Falls n u w
  falls_trans n u v w f g = record {
    before = λ t. f.before (g.before t);
    values = λ t a b ha hb. let x = f.values (g.before t) a b ha hb in let y = g.values t a b ha hb in omega (arith, int);
  }

  pub falls_in : (n : ℕ) (w w' : Work) (v : ℕ → ℕ) → Falls n w w' → Below s e w'.fraction → In n (square_of s e w') v → In n (square_of s e w) v
  falls_in n w w' v f t h = in_above n (square_of s e w') (square_of s e w) v (f.values t) h

  module _ (n : ℕ) (n≤ : n ≤ 9) (w : Work) (i j : ℕ) (q : Pair) (size : length w.zone ≡ 81) (i< : i < n) (j< : j < n) where
    pub lower_falls : Falls n w (lower_at i j q w)
    lower_falls = record {
      before = λ t. (lower_limits w i j q t).0;
      values =
          λ t a b ha hb. lower_place w i j q size (omega arith) (omega arith) (λ a b p. value_of s e p ≤ℤ value_of s e (entry w a b))
          (smaller_sound s e (entry w i j) q (lower_limits w i j q t).1).0 a b (omega arith) (omega (arith, int));
    }

    pub lower_to : Below s e (lower_at i j q w).fraction → value_of s e (entry (lower_at i j q w) i j) ≤ℤ value_of s e q
    lower_to t = rw (lower_at_lem w i j q size (omega arith) (omega arith)) (smaller_sound s e (entry w i j) q (lower_limits w i j q t).1).1

    -- no threshold is needed for what stays in
    pub lower_keeps : (v : ℕ → ℕ) → In n (square_of s e w) v → Gap (value_of s e q) (v i) (v j) → In n (square_of s e (lower_at i j q w)) v
    lower_keeps v h g = record {
      start = h.start;
      gaps = λ a b ha hb. lower_place w i j q size (omega arith) (omega arith) (λ a b p. Gap (value_of s e p) (v a) (v b))
          (⊎_elim (λ f. rw f (h.gaps i j i< j<)) (λ f. rw f g) (smaller_or (entry w i j) q)) a b (omega arith) (h.gaps a b ha hb);
    }
