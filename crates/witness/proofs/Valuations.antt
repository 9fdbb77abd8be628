-- The places of a valuation.
-- Assumes nothing.
use Prim.Native.Nat.{ℕ, zero, suc, ◌≤◌, ◌<◌}
use mathlib.Core.Path.{◌≡◌, refl, ◌∙◌}
use mathlib.Core.Bool.{Bool, true, false}
use borrow.Author.Tests.{ltb-true, ltb-false}
use lib.Dec.{ltb}
use lib.ListN.{length, replicate, length-set, get_or-replicate, get_or-eq_default}
use lib.Seq.{get_or-set_same, get_or-set_other}
use native.Mathlib.Omega.{arith}
use native.Mathlib.Nat.{not-suc-le-zero}
use Rattle.witness.specs.Witnesses.{clocks_of, places_of}
use Rattle.witness.specs.Sizes.{AllUpTo}
use Rattle.zones.proofs.sets.Squares.{up_to}

module _ (f : ℕ → ℕ) where
  pub valuation-length : (k : ℕ) → length (places_of f k) ≡ 9
  unfolding places_of
  valuation-length zero = refl
  valuation-length (suc k) = simp length-set (valuation-length k)

  -- the first k clocks
  pub valuation_at : (k : ℕ) → k ≤ 8 → (x : ℕ) → x < suc k → 0 < x → clocks_of (places_of f k) x ≡ f x
  unfolding places_of
  valuation_at zero h x hx px = absurd (omega arith)
  valuation_at (suc k) h x hx px = up_to (λ y. 0 < y → clocks_of (places_of f (suc k)) y ≡ f y) (suc k)
      (λ y hy py. get_or-set_other (places_of f k) (suc k) y (f (suc k)) 0 (λ e. omega arith) ∙ valuation_at k (omega arith) y hy py)
      (λ p. get_or-set_same (places_of f k) (suc k) (f (suc k)) 0 (omega (arith, valuation-length k))) x hx px

  -- all other places
  pub valuation_none : (k x : ℕ) → (0 < x → k < x) → clocks_of (places_of f k) x ≡ 0
  unfolding places_of
  valuation_none zero x h = go (ltb x 9) refl
    where
      go : (t : Bool) → ltb x 9 ≡ t → clocks_of (replicate 9 0) x ≡ 0
      go true e = get_or-replicate 9 x 0 0 (ltb-true x 9 e)
      go false e = get_or-eq_default (replicate 9 0) 0 {n = x} (ltb-false x 9 e)
  valuation_none (suc k) x h =
      get_or-set_other (places_of f k) (suc k) x (f (suc k)) 0 (λ e. let q = h (omega arith) in omega arith) ∙
      valuation_none k x (λ p. let q = h p in omega arith)

  -- none is above C if none of f's is
  pub valuation_most : (C k : ℕ) → k ≤ 8 → ((x : ℕ) → 0 < x → x ≤ k → f x ≤ C) → AllUpTo C (places_of f k)
  valuation_most C k h m x = go x (ltb k x) refl
    where
      go : (x : ℕ) (t : Bool) → ltb k x ≡ t → clocks_of (places_of f k) x ≤ C
      go x true e = omega (arith, valuation_none k x (λ p. ltb-true k x e))
      go zero false e = omega (arith, valuation_none k 0 (λ p. absurd (not-suc-le-zero p)))
      go (suc x) false e =
          let q = ltb-false k (suc x) e in
          omega (arith, valuation_at k h (suc x) (omega arith) (omega arith), m (suc x) (omega arith) q)
