-- What the search sees of a reduction: a zone or none, and both fractions either way.
-- Assumes nothing.
use Rattle.zones.specs.Reductions.{is_empty, safe_of}
use Prim.Native.Nat.{ℕ}
use mathlib.Core.Path.{◌≡◌, refl, ap}
use mathlib.Core.Bool.{Bool, true, false, cond}
use mathlib.Core.List.{List}
use native.Mathlib.Omega.{arith}
use Rattle.zones.specs.declared.fraction.Fraction.{Fraction}
use Rattle.zones.specs.declared.pair.Pair.{Pair}
use Rattle.zones.specs.declared.reduction.Reduced.{Reduced}
use Rattle.zones.specs.Fractions.{lowered_by}
use Rattle.reachability.specs.Search.{Result, empty, zone, frac_of}
use Rattle.search.specs.Instance.{Fractions, fractions_of, result_of}

-- what a result that is a zone says of the reduction, and one that is empty; `safe` is the safe fraction before
pub record WasZone (safe : Fraction) (r : Reduced) (z : List Pair) (g : Fractions) : Type 0 where
  pub live : is_empty r ≡ false
  pub square : r.work.zone ≡ z
  pub exact : r.work.fraction ≡ g.exact
  pub same : safe ≡ g.safe

pub record WasEmpty (safe : Fraction) (r : Reduced) (g : Fractions) : Type 0 where
  pub none : is_empty r ≡ true
  pub exact : r.work.fraction ≡ g.exact
  pub lowered : lowered_by safe (safe_of r) ≡ g.safe

module _ (safe : Fraction) (r : Reduced) where
  abbrev seen : Bool → Result (List Pair) Fractions
  seen t = cond t (empty (fractions_of r.work.fraction (lowered_by safe (safe_of r)))) (zone r.work.zone (fractions_of r.work.fraction safe))

  pub result_exact : (frac_of (result_of safe r)).exact ≡ r.work.fraction
  unfolding result_of
  result_exact = go (is_empty r)
    where
      go : (t : Bool) → (frac_of (seen t)).exact ≡ r.work.fraction
      go true = refl
      go false = refl

  pub result_safe : (P : Fraction → Type 0) → P safe → P (lowered_by safe (safe_of r)) → P (frac_of (result_of safe r)).safe
  unfolding result_of
  result_safe P p l = go (is_empty r)
    where
      go : (t : Bool) → P (frac_of (seen t)).safe
      go true = l
      go false = p

  pub was_empty : {g : Fractions} → result_of safe r ≡ empty g → WasEmpty safe r g
  unfolding result_of
  was_empty {g} = go (is_empty r) refl
    where
      go : (t : Bool) → is_empty r ≡ t → seen t ≡ empty g → WasEmpty safe r g
      go true e h = let c : fractions_of r.work.fraction (lowered_by safe (safe_of r)) ≡ g = cc in
          record { none = e; exact = ap (λ (f : Fractions). f.exact) c; lowered = ap (λ (f : Fractions). f.safe) c }
      go false e h = let c : ◌≡◌ {A = ℕ} 0 1 = cc in absurd (omega arith)

  pub was_zone : {z : List Pair} {g : Fractions} → result_of safe r ≡ zone z g → WasZone safe r z g
  unfolding result_of
  was_zone {z} {g} = go (is_empty r) refl
    where
      go : (t : Bool) → is_empty r ≡ t → seen t ≡ zone z g → WasZone safe r z g
      go true e h = let c : ◌≡◌ {A = ℕ} 0 1 = cc in absurd (omega arith)
      go false e h = let c : fractions_of r.work.fraction safe ≡ g = cc in
          record { live = e; square = cc; exact = ap (λ (f : Fractions). f.exact) c; same = ap (λ (f : Fractions). f.safe) c }
