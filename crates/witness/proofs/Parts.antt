-- What the code adds to a clock or takes off it: the bound at a pair's place in its square, saturating. All numbers are on the scale.
-- Assumes nothing.
use Prim.Native.Nat.{ℕ, ◌+◌, ◌*◌, ◌≤◌, ◌<◌}
use mathlib.Core.Path.{◌≡◌, ap, ◌∙◌}
use mathlib.Core.List.{List}
use lib.IntN.{ℤ, pos, negsuc, nat_abs, ◌+ℤ◌, ◌-ℤ◌}
use lib.ListN.{get_or}
use mir.Syntax.{w64}
use mir.Val.{of_z, to_z}
use mir.ValLaws.{to_z-of_z}
use native.Mathlib.Omega.{arith}
use Rattle.std.proofs.lemmas.Int.{ints}
use Rattle.std.specs.Int.{saturate_unsigned}
use Rattle.runs.specs.Limits.{scale}
use Rattle.zones.specs.declared.pair.Pair.{Pair}
use Rattle.zones.specs.Integers.{down}
use Rattle.zones.specs.Pairs.{zero_pair}
use Rattle.zones.specs.Zones.{pair_at}
use Rattle.zones.proofs.pairs.Integers.{abs_fits}
use Rattle.witness.specs.Sizes.{Spans}
use Rattle.witness.specs.Witnesses.{less_bound, plus_bound}

module _ (x : ℕ) (hx : x ≤ scale) where
  less_int : (z : ℤ) → nat_abs z ≤ scale → saturate_unsigned w64 (pos x -ℤ z) ≡ less_bound x z
  less_int (pos n) h = omega (arith, ints)
  less_int (negsuc n) h = omega (arith, ints)

  plus_int : (z : ℤ) → nat_abs z ≤ scale → saturate_unsigned w64 (pos x +ℤ z) ≡ plus_bound x z
  plus_int (pos n) h = omega (arith, ints)
  plus_int (negsuc n) h = omega (arith, ints)

none_less : (z : ℤ) → less_bound 0 z ≡ down z
none_less (pos n) = omega arith
none_less (negsuc n) = omega arith

-- the pair of row 0, and of column 0
pub in_row : (z : List Pair) (x : ℕ) → get_or z x zero_pair ≡ pair_at z 0 x
unfolding pair_at
in_row z x = let e : x ≡ 0 * 9 + x = omega arith in ap (λ (k : ℕ). get_or z k zero_pair) e

pub in_column : (z : List Pair) (x : ℕ) → get_or z (x * 9) zero_pair ≡ pair_at z x 0
unfolding pair_at
in_column z x = let e : x * 9 ≡ x * 9 + 0 = omega arith in ap (λ (k : ℕ). get_or z k zero_pair) e

module _ (n : ℕ) (z : List Pair) (s : Spans scale n z) (x : ℕ) (h : x < n) where
  read : (a b : ℕ) → a < n → b < n → to_z w64 (of_z w64 (pair_at z a b).m) ≡ (pair_at z a b).m
  read a b ha hb = to_z-of_z w64 _ (abs_fits w64 _ (omega (arith, s a b ha hb)))

  pub row_less : saturate_unsigned w64 (pos 0 -ℤ to_z w64 (of_z w64 (get_or z x zero_pair).m)) ≡ down (pair_at z 0 x).m
  row_less = rw (in_row z x, read 0 x (omega arith) h) (less_int 0 (omega arith) _ (s 0 x (omega arith) h) ∙ none_less _)

  module _ (k : ℕ) (hk : k ≤ scale) where
    pub column_less : saturate_unsigned w64 (pos k -ℤ to_z w64 (of_z w64 (get_or z (x * 9) zero_pair).m)) ≡ less_bound k (pair_at z x 0).m
    column_less = rw (in_column z x, read x 0 h (omega arith)) (less_int k hk _ (s x 0 h (omega arith)))

    pub column_plus : saturate_unsigned w64 (pos k +ℤ to_z w64 (of_z w64 (get_or z (x * 9) zero_pair).m)) ≡ plus_bound k (pair_at z x 0).m
    column_plus = rw (in_column z x, read x 0 h (omega arith)) (plus_int k hk _ (s x 0 h (omega arith)))

    pub entry_plus : (y : ℕ) → y < n →
        saturate_unsigned w64 (pos k +ℤ to_z w64 (of_z w64 (get_or z (x * 9 + y) zero_pair).m)) ≡ plus_bound k (pair_at z x y).m
    unfolding pair_at
    entry_plus y hy = rw (read x y h hy) (plus_int k hk _ (s x y h hy))
