-- The same bytes are equal lists: lengths and all bytes agree.
-- Assumes nothing.
use Prim.Native.Nat.{ℕ, ◌<◌}
use mathlib.Core.Bool.{Bool, true, false, cond, ◌&&◌}
use mathlib.Core.List.{List}
use mathlib.Core.Logic.{◌↔◌}
use mathlib.Core.Path.{◌≡◌, refl, ap}
use lib.Dec.{eqb}
use lib.ListN.{length, get_or}
use lib.Seq.{ext_get_or}
use Rattle.std.specs.Cmp.Lexicographic.{pointwise, bytes_decides}
use Rattle.std.proofs.lemmas.Bool.{false_from_ne_true}
use Rattle.std.proofs.lemmas.Bool.Decides.{same_from_decides}
use Rattle.std.proofs.lemmas.Slice.Eq.{compares_Decides}
use Rattle.encoding.specs.Bytes.{same_bytes}

and : (s t : Bool) → cond s t false ≡ (s && t)
and true t = refl
and false t = refl

pub one_list : (a b : List ℕ) → same_bytes a b ≡ true ↔ a ≡ b
unfolding same_bytes
one_list = compares_Decides same_bytes (record {
  empty = refl;
  shorter = λ y ys. refl;
  longer = λ x xs. refl;
  heads = λ x y xs ys. and (eqb x y) (same_bytes xs ys);
})

pub equal_same : (a : List ℕ) → same_bytes a a ≡ true
equal_same a = (one_list a a).1 refl

pub same_equal : (a b : List ℕ) → same_bytes a b ≡ true → a ≡ b
same_equal a b = (one_list a b).0

pub differ_same : (a b : List ℕ) → (a ≡ b → ⊥) → same_bytes a b ≡ false
differ_same a b h = false_from_ne_true _ (λ e. h (same_equal a b e))

-- it is what slices' own equality says
pub slices_same : (a b : List ℕ) → pointwise eqb a b ≡ same_bytes a b
slices_same a b = same_from_decides _ _ (bytes_decides a b) (one_list a b)

-- "equal exactly when their lengths and all their bytes agree"
pub all_agree : (a b : List ℕ) → same_bytes a b ≡ true ↔ ((length a ≡ length b) × ((k : ℕ) → k < length a → get_or a k 0 ≡ get_or b k 0))
all_agree a b = (
  (λ e. let g = same_equal a b e in (ap length g, (λ k h. ap (λ (s : List ℕ). get_or s k 0) g))),
  (λ h. (one_list a b).1 (ext_get_or 0 a b h.0 h.1)),
)
