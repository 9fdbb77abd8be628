-- `bytes_less` is a strict total order.
-- Assumes nothing.
use Prim.Native.Nat.{ℕ, ◌<◌}
use mathlib.Core.Bool.{Bool, true, false}
use mathlib.Core.List.{[], ◌∷◌}
use mathlib.Core.Path.{◌≡◌, refl, sym, ◌∙◌, subst}
use borrow.Author.Tests.{lt-ltb, le-ltb}
use lib.Dec.{T}
use native.Mathlib.Decide.{dec_le}
use native.Mathlib.Omega.{arith}
use Rattle.order.specs.Edges.{Edge, bytes_less}

pub not_both : {A : Type 0} {b : Bool} → b ≡ true → b ≡ false → A
not_both t f = absurd (subst T (sym t ∙ f) tt)

-- ---- one law for each case of the first bytes
pub data Numbers (x y : ℕ) : Type 0 where
  less : x < y → Numbers x y
  same : x ≡ y → Numbers x y
  more : y < x → Numbers x y

pub numbers : (x y : ℕ) → Numbers x y
numbers x y = elim (dec_le y x) [ yes h ↦ elim (dec_le x y) [ yes k ↦ same (omega arith) | no k ↦ more (omega arith) ] | no h ↦ less (omega arith) ]

module _ (x y : ℕ) (xs ys : Edge) where
  pub head-less : x < y → bytes_less (x ∷ xs) (y ∷ ys) ≡ true
  unfolding bytes_less
  head-less h = rw (lt-ltb x y h)

  pub head_more : y < x → bytes_less (x ∷ xs) (y ∷ ys) ≡ false
  unfolding bytes_less
  head_more h = rw (le-ltb x y (omega arith), lt-ltb y x h)

  pub head_same : x ≡ y → bytes_less (x ∷ xs) (y ∷ ys) ≡ bytes_less xs ys
  unfolding bytes_less
  head_same h = rw (le-ltb x y (omega arith), le-ltb y x (omega arith))

-- ---- the laws
pub irreflexive : (x : Edge) → bytes_less x x ≡ false
unfolding bytes_less
irreflexive [] = refl
irreflexive (x ∷ xs) = head_same x x xs xs refl ∙ irreflexive xs

pub transitive : (x y z : Edge) → bytes_less x y ≡ true → bytes_less y z ≡ true → bytes_less x z ≡ true
unfolding bytes_less
transitive [] [] z h k = not_both h refl
transitive [] (y ∷ ys) [] h k = not_both k refl
transitive [] (y ∷ ys) (z ∷ zs) h k = refl
transitive (x ∷ xs) [] z h k = not_both h refl
transitive (x ∷ xs) (y ∷ ys) [] h k = not_both k refl
transitive (x ∷ xs) (y ∷ ys) (z ∷ zs) h k = go (numbers x y) (numbers y z) (transitive xs ys zs)
  where
    go : Numbers x y → Numbers y z → (bytes_less xs ys ≡ true → bytes_less ys zs ≡ true → bytes_less xs zs ≡ true)
        → bytes_less (x ∷ xs) (z ∷ zs) ≡ true
    go (less p) (less q) t = head-less x z xs zs (omega arith)
    go (less p) (same q) t = head-less x z xs zs (omega arith)
    go (less p) (more q) t = not_both k (head_more y z ys zs q)
    go (same p) (less q) t = head-less x z xs zs (omega arith)
    go (same p) (same q) t = head_same x z xs zs (p ∙ q) ∙ t (sym (head_same x y xs ys p) ∙ h) (sym (head_same y z ys zs q) ∙ k)
    go (same p) (more q) t = not_both k (head_more y z ys zs q)
    go (more p) q t = not_both h (head_more x y xs ys p)

pub asymmetric : (x y : Edge) → bytes_less x y ≡ true → bytes_less y x ≡ false
asymmetric x y h = go (bytes_less y x) refl
  where
    go : (t : Bool) → bytes_less y x ≡ t → bytes_less y x ≡ false
    go true e = not_both (transitive x y x h e) (irreflexive x)
    go false e = e

-- total: neither is less only where they are one
pub neither : (x y : Edge) → bytes_less x y ≡ false → bytes_less y x ≡ false → x ≡ y
unfolding bytes_less
neither [] [] h k = refl
neither [] (y ∷ ys) h k = not_both refl h
neither (x ∷ xs) [] h k = not_both refl k
neither (x ∷ xs) (y ∷ ys) h k = go (numbers x y) (neither xs ys)
  where
    go : Numbers x y → (bytes_less xs ys ≡ false → bytes_less ys xs ≡ false → xs ≡ ys) → x ∷ xs ≡ y ∷ ys
    go (less p) t = not_both (head-less x y xs ys p) h
    go (same p) t = λ i. p i ∷ t (sym (head_same x y xs ys p) ∙ h) (sym (head_same y x ys xs (sym p)) ∙ k) i
    go (more p) t = not_both (head-less y x ys xs p) k

-- so of two edges one is less or they are equal
pub data Trichotomy (x y : Edge) : Type 0 where
  less : bytes_less x y ≡ true → bytes_less y x ≡ false → Trichotomy x y
  same : x ≡ y → Trichotomy x y
  more : bytes_less y x ≡ true → bytes_less x y ≡ false → Trichotomy x y

pub trichotomy : (x y : Edge) → Trichotomy x y
trichotomy x y = go (bytes_less x y) (bytes_less y x) refl refl
  where
    go : (t u : Bool) → bytes_less x y ≡ t → bytes_less y x ≡ u → Trichotomy x y
    go true u h k = less h (asymmetric x y h)
    go false true h k = more k h
    go false false h k = same (neither x y h k)
