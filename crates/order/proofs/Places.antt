-- Two lists with the same edges number each other's: "up to the numbering of edges".
-- Assumes nothing.
use Prim.Native.Nat.{ℕ, zero, suc, ◌<◌}
use mathlib.Core.Bool.{true}
use mathlib.Core.List.{List, [], ◌∷◌}
use mathlib.Core.Logic.{◌⊎◌, inl, inr}
use mathlib.Core.Path.{◌≡◌, refl, sym, ap, ◌∙◌}
use lib.ListN.{length, get_or}
use native.Mathlib.Nat.{le_of_suc-le-suc, not-suc-le-zero}
use native.Mathlib.Omega.{arith}
use Rattle.order.specs.Edges.{Edge, bytes_less, sorted, Member, SameEdges}
use Rattle.order.specs.Places.{place_in, number_in}
use Rattle.order.proofs.Order.{not_both, irreflexive, Trichotomy, less, same, more, trichotomy}
use Rattle.order.proofs.Sorted.{sorted_member}

-- the bytes stand at n
pub record StandsAt (ys : List Edge) (x : Edge) (n : ℕ) : Type 0 where
  pub inside : n < length ys
  pub bytes : get_or ys n [] ≡ x

placed : (x : Edge) (ys : List Edge) → Member x ys → StandsAt ys x (place_in ys x)
unfolding place_in
placed x [] m = absurd m
placed x (y ∷ ys) m = go (trichotomy x y) (placed x ys) m
  where
    later : StandsAt ys x (place_in ys x) → StandsAt (y ∷ ys) x (suc (place_in ys x))
    later p = let h = p.inside in record { inside = omega arith; bytes = p.bytes }

    rest : bytes_less x y ≡ true ⊎ bytes_less y x ≡ true → Member x (y ∷ ys) → Member x ys
    rest (inl b) (inl e) = not_both (ap (bytes_less x) e ∙ b) (irreflexive x)
    rest (inr b) (inl e) = not_both (ap (bytes_less y) (sym e) ∙ b) (irreflexive y)
    rest b (inr m) = m

    go : Trichotomy x y → (Member x ys → StandsAt ys x (place_in ys x)) → Member x (y ∷ ys) → StandsAt (y ∷ ys) x (place_in (y ∷ ys) x)
    go (less p q) k m = rw p (later (k (rest (inl p) m)))
    go (same e) k m =
        rw (ap (bytes_less x) (sym e) ∙ irreflexive x, ap (λ (z : Edge). bytes_less z x) (sym e) ∙ irreflexive x)
        (record { inside = omega arith; bytes = sym e })
    go (more p q) k m = rw (q, p) (later (k (rest (inr p) m)))

at_member : (xs : List Edge) (i : ℕ) → i < length xs → Member (get_or xs i []) xs
at_member [] i h = absurd (not-suc-le-zero h)
at_member (x ∷ xs) zero h = inl refl
at_member (x ∷ xs) (suc i) h = inr (at_member xs i (le_of_suc-le-suc h))

pub numbers_same : (xs ys : List Edge) → SameEdges xs ys → (i : ℕ) → i < length xs → StandsAt ys (get_or xs i []) (number_in xs ys i)
unfolding number_in
numbers_same xs ys s i h = placed (get_or xs i []) ys ((s (get_or xs i [])).0 (at_member xs i h))

-- an edge's number in the order, and back
pub number-sorted : (xs : List Edge) (i : ℕ) → i < length xs → StandsAt (sorted xs) (get_or xs i []) (number_in xs (sorted xs) i)
number-sorted xs = numbers_same xs (sorted xs) (λ z. ((sorted_member xs z).1, (sorted_member xs z).0))

pub number-drawn : (xs : List Edge) (j : ℕ) → j < length (sorted xs) → StandsAt xs (get_or (sorted xs) j []) (number_in (sorted xs) xs j)
number-drawn xs = numbers_same (sorted xs) xs (sorted_member xs)
