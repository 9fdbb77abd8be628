-- "one order: edges rise by their bytes, repeats dropped": it is one, and it depends on the set of edges alone.
-- Assumes nothing.
use Prim.Native.Nat.{◌≤◌}
use mathlib.Core.Bool.{true}
use mathlib.Core.List.{List, [], ◌∷◌}
use mathlib.Core.Logic.{inl, inr, ◌↔◌}
use mathlib.Core.Path.{◌≡◌, subst}
use lib.ListN.{length}
use native.Mathlib.Omega.{arith}
use Rattle.order.specs.Edges.{Edge, rising, sorted, Member, SameEdges}
use Rattle.order.proofs.Rising.{Rising, rises, rises_so, determined}
use Rattle.order.proofs.Inserting.{insert_rises, inserted, not_more, insert_length}

sorted_rises : (xs : List Edge) → Rising (sorted xs)
unfolding sorted
sorted_rises [] = tt
sorted_rises (x ∷ xs) = insert_rises x (sorted xs) (sorted_rises xs)

pub sorted-rising : (xs : List Edge) → rising (sorted xs) ≡ true
sorted-rising xs = rises_so (sorted xs) (sorted_rises xs)

over : (x z : Edge) (xs ys : List Edge) → (Member z xs → Member z ys) → Member z (x ∷ xs) → Member z (x ∷ ys)
over x z xs ys k (inl e) = inl e
over x z xs ys k (inr m) = inr (k m)

pub sorted_member : (xs : List Edge) → SameEdges (sorted xs) xs
unfolding sorted
sorted_member [] z = ((λ m. m), (λ m. m))
sorted_member (x ∷ xs) z =
    let k = sorted_member xs z in (
      (λ m. over x z (sorted xs) xs k.0 (not_more x z (sorted xs) m)),
      (λ m. inserted x z (sorted xs) (over x z xs (sorted xs) k.1 m)),
    )

-- "Two cards that differ only in order and repeats of edges give equal bytes"
pub same_sorted : (xs ys : List Edge) → SameEdges xs ys → sorted xs ≡ sorted ys
same_sorted xs ys s =
    determined (sorted xs) (sorted ys) (sorted_rises xs) (sorted_rises ys)
    (λ z. ((λ m. (sorted_member ys z).1 ((s z).0 ((sorted_member xs z).0 m))), (λ m. (sorted_member xs z).1 ((s z).1 ((sorted_member ys z).0 m)))))

pub rising_determined : (xs ys : List Edge) → rising xs ≡ true → rising ys ≡ true → SameEdges xs ys → xs ≡ ys
rising_determined xs ys h k = determined xs ys (rises xs h) (rises ys k)

-- what rises is in order, and only that
pub rising-sorted : (xs : List Edge) → rising xs ≡ true ↔ sorted xs ≡ xs
rising-sorted xs = (
  (λ h. determined (sorted xs) xs (sorted_rises xs) (rises xs h) (sorted_member xs)),
  (λ e. subst (λ (ys : List Edge). rising ys ≡ true) e (sorted-rising xs)),
)

-- "writing again changes nothing"
pub sorted_again : (xs : List Edge) → sorted (sorted xs) ≡ sorted xs
sorted_again xs = (rising-sorted (sorted xs)).0 (sorted-rising xs)

pub sorted-length : (xs : List Edge) → length (sorted xs) ≤ length xs
unfolding sorted
sorted-length [] = omega arith
sorted-length (x ∷ xs) = let k = sorted-length xs in omega (arith, insert_length x (sorted xs))
