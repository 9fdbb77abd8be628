-- Elements of a list by their place, and lists that have grown.
use Prim.Native.Nat.{ℕ, zero, suc, ◌≤◌, ◌<◌}
use mathlib.Core.List.{List, [], ◌∷◌, ◌++◌, append_assoc, append-nil}
use mathlib.Core.Path.{◌≡◌, refl, sym, ap, ◌∙◌, subst}
use mathlib.Core.Logic.{◌⊎◌, inl, inr, ⊎_elim}
use lib.ListN.{length, drop, length-append}
use native.Mathlib.Omega.{arith}
use Rattle.reachability.specs.Search.{Nth}

-- what holds of every element
abbrev pub All : {X : Type 0} → (X → Type 0) → List X → Type 0
All {X} N xs = (j : ℕ) (k : X) → Nth xs j k → N k

-- ys is xs and more
pub record Grown {X : Type 0} (xs ys : List X) : Type 0 where
  pub more : List X
  pub same : ys ≡ xs ++ more

module _ {X : Type 0} where
  nth_left : (xs ys : List X) (j : ℕ) (k : X) → Nth xs j k → Nth (xs ++ ys) j k
  nth_left [] ys j k h = absurd h
  nth_left (x ∷ xs) ys zero k h = h
  nth_left (x ∷ xs) ys (suc j) k h = nth_left xs ys j k h

  nth_back : (xs ys : List X) (j : ℕ) (k : X) → j < length xs → Nth (xs ++ ys) j k → Nth xs j k
  nth_back [] ys j k l h = absurd (omega arith)
  nth_back (x ∷ xs) ys zero k l h = h
  nth_back (x ∷ xs) ys (suc j) k l h = nth_back xs ys j k (omega arith) h

  pub nth_last : (xs : List X) (y : X) → Nth (xs ++ (y ∷ [])) (length xs) y
  nth_last [] y = refl
  nth_last (x ∷ xs) y = nth_last xs y

  -- an element of a list with one more is of that list, or the last
  pub nth_place : (xs : List X) (y : X) (j : ℕ) (k : X) → Nth (xs ++ (y ∷ [])) j k → Nth xs j k ⊎ ((j ≡ length xs) × (y ≡ k))
  nth_place [] y zero k h = inr (refl, h)
  nth_place [] y (suc j) k h = absurd h
  nth_place (x ∷ xs) y zero k h = inl h
  nth_place (x ∷ xs) y (suc j) k h = ⊎_elim inl (λ m. inr (omega (arith, m.0), m.1)) (nth_place xs y j k h)

  pub all_snoc : {N : X → Type 0} (xs : List X) (y : X) → All N xs → N y → All N (xs ++ (y ∷ []))
  all_snoc {N} xs y a n j k h = ⊎_elim (a j k) (λ m. subst N m.1 n) (nth_place xs y j k h)

  pub nth_one : (xs : List X) (j : ℕ) (k k' : X) → Nth xs j k → Nth xs j k' → k ≡ k'
  nth_one [] j k k' h g = absurd h
  nth_one (x ∷ xs) zero k k' h g = sym h ∙ g
  nth_one (x ∷ xs) (suc j) k k' h g = nth_one xs j k k' h g

  pub nth_lt : (xs : List X) (j : ℕ) (k : X) → Nth xs j k → j < length xs
  nth_lt [] j k h = absurd h
  nth_lt (x ∷ xs) zero k h = omega arith
  nth_lt (x ∷ xs) (suc j) k h = omega (arith, nth_lt xs j k h)

  pub nil_cons : {x : X} {xs : List X} → [] ≡ x ∷ xs → ⊥
  nil_cons e = let z : ◌≡◌ {A = ℕ} 0 1 = cc in omega arith

  pub nth_drop : (xs : List X) (n : ℕ) (k : X) (ks : List X) → drop n xs ≡ k ∷ ks → Nth xs n k
  nth_drop [] zero k ks h = nil_cons h
  nth_drop [] (suc n) k ks h = nil_cons h
  nth_drop (x ∷ xs) zero k ks h = cc
  nth_drop (x ∷ xs) (suc n) k ks h = nth_drop xs n k ks h

  pub nth_tail : (xs : List X) (j : ℕ) (k : X) → Nth xs j k → drop j xs ≡ k ∷ drop (suc j) xs
  nth_tail [] j k h = absurd h
  nth_tail (x ∷ xs) zero k h = ap (λ y. y ∷ xs) h
  nth_tail (x ∷ xs) (suc j) k h = nth_tail xs j k h

  pub drop_none : (xs : List X) (n : ℕ) → drop n xs ≡ [] → length xs ≤ n
  drop_none [] n h = omega arith
  drop_none (x ∷ xs) zero h = absurd (nil_cons (sym h))
  drop_none (x ∷ xs) (suc n) h = omega (arith, drop_none xs n h)

  -- ---- lists that have grown
  pub grown_refl : (xs : List X) → Grown xs xs
  grown_refl xs = record { more = []; same = sym (append-nil xs) }

  pub grown_trans : {xs ys zs : List X} → Grown xs ys → Grown ys zs → Grown xs zs
  grown_trans {xs} h g = record { more = h.more ++ g.more; same = g.same ∙ rw h.same (append_assoc xs h.more g.more) }

  pub grown_nth : {xs ys : List X} → Grown xs ys → (j : ℕ) (k : X) → Nth xs j k → Nth ys j k
  grown_nth {xs} h j k n = rw h.same (nth_left xs h.more j k n)

  -- a place that was taken has what it had
  pub grown_back : {xs ys : List X} → Grown xs ys → (j : ℕ) (k : X) → j < length xs → Nth ys j k → Nth xs j k
  grown_back {xs} h j k l n = nth_back xs h.more j k l (rw h.same at n)

  pub grown_longer : {xs ys : List X} → Grown xs ys → length xs ≤ length ys
  grown_longer h = rw (h.same, length-append) (omega arith)
