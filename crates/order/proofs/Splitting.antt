-- Where an edge belongs in a rising list, by places counted from 0: what a search from the end finds.
-- Assumes nothing.
use Prim.Native.Nat.{ℕ, zero, suc, ◌-◌, ◌<◌, ◌≤◌}
use mathlib.Core.Bool.{true, false}
use mathlib.Core.List.{List, [], ◌∷◌, ◌++◌}
use mathlib.Core.Logic.{inl, inr}
use mathlib.Core.Path.{◌≡◌, refl, sym, ap, ◌∙◌}
use lib.ListN.{length, get_or, take, drop, take-append-drop, drop_of_length-le}
use lib.Seq.{drop-cons}
use native.Mathlib.Decide.{dec_le}
use native.Mathlib.Nat.{le_of_suc-le-suc, not-suc-le-zero}
use native.Mathlib.Omega.{arith}
use Rattle.order.specs.Edges.{Edge, bytes_less, insert_edge, sorted, Member}
use Rattle.order.proofs.Order.{transitive, neither}
use Rattle.order.proofs.Rising.{Above, Rising}
use Rattle.order.proofs.Inserting.{insert_before, insert_same, insert_after}
use Rattle.order.proofs.Sorted.{same_sorted}

above_at : (x : Edge) (ys : List Edge) (j : ℕ) (d : Edge) → Above x ys → j < length ys → bytes_less x (get_or ys j d) ≡ true
above_at x [] j d a h = absurd (not-suc-le-zero h)
above_at x (y ∷ ys) zero d a h = a.0
above_at x (y ∷ ys) (suc j) d a h = above_at x ys j d a.1 (le_of_suc-le-suc h)

-- the edges to the one at j are passed over if that is less
passed : (l : List Edge) (j : ℕ) (x d : Edge) → Rising l → j < length l → bytes_less (get_or l j d) x ≡ true
    → insert_edge x l ≡ take (suc j) l ++ insert_edge x (drop (suc j) l)
passed [] j x d r h b = absurd (not-suc-le-zero h)
passed (y ∷ ys) zero x d r h b = insert_after x y ys b
passed (y ∷ ys) (suc j) x d r h b =
    let g : j < length ys = le_of_suc-le-suc h in
    insert_after x y ys (transitive y (get_or ys j d) x (above_at y ys j d r.0 g) b) ∙ ap (λ (zs : List Edge). y ∷ zs) (passed ys j x d r.1 g b)

split : (l : List Edge) (k : ℕ) (x d : Edge) → Rising l → k ≤ length l
    → (0 < k → bytes_less (get_or l (k - 1) d) x ≡ true) → insert_edge x l ≡ take k l ++ insert_edge x (drop k l)
split l zero x d r h b = refl
split l (suc j) x d r h b = let e : suc j - 1 ≡ j = omega arith in passed l j x d r h (rw e at (b (omega arith)))

module _ (l : List Edge) (k : ℕ) (x d : Edge) (r : Rising l) (h : k ≤ length l) (b : 0 < k → bytes_less (get_or l (k - 1) d) x ≡ true) where
  -- it stands at k, before what is not less
  pub insert_here : (k < length l → bytes_less x (get_or l k d) ≡ true) → insert_edge x l ≡ take k l ++ (x ∷ drop k l)
  unfolding insert_edge
  insert_here g = split l k x d r h b ∙ ap (λ (zs : List Edge). take k l ++ zs) (go (dec_le (length l) k))
    where
      go : Dec (length l ≤ k) → insert_edge x (drop k l) ≡ x ∷ drop k l
      go (yes m) = rw (drop_of_length-le l m) refl
      go (no m) = let e = drop-cons l k d (omega arith) in rw e (insert_before x (get_or l k d) (drop (suc k) l) (g (omega arith)))

  -- or its bytes stand there
  pub insert_there : k < length l → bytes_less (get_or l k d) x ≡ false → bytes_less x (get_or l k d) ≡ false → insert_edge x l ≡ l
  insert_there m p q =
      let e = drop-cons l k d m in
      split l k x d r h b
      ∙ ap (λ (zs : List Edge). take k l ++ insert_edge x zs) e
      ∙ ap (λ (zs : List Edge). take k l ++ zs) (insert_same x (get_or l k d) (drop (suc k) l) (neither x (get_or l k d) q p) ∙ sym e)
      ∙ take-append-drop k l

-- ---- one edge more at the end
snoc-cons : (z x : Edge) (xs : List Edge) → Member z (xs ++ (x ∷ [])) → Member z (x ∷ xs)
snoc-cons z x [] m = m
snoc-cons z x (y ∷ ys) (inl e) = inr (inl e)
snoc-cons z x (y ∷ ys) (inr m) = go (snoc-cons z x ys m)
  where
    go : Member z (x ∷ ys) → Member z (x ∷ y ∷ ys)
    go (inl e) = inl e
    go (inr k) = inr (inr k)

cons-snoc : (z x : Edge) (xs : List Edge) → Member z (x ∷ xs) → Member z (xs ++ (x ∷ []))
cons-snoc z x [] m = m
cons-snoc z x (y ∷ ys) (inl e) = inr (cons-snoc z x ys (inl e))
cons-snoc z x (y ∷ ys) (inr (inl e)) = inl e
cons-snoc z x (y ∷ ys) (inr (inr m)) = inr (cons-snoc z x ys (inr m))

pub sorted-snoc : (xs : List Edge) (x : Edge) → sorted (xs ++ (x ∷ [])) ≡ insert_edge x (sorted xs)
unfolding sorted
sorted-snoc xs x = same_sorted (xs ++ (x ∷ [])) (x ∷ xs) (λ z. (snoc-cons z x xs, cons-snoc z x xs))
