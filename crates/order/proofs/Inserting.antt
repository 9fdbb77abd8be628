-- An edge put in its place: the list still rises and has one edge more, or as many.
-- Assumes nothing.
use Prim.Native.Nat.{suc, ◌≤◌}
use mathlib.Core.Bool.{true}
use mathlib.Core.List.{List, [], ◌∷◌}
use mathlib.Core.Logic.{inl, inr}
use mathlib.Core.Path.{◌≡◌, sym, ◌∙◌, subst}
use lib.ListN.{length}
use native.Mathlib.Omega.{arith}
use Rattle.order.specs.Edges.{Edge, bytes_less, insert_edge, Member}
use Rattle.order.proofs.Order.{irreflexive, asymmetric, Trichotomy, less, same, more, trichotomy}
use Rattle.order.proofs.Rising.{Above, Rising, above_all}

-- ---- one law for each case
module _ (x y : Edge) (ys : List Edge) where
  pub insert_before : bytes_less x y ≡ true → insert_edge x (y ∷ ys) ≡ x ∷ y ∷ ys
  unfolding insert_edge
  insert_before h = rw (asymmetric x y h, h)

  pub insert_same : x ≡ y → insert_edge x (y ∷ ys) ≡ y ∷ ys
  unfolding insert_edge
  insert_same e = rw (e, irreflexive y)

  pub insert_after : bytes_less y x ≡ true → insert_edge x (y ∷ ys) ≡ y ∷ insert_edge x ys
  unfolding insert_edge
  insert_after h = rw h

-- ---- the list still rises
pub insert_above : (w x : Edge) (ys : List Edge) → bytes_less w x ≡ true → Above w ys → Above w (insert_edge x ys)
unfolding insert_edge
insert_above w x [] h a = (h, tt)
insert_above w x (y ∷ ys) h a = go (trichotomy x y) (insert_above w x ys h a.1)
  where
    go : Trichotomy x y → Above w (insert_edge x ys) → Above w (insert_edge x (y ∷ ys))
    go (less p q) k = subst (Above w) (sym (insert_before x y ys p)) (h, a)
    go (same e) k = subst (Above w) (sym (insert_same x y ys e)) a
    go (more p q) k = subst (Above w) (sym (insert_after x y ys p)) (a.0, k)

pub insert_rises : (x : Edge) (ys : List Edge) → Rising ys → Rising (insert_edge x ys)
unfolding insert_edge
insert_rises x [] r = (tt, tt)
insert_rises x (y ∷ ys) r = go (trichotomy x y) (insert_rises x ys r.1)
  where
    go : Trichotomy x y → Rising (insert_edge x ys) → Rising (insert_edge x (y ∷ ys))
    go (less p q) k = subst Rising (sym (insert_before x y ys p)) ((p, above_all x y ys p r.0), r)
    go (same e) k = subst Rising (sym (insert_same x y ys e)) r
    go (more p q) k = subst Rising (sym (insert_after x y ys p)) (insert_above y x ys p r.0, k)

-- ---- its edges are those that there were, and x
pub inserted : (x z : Edge) (ys : List Edge) → Member z (x ∷ ys) → Member z (insert_edge x ys)
unfolding insert_edge
inserted x z [] m = m
inserted x z (y ∷ ys) m = go (trichotomy x y) (inserted x z ys) m
  where
    go : Trichotomy x y → (Member z (x ∷ ys) → Member z (insert_edge x ys)) → Member z (x ∷ y ∷ ys) → Member z (insert_edge x (y ∷ ys))
    go (less p q) k m = subst (Member z) (sym (insert_before x y ys p)) m
    go (same e) k (inl d) = subst (Member z) (sym (insert_same x y ys e)) (inl (d ∙ e))
    go (same e) k (inr m) = subst (Member z) (sym (insert_same x y ys e)) m
    go (more p q) k (inl d) = subst (Member z) (sym (insert_after x y ys p)) (inr (k (inl d)))
    go (more p q) k (inr (inl d)) = subst (Member z) (sym (insert_after x y ys p)) (inl d)
    go (more p q) k (inr (inr m)) = subst (Member z) (sym (insert_after x y ys p)) (inr (k (inr m)))

pub not_more : (x z : Edge) (ys : List Edge) → Member z (insert_edge x ys) → Member z (x ∷ ys)
unfolding insert_edge
not_more x z [] m = m
not_more x z (y ∷ ys) m = go (trichotomy x y) (not_more x z ys) m
  where
    swap : Member z (x ∷ ys) → Member z (x ∷ y ∷ ys)
    swap (inl d) = inl d
    swap (inr m) = inr (inr m)

    over : (Member z (insert_edge x ys) → Member z (x ∷ ys)) → Member z (y ∷ insert_edge x ys) → Member z (x ∷ y ∷ ys)
    over k (inl d) = inr (inl d)
    over k (inr m) = swap (k m)

    go : Trichotomy x y → (Member z (insert_edge x ys) → Member z (x ∷ ys)) → Member z (insert_edge x (y ∷ ys)) → Member z (x ∷ y ∷ ys)
    go (less p q) k m = subst (Member z) (insert_before x y ys p) m
    go (same e) k m = inr (subst (Member z) (insert_same x y ys e) m)
    go (more p q) k m = over k (subst (Member z) (insert_after x y ys p) m)

pub insert_length : (x : Edge) (ys : List Edge) → length (insert_edge x ys) ≤ suc (length ys)
unfolding insert_edge
insert_length x [] = omega arith
insert_length x (y ∷ ys) = go (trichotomy x y) (insert_length x ys)
  where
    go : Trichotomy x y → length (insert_edge x ys) ≤ suc (length ys) → length (insert_edge x (y ∷ ys)) ≤ suc (suc (length ys))
    go (less p q) k = rw (insert_before x y ys p) (omega arith)
    go (same e) k = rw (insert_same x y ys e) (omega arith)
    go (more p q) k = rw (insert_after x y ys p) (omega arith)
