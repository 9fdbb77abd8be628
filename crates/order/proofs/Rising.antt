-- A rising list: each edge is less than every later one. It is determined by its set of edges.
-- Assumes nothing.
use mathlib.Core.Bool.{Bool, true, false, cond}
use mathlib.Core.List.{List, [], ◌∷◌}
use mathlib.Core.Logic.{inl, inr}
use mathlib.Core.Path.{◌≡◌, refl, sym, ap, ◌∙◌, subst}
use Rattle.order.specs.Edges.{Edge, bytes_less, rising, Member, SameEdges}
use Rattle.order.proofs.Order.{not_both, irreflexive, transitive, asymmetric}

-- x is less than each of the edges
abbrev pub Above : Edge → List Edge → Type 0
Above x [] = Unit {0}
Above x (y ∷ ys) = (bytes_less x y ≡ true) × Above x ys

abbrev pub Rising : List Edge → Type 0
Rising [] = Unit {0}
Rising (x ∷ xs) = Above x xs × Rising xs

pub above_all : (w x : Edge) (ys : List Edge) → bytes_less w x ≡ true → Above x ys → Above w ys
above_all w x [] h a = tt
above_all w x (y ∷ ys) h a = (transitive w x y h a.0, above_all w x ys h a.1)

pub above_member : (x z : Edge) (ys : List Edge) → Above x ys → Member z ys → bytes_less x z ≡ true
above_member x z [] a m = absurd m
above_member x z (y ∷ ys) a (inl e) = ap (bytes_less x) e ∙ a.0
above_member x z (y ∷ ys) a (inr m) = above_member x z ys a.1 m

-- ---- `rising` says so
pub next_less : (x y : Edge) (ys : List Edge) → rising (x ∷ y ∷ ys) ≡ true → (bytes_less x y ≡ true) × (rising (y ∷ ys) ≡ true)
unfolding rising
next_less x y ys h = go (bytes_less x y) refl h
  where
    go : (t : Bool) → bytes_less x y ≡ t → cond t (rising (y ∷ ys)) false ≡ true → (bytes_less x y ≡ true) × (rising (y ∷ ys) ≡ true)
    go true e k = (e, k)
    go false e k = not_both k refl

pub rises : (xs : List Edge) → rising xs ≡ true → Rising xs
rises [] h = tt
rises (x ∷ []) h = (tt, tt)
rises (x ∷ y ∷ ys) h =
    let n = next_less x y ys h in
    let r = rises (y ∷ ys) n.1 in
    ((n.0, above_all x y ys n.0 r.0), r)

pub rises_so : (xs : List Edge) → Rising xs → rising xs ≡ true
unfolding rising
rises_so [] r = refl
rises_so (x ∷ []) r = refl
rises_so (x ∷ y ∷ ys) r = rw r.0.0 (rises_so (y ∷ ys) r.1)

-- ---- two rising lists with the same edges are one
tail_member : (x z : Edge) (xs ys : List Edge) → Above x xs → Member z xs → Member z (x ∷ ys) → Member z ys
tail_member x z xs ys a m (inl e) = not_both (subst (λ (y : Edge). bytes_less x y ≡ true) e (above_member x z xs a m)) (irreflexive x)
tail_member x z xs ys a m (inr k) = k

heads : (x y : Edge) (xs ys : List Edge) → Above x xs → Above y ys → Member x (y ∷ ys) → Member y (x ∷ xs) → x ≡ y
heads x y xs ys a b (inl e) k = e
heads x y xs ys a b (inr m) (inl e) = sym e
heads x y xs ys a b (inr m) (inr k) = not_both (above_member x y xs a k) (asymmetric y x (above_member y x ys b m))

pub determined : (xs ys : List Edge) → Rising xs → Rising ys → SameEdges xs ys → xs ≡ ys
determined [] [] r q s = refl
determined [] (y ∷ ys) r q s = absurd ((s y).1 (inl refl))
determined (x ∷ xs) [] r q s = absurd ((s x).0 (inl refl))
determined (x ∷ xs) (y ∷ ys) r q s =
    let e : x ≡ y = heads x y xs ys r.0 q.0 ((s x).0 (inl refl)) ((s y).1 (inl refl)) in
    λ i. e i ∷ determined xs ys r.1 q.1 (λ z. (
      (λ m. tail_member x z xs ys r.0 m (subst (λ (w : Edge). Member z (w ∷ ys)) (sym e) ((s z).0 (inr m)))),
      (λ m. tail_member y z ys xs q.0 m (subst (λ (w : Edge). Member z (w ∷ xs)) e ((s z).1 (inr m)))),
    )) i
