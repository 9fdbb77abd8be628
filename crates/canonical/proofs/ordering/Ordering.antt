-- The edges one by one, each put among those before it.
-- Assumes nothing.
use Prim.Native.Nat.{ℕ, zero, suc, ◌+◌, ◌-◌, ◌*◌, ◌<◌}
use mathlib.Core.Bool.{Bool, true, false}
use mathlib.Core.List.{List, [], ◌∷◌, ◌++◌}
use mathlib.Core.Path.{◌≡◌, refl, sym, ap, ◌∙◌}
use native.Mathlib.Nat.{suc-mul, sub_self}
use native.Mathlib.Numerals.{add-one}
use native.Mathlib.Omega.{arith}
use Rattle.order.specs.Edges.{Edge, insert_edge, sorted}
use Rattle.order.specs.Laid.{edge_bytes, nth_edge, edges_from, first_edges}
use Rattle.order.proofs.Splitting.{sorted-snoc}
use Rattle.canonical.specs.Numbers.{Inserted, ListsOf, taken_at, taken}

edges-snoc : (size : ℕ) (s : List ℕ) (at n : ℕ) → edges_from size s at (suc n) ≡ edges_from size s at n ++ (edge_bytes size s (at + n * size) ∷ [])
unfolding edges_from
edges-snoc size s at zero = let e : at ≡ at + 0 * size = omega arith in ap (λ (m : ℕ). edge_bytes size s m ∷ []) e
edges-snoc size s at (suc n) =
    let e : at + size + n * size ≡ at + suc n * size = omega (arith, suc-mul n size) in
    ap (λ (es : List Edge). edge_bytes size s at ∷ es)
    (edges-snoc size s (at + size) n ∙ ap (λ (m : ℕ). edges_from size s (at + size) n ++ (edge_bytes size s m ∷ [])) e)

one_more : (size : ℕ) (s : List ℕ) (i : ℕ) → first_edges size s (i + 1) ≡ first_edges size s i ++ (nth_edge size s i ∷ [])
one_more size s i =
    let e : 0 + i * size ≡ i * size = omega arith in
    ap (edges_from size s 0) (add-one i) ∙ edges-snoc size s 0 i ∙ ap (λ (m : ℕ). edges_from size s 0 i ++ (edge_bytes size s m ∷ [])) e

-- ---- the edges that are taken
module _ (size : ℕ) (s : List ℕ) (n : ℕ) where
  pub taken_none : (down : Bool) → taken size s down n 0 ≡ []
  unfolding edges_from
  taken_none true = refl
  taken_none false = refl

  pub taken_more : (down : Bool) (i : ℕ) → i < n
      → insert_edge (nth_edge size s (taken_at down n i)) (sorted (taken size s down n i)) ≡ sorted (taken size s down n (i + 1))
  unfolding edges_from sorted
  taken_more true i h =
      let at : n - 1 - i ≡ n - (i + 1) = omega arith in
      let k : n - i ≡ suc (n - (i + 1)) = omega arith in
      let next : (n - i) * size ≡ (n - (i + 1)) * size + size = ap (λ (m : ℕ). m * size) k ∙ suc-mul (n - (i + 1)) size in
      (λ t. insert_edge (nth_edge size s (at t)) (sorted (edges_from size s (next t) i)))
      ∙ ap (λ (m : ℕ). sorted (edges_from size s ((n - (i + 1)) * size) m)) (sym (add-one i))
  taken_more false i h = sym (ap sorted (one_more size s i) ∙ sorted-snoc (first_edges size s i) (nth_edge size s i))

  pub taken_all : (down : Bool) → taken size s down n n ≡ first_edges size s n
  taken_all true =
      let e : (n - n) * size ≡ 0 = omega (arith, ap (λ (m : ℕ). m * size) (sub_self n)) in
      ap (λ (m : ℕ). edges_from size s m n) e
  taken_all false = refl

-- none is listed
pub order_none : (size : ℕ) (s : List ℕ) (down : Bool) (n : ℕ) → ListsOf size s (taken size s down n 0) 0 []
unfolding sorted
order_none size s down n = record { few = omega arith; edges = sym (ap sorted (taken_none size s n down)) }

-- one more put among those before it
pub order_more : (size : ℕ) (s : List ℕ) (down : Bool) (n : ℕ) (ns : List ℕ) (i : ℕ) {x : ℕ} {now : List ℕ} → i < n
    → ListsOf size s (taken size s down n i) i ns → x ≡ taken_at down n i → Inserted size s ns x now
    → ListsOf size s (taken size s down n (i + 1)) (i + 1) now
order_more size s down n ns i h o e p = record {
  few = omega (arith, o.few, p.more);
  edges = p.edges ∙ (λ t. insert_edge (nth_edge size s (e t)) (o.edges t)) ∙ taken_more size s n down i h;
}
