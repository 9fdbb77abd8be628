-- Edges that lie one after another: read back from their bytes, and joined again.
-- Assumes nothing.
use Prim.Native.Nat.{ℕ, zero, suc, ◌+◌, ◌*◌, ◌<◌, ◌≤◌}
use mathlib.Core.List.{List, [], ◌∷◌, ◌++◌, append_assoc}
use mathlib.Core.Logic.{inl, inr}
use mathlib.Core.Path.{◌≡◌, refl, sym, ap, ◌∙◌}
use lib.ListN.{length, get_or, take, drop, length-append, length-drop}
use lib.Seq.{take_at, drop_at, take-add, drop-drop, length-take-le}
use native.Mathlib.Nat.{suc-mul, le_of_suc-le-suc, not-suc-le-zero}
use native.Mathlib.Omega.{arith}
use Rattle.order.specs.Edges.{Edge, Member}
use Rattle.order.specs.Laid.{edge_bytes, edges_from, first_edges, joined}

-- ---- lengths
pub edge-length : (size : ℕ) (s : List ℕ) (at : ℕ) → at + size ≤ length s → length (edge_bytes size s at) ≡ size
unfolding edge_bytes
edge-length size s at h = length-take-le size (drop at s) (omega (arith, length-drop at s))

pub from-length : (size : ℕ) (s : List ℕ) (at n : ℕ) → length (edges_from size s at n) ≡ n
unfolding edges_from
from-length size s at zero = refl
from-length size s at (suc n) = ap suc (from-length size s (at + size) n)

-- each edge has the size
abbrev pub Sized : ℕ → List Edge → Type 0
Sized size es = (x : Edge) → Member x es → length x ≡ size

-- ---- edges read back from their bytes
front : (size : ℕ) (p x t : List ℕ) → length x ≡ size → edge_bytes size (p ++ (x ++ t)) (length p) ≡ x
unfolding edge_bytes
front size p x t h = ap (take size) (drop_at p (x ++ t) (length p) refl) ∙ take_at x t size h

behind : (size : ℕ) (p : List ℕ) (es : List Edge) (rest : List ℕ) → Sized size es
    → edges_from size (p ++ (joined es ++ rest)) (length p) (length es) ≡ es
unfolding edges_from joined
behind size p [] rest z = refl
behind size p (x ∷ es) rest z =
    let h : length x ≡ size = z x (inl refl) in
    let e : p ++ ((x ++ joined es) ++ rest) ≡ p ++ (x ++ (joined es ++ rest)) = ap (λ (l : List ℕ). p ++ l) (append_assoc x (joined es) rest) in
    let g : p ++ ((x ++ joined es) ++ rest) ≡ (p ++ x) ++ (joined es ++ rest) = e ∙ sym (append_assoc p x (joined es ++ rest)) in
    let m : length p + size ≡ length (p ++ x) = omega (arith, length-append p x) in
    λ i. (ap (λ (l : List ℕ). edge_bytes size l (length p)) e ∙ front size p x (joined es ++ rest) h) i
    ∷ (ap (λ (l : List ℕ). edges_from size l (length p + size) (length es)) g
    ∙ ap (λ (k : ℕ). edges_from size ((p ++ x) ++ (joined es ++ rest)) k (length es)) m
    ∙ behind size (p ++ x) es rest (λ y k. z y (inr k))) i

pub read_back : (size : ℕ) (es : List Edge) (rest : List ℕ) → Sized size es → first_edges size (joined es ++ rest) (length es) ≡ es
read_back size es rest z = behind size [] es rest z

-- ---- the edges of a list of bytes
pub from_sized : (size : ℕ) (s : List ℕ) (at n : ℕ) → at + n * size ≤ length s → Sized size (edges_from size s at n)
unfolding edges_from
from_sized size s at zero h x m = absurd m
from_sized size s at (suc n) h x (inl e) = ap length e ∙ edge-length size s at (omega (arith, suc-mul n size))
from_sized size s at (suc n) h x (inr m) = from_sized size s (at + size) n (omega (arith, suc-mul n size)) x m

pub from-joined : (size : ℕ) (s : List ℕ) (at n : ℕ) → joined (edges_from size s at n) ≡ take (n * size) (drop at s)
unfolding edges_from joined edge_bytes
from-joined size s at zero = let e : 0 * size ≡ 0 = omega arith in rw e refl
from-joined size s at (suc n) =
    let e : suc n * size ≡ size + n * size = omega (arith, suc-mul n size) in
    ap (λ (l : List ℕ). take size (drop at s) ++ l) (from-joined size s (at + size) n ∙ ap (take (n * size)) (sym (drop-drop size at s)))
    ∙ sym (ap (λ (k : ℕ). take k (drop at s)) e ∙ take-add size (n * size) (drop at s))

-- ---- a part of the bytes
pub from-drop : (size : ℕ) (s : List ℕ) (at k n : ℕ) → edges_from size s (at + k) n ≡ edges_from size (drop at s) k n
unfolding edges_from edge_bytes
from-drop size s at k zero = refl
from-drop size s at k (suc n) =
    let e : at + k + size ≡ at + (k + size) = omega arith in
    λ i. sym (ap (take size) (drop-drop k at s)) i ∷ (ap (λ (m : ℕ). edges_from size s m n) e ∙ from-drop size s at (k + size) n) i

pub joined_length : (size : ℕ) (es : List Edge) → Sized size es → length (joined es) ≡ length es * size
unfolding joined
joined_length size [] z = omega arith
joined_length size (x ∷ es) z =
    let k = joined_length size es (λ y m. z y (inr m)) in
    omega (arith, length-append x (joined es), z x (inl refl), suc-mul (length es) size)

-- edge i of them
pub from_at : (size : ℕ) (s : List ℕ) (at n i : ℕ) → i < n → get_or (edges_from size s at n) i [] ≡ edge_bytes size s (at + i * size)
unfolding edges_from
from_at size s at zero i h = absurd (not-suc-le-zero h)
from_at size s at (suc n) zero h = let e : at ≡ at + 0 * size = omega arith in ap (edge_bytes size s) e
from_at size s at (suc n) (suc i) h =
    let e : at + size + i * size ≡ at + suc i * size = omega (arith, suc-mul i size) in
    from_at size s (at + size) n i (le_of_suc-le-suc h) ∙ ap (edge_bytes size s) e
