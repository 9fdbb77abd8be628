-- The listed edges written one after another.
-- Assumes nothing.
use Prim.Native.Nat.{ℕ, suc, ◌+◌, ◌*◌, ◌<◌, ◌≤◌}
use mathlib.Core.List.{List, [], ◌∷◌, ◌++◌, map-append, append_assoc, append-nil}
use mathlib.Core.Logic.{inl, inr}
use mathlib.Core.Path.{◌≡◌, sym, ap, ◌∙◌}
use lib.ListN.{length, get_or, take, length-map, take-append-drop}
use lib.Seq.{take-suc, length-take-le}
use native.Mathlib.Nat.{suc-mul, mul-le-mul_right, add-zero}
use native.Mathlib.Numerals.{add-one}
use native.Mathlib.Omega.{arith}
use Rattle.std.specs.List.{All}
use Rattle.std.proofs.lemmas.List.Elements.{All-head, All-tail, All-take}
use Rattle.encoding.specs.Placing.{placed}
use Rattle.encoding.proofs.Placed.{goes_on}
use Rattle.order.specs.Edges.{Edge}
use Rattle.order.specs.Laid.{nth_edge, numbered, joined}
use Rattle.order.proofs.Laid.{Sized, edge-length, joined_length}
use Rattle.canonical.specs.Numbers.{listed_bytes}

-- ---- none yet
pub placed_none : (at : ℕ) (s : List ℕ) → s ≡ placed at (joined []) s
unfolding placed joined
placed_none at s = rw (add-zero at) (sym (take-append-drop at s))

-- ---- one more
lies : (i n size m : ℕ) → i < n → n * size ≤ m → i * size + size ≤ m
lies i n size m h g = let k : suc i ≤ n = omega arith in omega (arith, suc-mul i size, mul-le-mul_right size k)

joined_snoc : (es : List Edge) (x : Edge) → joined (es ++ (x ∷ [])) ≡ joined es ++ x
unfolding joined
joined_snoc [] x = append-nil x
joined_snoc (y ∷ es) x = ap (λ (l : List ℕ). y ++ l) (joined_snoc es x) ∙ sym (append_assoc y (joined es) x)

module _ (size : ℕ) (s : List ℕ) (n : ℕ) (w : n * size ≤ length s) where
  numbered_sized : (l : List ℕ) → All (λ (i : ℕ). i < n) l → Sized size (numbered size s l)
  numbered_sized [] h x m = absurd m
  numbered_sized (i ∷ l) h x (inl e) = ap length e ∙ edge-length size s (i * size) (lies i n size (length s) (All-head (λ (k : ℕ). k < n) i l h) w)
  numbered_sized (i ∷ l) h x (inr m) = numbered_sized l (All-tail (λ (k : ℕ). k < n) i l h) x m

  module _ (ns : List ℕ) (h : All (λ (i : ℕ). i < n) ns) where
    written-length : (i : ℕ) → i ≤ length ns → length (listed_bytes size s (take i ns)) ≡ i * size
    written-length i g =
        joined_length size (numbered size s (take i ns)) (numbered_sized (take i ns) (All-take (λ (k : ℕ). k < n) i ns h))
        ∙ ap (λ (m : ℕ). m * size) (length-map (take i ns) (nth_edge size s) ∙ length-take-le i ns g)

    one_more : (i : ℕ) → i < length ns → listed_bytes size s (take (i + 1) ns) ≡ listed_bytes size s (take i ns) ++ nth_edge size s (get_or ns i 0)
    one_more i k =
        ap (listed_bytes size s) (ap (λ (j : ℕ). take j ns) (add-one i) ∙ take-suc ns i 0 k)
        ∙ ap joined (map-append (nth_edge size s) (take i ns) (get_or ns i 0 ∷ []))
        ∙ joined_snoc (numbered size s (take i ns)) (nth_edge size s (get_or ns i 0))

    pub write_turn : (form : List ℕ) (at i : ℕ) {edge old new : List ℕ} → at ≤ length form → i < length ns
        → old ≡ placed at (listed_bytes size s (take i ns)) form → edge ≡ nth_edge size s (get_or ns i 0) → new ≡ placed (at + i * size) edge old
        → new ≡ placed at (listed_bytes size s (take (i + 1) ns)) form
    write_turn form at i r g q e f =
        goes_on form (listed_bytes size s (take i ns)) (nth_edge size s (get_or ns i 0)) at (at + i * size) r
        (omega (arith, written-length i (omega arith))) q e f
        ∙ ap (λ (l : List ℕ). placed at l form) (sym (one_more i g))
