-- Edges rise just where each that is not the first is more than the one before it.
-- Assumes nothing.
use Prim.Native.Nat.{ℕ, zero, suc, ◌+◌, ◌-◌, ◌*◌, ◌<◌}
use mathlib.Core.Bool.{Bool, true, false, cond, ◌&&◌}
use mathlib.Core.List.{List, ◌∷◌}
use mathlib.Core.Path.{◌≡◌, refl, sym, ap, ◌∙◌}
use native.Mathlib.Nat.{suc-mul}
use native.Mathlib.Numerals.{add-one}
use native.Mathlib.Omega.{arith}
use Rattle.std.specs.List.{list_all, range_with_len}
use Rattle.order.specs.Edges.{bytes_less, rising}
use Rattle.order.specs.Laid.{edge_bytes, nth_edge, edges_from, first_edges}

-- ---- the edges from `at` on, of which n are left: the first is held against the second
module _ (size : ℕ) (s : List ℕ) (at n : ℕ) (h : 1 < n) where
  two_edges : edges_from size s at n ≡ edge_bytes size s at ∷ edge_bytes size s (at + size) ∷ edges_from size s (at + size + size) (n - 1 - 1)
  unfolding edges_from
  two_edges = let e : n ≡ suc (suc (n - 1 - 1)) = omega arith in ap (edges_from size s at) e

  rest-edges : edges_from size s (at + size) (n - 1) ≡ edge_bytes size s (at + size) ∷ edges_from size s (at + size + size) (n - 1 - 1)
  unfolding edges_from
  rest-edges = let e : n - 1 ≡ suc (n - 1 - 1) = omega arith in ap (edges_from size s (at + size)) e

  module _ {t : Bool} (e : t ≡ bytes_less (edge_bytes size s at) (edge_bytes size s (at + size))) where
    pub not_rising : t ≡ false → rising (edges_from size s at n) ≡ false
    unfolding rising
    not_rising f = rw (two_edges, sym e ∙ f)

    pub rising_next : t ≡ true → rising (edges_from size s at n) ≡ rising (edges_from size s (at + size) (n - 1))
    unfolding rising
    rising_next f = rw (two_edges, rest-edges, sym e ∙ f)

-- ---- all of them
both : (a b : Bool) → (a && b) ≡ cond a b false
both true b = refl
both false b = refl

module _ (size : ℕ) (s : List ℕ) where
  abbrev pub more : ℕ → Bool
  more i = bytes_less (nth_edge size s (i - 1)) (nth_edge size s i)

  held : (k : ℕ) → more (suc k) ≡ bytes_less (nth_edge size s k) (edge_bytes size s (k * size + size))
  held k = let e : suc k - 1 ≡ k = omega arith in (λ i. bytes_less (nth_edge size s (e i)) (edge_bytes size s (suc-mul k size i)))

  from_edge : (k n : ℕ) → list_all more (range_with_len (suc k) n) ≡ rising (edges_from size s (k * size) (suc n))
  unfolding rising edges_from
  from_edge k zero = refl
  from_edge k (suc n) =
      let rest : list_all more (range_with_len (suc k + 1) n) ≡ rising (edges_from size s (k * size + size) (suc n)) =
      ap (λ (j : ℕ). list_all more (range_with_len j n)) (add-one (suc k)) ∙ from_edge (suc k) n
      ∙ ap (λ (j : ℕ). rising (edges_from size s j (suc n))) (suc-mul k size)
      in
      both (more (suc k)) (list_all more (range_with_len (suc k + 1) n)) ∙ (λ i. cond (held k i) (rest i) false)

  pub all_more : (n : ℕ) → list_all more (range_with_len 1 (n - 1)) ≡ rising (first_edges size s n)
  unfolding rising edges_from
  all_more zero = refl
  all_more (suc n) =
      let left : suc n - 1 ≡ n = omega arith in
      let at : 0 * size ≡ 0 = omega arith in
      ap (λ (j : ℕ). list_all more (range_with_len 1 j)) left ∙ from_edge 0 n ∙ ap (λ (j : ℕ). rising (edges_from size s j (suc n))) at
