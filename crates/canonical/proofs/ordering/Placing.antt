-- Where an edge belongs, by halving: what stands before lo is less, what stands at hi is not. It needs no order of those between.
-- Assumes nothing.
use Prim.Native.Nat.{ℕ, ◌-◌, ◌<◌, ◌≤◌}
use mathlib.Core.Bool.{Bool, true, false, true≢false}
use mathlib.Core.List.{List}
use mathlib.Core.Path.{◌≡◌, refl, sym, ◌∙◌, subst}
use lib.ListN.{length, get_or}
use native.Mathlib.Omega.{arith}
use Rattle.std.specs.Prelude.{Some, None}
use Rattle.encoding.specs.Bytes.{same_bytes}
use Rattle.encoding.proofs.Equality.{one_list}
use Rattle.order.specs.Edges.{Edge, bytes_less}
use Rattle.order.specs.Laid.{nth_edge}
use Rattle.order.proofs.Order.{irreflexive, neither}
use Rattle.canonical.specs.Numbers.{Belongs, Found}

pub record Between (size : ℕ) (s : List ℕ) (ns : List ℕ) (count : ℕ) (x : ℕ) (lo hi : ℕ) : Type 0 where
  pub apart : lo ≤ hi
  pub inside : hi < count
  pub before : 0 < lo → bytes_less (nth_edge size s (get_or ns (lo - 1) 0)) (nth_edge size s x) ≡ true
  pub behind : bytes_less (nth_edge size s (get_or ns hi 0)) (nth_edge size s x) ≡ false

-- ---- the same bytes are not less; other bytes, where they are not less, are more
same_not_less : (x y : Edge) → same_bytes x y ≡ true → bytes_less x y ≡ false
same_not_less x y e = subst (λ (z : Edge). bytes_less x z ≡ false) ((one_list x y).0 e) (irreflexive x)

differ_less : (x y : Edge) → same_bytes x y ≡ false → bytes_less y x ≡ false → bytes_less x y ≡ true
differ_less x y e h = go (bytes_less x y) refl
  where
    go : (t : Bool) → bytes_less x y ≡ t → bytes_less x y ≡ true
    go true g = g
    go false g = absurd (true≢false (sym ((one_list x y).1 (neither x y g h)) ∙ e))

module _ (size : ℕ) (s : List ℕ) (ns : List ℕ) (x : ℕ) where
  abbrev at : ℕ → Edge
  at k = nth_edge size s (get_or ns k 0)

  module _ (lo hi : ℕ) (b : Between size s ns (length ns) x lo hi) (h : hi ≤ lo) {t : Bool} (e : t ≡ same_bytes (nth_edge size s x) (at lo)) where
    found : Belongs size s ns (length ns) x lo
    found =
        let same : hi ≡ lo = omega (arith, b.apart) in
        let here = subst (λ (k : ℕ). bytes_less (at k) (nth_edge size s x) ≡ false) same b.behind in
        record { inside = omega (arith, b.inside); before = b.before; behind = λ g. here }

    -- its bytes are new where other bytes stand: as they are not less than x, x is less
    pub place_new : t ≡ false → Found size s ns x (Some lo)
    place_new n = record {
      belongs = found;
      fresh = λ f g. differ_less _ _ (sym e ∙ n) (found.behind g);
      there = λ f. absurd (true≢false f);
    }

    pub place_none : t ≡ true → Found size s ns x None
    place_none n = (
      lo,
      record {
        belongs = found;
        fresh = λ f. absurd (true≢false (sym f));
        there = λ f. (omega (arith, b.apart, b.inside), same_not_less _ _ (sym e ∙ n));
      },
    )
