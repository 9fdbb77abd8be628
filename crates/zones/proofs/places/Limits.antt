-- Meeting a clock's limits on its two entries is meeting them on the square.
-- Assumes nothing.
use Prim.Native.Nat.{ℕ, zero, suc, ◌+◌, ◌-◌, ◌*◌, ◌<◌}
use mathlib.Core.Path.{◌≡◌, refl, sym, ap, ◌∙◌}
use mathlib.Core.Bool.{Bool, true, false, cond}
use mathlib.Core.List.{List}
use Rattle.std.specs.Prelude.{Option, None, Some}
use lib.ListN.{length, get_or, set}
use lib.Seq.{set-get_or}
use native.Mathlib.Omega.{arith}
use native.Mathlib.Nat.{not-suc-le-zero}
use Rattle.zones.specs.declared.fraction.Fraction.{Fraction}
use Rattle.zones.specs.declared.pair.Pair.{Pair}
use Rattle.zones.specs.declared.pair.Choice.{Choice}
use Rattle.zones.specs.declared.zone.Bounds.{Bounds}
use Rattle.zones.specs.declared.zone.Work.{Work}
use Rattle.zones.specs.Fractions.{lowered_by}
use Rattle.zones.specs.Pairs.{zero_pair, at_most, at_least, is_less, smaller_of}
use Rattle.runs.proofs.Contradictions.{true_false}
use Rattle.zones.proofs.pairs.Choices.{smaller_same}
use Rattle.zones.proofs.places.Places.{lower_off}
use Rattle.runs.specs.Limits.{Limits}
use Rattle.zones.specs.Zones.{pair_at, entry, lower_at, meet_limits, raise_limits, meet_upper, meet_clock}
use Rattle.zones.specs.Zones.{upper_met, upper_met_if, lower_met, bounds_met, upper_of}
use Rattle.zones.specs.Zones.{bounds_below}

-- ---- as the code makes them
pub upper_met_lem : (hi : ℕ) (b : Bounds) {q : Pair} {c : Choice} {f : Fraction} → q ≡ at_most hi → c ≡ smaller_of b.upper q →
    f ≡ lowered_by b.fraction c.threshold →
    record { upper = c.pair; lower = b.lower; fraction = f } ≡ upper_met hi b
unfolding upper_met
upper_met_lem hi b e g h =
    let e' = g ∙ ap (smaller_of b.upper) e in
    let h' = h ∙ ap (λ (c : Choice). lowered_by b.fraction c.threshold) e' in
    λ i. record { upper = (e' i).pair; lower = b.lower; fraction = h' i }

pub lower_met_lem : (lo : ℕ) (b : Bounds) {q : Pair} {c : Choice} {f : Fraction} → q ≡ at_least lo → c ≡ smaller_of b.lower q →
    f ≡ lowered_by b.fraction c.threshold →
    record { upper = b.upper; lower = c.pair; fraction = f } ≡ lower_met lo b
unfolding lower_met
lower_met_lem lo b e g h =
    let e' = g ∙ ap (smaller_of b.lower) e in
    let h' = h ∙ ap (λ (c : Choice). lowered_by b.fraction c.threshold) e' in
    λ i. record { upper = b.upper; lower = (e' i).pair; fraction = h' i }

-- ---- limits that lower neither entry leave both as they are
pub below_lower : (a b : Bounds) → is_less a.upper b.upper ≡ false → is_less a.lower b.lower ≡ bounds_below a b
unfolding bounds_below
below_lower a b e = rw e

not_below : (a b : Bounds) → bounds_below a b ≡ false → (is_less a.upper b.upper ≡ false) × (is_less a.lower b.lower ≡ false)
unfolding bounds_below
not_below a b h = go (is_less a.upper b.upper) refl h
  where
    go : (t : Bool) → is_less a.upper b.upper ≡ t → cond t true (is_less a.lower b.lower) ≡ false →
        (is_less a.upper b.upper ≡ false) × (is_less a.lower b.lower ≡ false)
    go true e g = true_false g
    go false e g = (e, g)

pub met_unlowered : (lo : ℕ) (hi : Option ℕ) (b : Bounds) → bounds_below (bounds_met lo hi b) b ≡ false →
    ((bounds_met lo hi b).upper ≡ b.upper) × ((bounds_met lo hi b).lower ≡ b.lower)
unfolding bounds_met upper_met_if lower_met upper_met
met_unlowered lo None b h = (refl, smaller_same b.lower (at_least lo) (not_below (bounds_met lo None b) b h).1)
met_unlowered lo (Some hi) b h =
    let o = not_below (bounds_met lo (Some hi) b) b h in
    (smaller_same b.upper (at_most hi) o.0, smaller_same b.lower (at_least lo) o.1)

-- ---- on the square: a clock's two entries are set
lower_put : (x lo : ℕ) (u : Work) (b : Bounds) → b.lower ≡ entry u 0 x → b.fraction ≡ u.fraction →
    record { zone = set u.zone x (lower_met lo b).lower; fraction = (lower_met lo b).fraction } ≡ lower_at 0 x (at_least lo) u
unfolding lower_met lower_at
lower_put x lo u b e f =
    let k : x ≡ 0 * 9 + x = omega arith in
    λ i. record {
      zone = set u.zone (k i) (smaller_of (e i) (at_least lo)).pair;
      fraction = lowered_by (f i) (smaller_of (e i) (at_least lo)).threshold;
    }

upper_put : (x hi : ℕ) (w : Work) (b : Bounds) → b.upper ≡ entry w x 0 → b.fraction ≡ w.fraction →
    record { zone = set w.zone (x * 9) (upper_met hi b).upper; fraction = (upper_met hi b).fraction } ≡ lower_at x 0 (at_most hi) w
unfolding upper_met lower_at
upper_put x hi w b e f =
    let k : x * 9 ≡ x * 9 + 0 = omega arith in
    λ i. record {
      zone = set w.zone (k i) (smaller_of (e i) (at_most hi)).pair;
      fraction = lowered_by (f i) (smaller_of (e i) (at_most hi)).threshold;
    }

upper_same : (x : ℕ) (w : Work) → set w.zone (x * 9) (entry w x 0) ≡ w.zone
unfolding pair_at
upper_same x w =
    let k : x * 9 + 0 ≡ x * 9 = omega arith in
    ap (λ (i : ℕ). set w.zone (x * 9) (get_or w.zone i zero_pair)) k ∙ set-get_or w.zone (x * 9) zero_pair

pub clock_met : (x lo hi : ℕ) (absent : Bool) (w : Work) {b : Bounds} → 0 < x → x < 9 → length w.zone ≡ 81 →
    b ≡ bounds_met lo (cond absent None (Some hi)) (record { upper = entry w x 0; lower = entry w 0 x; fraction = w.fraction }) →
    record { zone = set (set w.zone (x * 9) b.upper) x b.lower; fraction = b.fraction } ≡ meet_clock x lo hi absent w
unfolding meet_clock meet_upper bounds_met upper_met_if lower_met upper_met
clock_met x lo hi absent w px hx size e = (λ i. put (e i)) ∙ go absent
  where
    put : Bounds → Work
    put b = record { zone = set (set w.zone (x * 9) b.upper) x b.lower; fraction = b.fraction }

    b₀ : Bounds
    b₀ = record { upper = entry w x 0; lower = entry w 0 x; fraction = w.fraction }

    go : (t : Bool) → put (bounds_met lo (cond t None (Some hi)) b₀) ≡ lower_at 0 x (at_least lo) (cond t w (lower_at x 0 (at_most hi) w))
    go true =
        ap (λ (z : List Pair). record { zone = set z x (lower_met lo b₀).lower; fraction = (lower_met lo b₀).fraction }) (upper_same x w)
        ∙ lower_put x lo w b₀ refl refl
    go false =
        let u = upper_put x hi w b₀ refl refl in
        let k = sym (lower_off w x 0 (at_most hi) size 0 x hx (omega arith) (λ a c. omega arith)) in
        ap (λ (v : Work). record {
          zone = set v.zone x (lower_met lo (upper_met hi b₀)).lower;
          fraction = (lower_met lo (upper_met hi b₀)).fraction;
        }) u
        ∙ lower_put x lo (lower_at x 0 (at_most hi) w) (upper_met hi b₀) k (ap (λ (v : Work). v.fraction) u)

-- one clock more, as the code counts it: the limits of clock x after those of the clocks before it
pub limits_next : (L : Limits) (x : ℕ) (w : Work) {u : Work} → 0 < x → u ≡ meet_clock x (L.lo x) (L.hi x) (L.absent x) (meet_limits L (x - 1) w) →
    u ≡ meet_limits L x w
unfolding meet_limits
limits_next L zero w px e = absurd (not-suc-le-zero px)
limits_next L (suc x) w px e =
    let f : suc x - 1 ≡ x = omega arith in
    e ∙ ap (λ (k : ℕ). meet_clock (suc x) (L.lo (suc x)) (L.hi (suc x)) (L.absent (suc x)) (meet_limits L k w)) f

-- ---- each (clock, 0) put to (hi, 1), as the code counts
pub raise_next : (L : Limits) (x : ℕ) (w : Work) {z : List Pair} {q : Pair} → 0 < x → z ≡ (raise_limits L (x - 1) w).zone → q ≡ at_most (L.hi x) →
    set z (x * 9) q ≡ (raise_limits L x w).zone
unfolding raise_limits
raise_next L zero w px e f = absurd (not-suc-le-zero px)
raise_next L (suc x) w px e f =
    let k : suc x - 1 ≡ x = omega arith in
    let j : suc x * 9 ≡ suc x * 9 + 0 = omega arith in
    let g = e ∙ ap (λ (y : ℕ). (raise_limits L y w).zone) k in
    λ i. set (g i) (j i) (f i)

pub raise_fraction : (L : Limits) (x : ℕ) (w : Work) → (raise_limits L x w).fraction ≡ w.fraction
unfolding raise_limits
raise_fraction L zero w = refl
raise_fraction L (suc x) w = raise_fraction L x w

-- one clock more, and all of them, as a loop counts from clock 1
pub raise_more : (L : Limits) (x : ℕ) (w : Work) {z : List Pair} {q : Pair} → 0 < x → z ≡ (raise_limits L (x - 1) w).zone → q ≡ at_most (L.hi x) →
    set z (x * 9) q ≡ (raise_limits L (x + 1 - 1) w).zone
raise_more L x w h e f = let k : x ≡ x + 1 - 1 = omega arith in raise_next L x w h e f ∙ ap (λ (y : ℕ). (raise_limits L y w).zone) k

pub raise_all : (L : Limits) (n : ℕ) (w : Work) {k : ℕ} {z : List Pair} → k ≡ n → z ≡ (raise_limits L k w).zone →
    record { zone = z; fraction = w.fraction } ≡ raise_limits L n w
raise_all L n w e f =
    let g = f ∙ ap (λ (y : ℕ). (raise_limits L y w).zone) e in
    let h = sym (raise_fraction L n w) in
    λ i. record { zone = g i; fraction = h i }

pub limits_all : (L : Limits) (n : ℕ) (w : Work) {k : ℕ} {u : Work} → k ≡ n → u ≡ meet_limits L k w → u ≡ meet_limits L n w
limits_all L n w e f = f ∙ ap (λ (y : ℕ). meet_limits L y w) e

-- the limits of clock x, met on its two entries after those of the clocks before it
pub limits_more : (L : Limits) (x : ℕ) (w u : Work) {b : Bounds} → 0 < x → x < 9 → length u.zone ≡ 81 → u ≡ meet_limits L (x - 1) w →
    b ≡ bounds_met (L.lo x) (upper_of L x) (record { upper = entry u x 0; lower = entry u 0 x; fraction = u.fraction }) →
    record { zone = set (set u.zone (x * 9) b.upper) x b.lower; fraction = b.fraction } ≡ meet_limits L (x + 1 - 1) w
limits_more L x w u px hx size e f =
    let k : x ≡ x + 1 - 1 = omega arith in
    limits_next L x w px (clock_met x (L.lo x) (L.hi x) (L.absent x) u px hx size f ∙ ap (meet_clock x (L.lo x) (L.hi x) (L.absent x)) e)
    ∙ ap (λ (y : ℕ). meet_limits L y w) k
