-- The running fraction alone: what each comparison does to it, every operation does, whatever the square.
-- Assumes nothing.
use Rattle.zones.specs.Reductions.{is_empty}
use Prim.Native.Nat.{ℕ, zero, suc, ◌<◌}
use mathlib.Core.Path.{◌≡◌, refl, sym, subst}
use mathlib.Core.Bool.{Bool, true, false}
use Rattle.zones.specs.declared.fraction.Fraction.{Fraction}
use Rattle.zones.specs.declared.pair.Pair.{Pair}
use Rattle.zones.specs.declared.reduction.Reduced.{Reduced}
use Rattle.zones.specs.declared.zone.Work.{Work}
use Rattle.zones.specs.Fractions.{lowered_by}
use Rattle.zones.specs.Pairs.{at_most, at_least, sum_of, smaller_of}
use Rattle.runs.specs.Limits.{Limits}
use Rattle.zones.specs.Zones.{entry, lower_at, meet_upper, meet_clock, meet_limits, raise_limits, reset_of}
use Rattle.zones.specs.Reductions.{relaxed, row_steps, round_steps, after_middle, reduce_steps, reduce_of}
use Rattle.zones.specs.Successors.{and_then, meet_of, enter_of, follow_of}
use Rattle.zones.specs.Values.{Below}
use Rattle.zones.proofs.places.Limits.{raise_fraction}
use Rattle.zones.proofs.sets.Moving.{then_empty, then_live}
use Rattle.zones.proofs.reductions.Progress.{after_cases}
use Rattle.zones.proofs.fractions.Thresholds.{lowered_before, lowered_n, choice_n}

-- R f g: g comes after f
module _ (R : Fraction → Fraction → Type 0) (same : (f : Fraction) → R f f) (trans : (f g h : Fraction) → R f g → R g h → R f h)
    (step : (f : Fraction) (x y : Pair) → R f (lowered_by f (smaller_of x y).threshold)) where
  lower : (i j : ℕ) (q : Pair) (w : Work) → R w.fraction (lower_at i j q w).fraction
  unfolding lower_at
  lower i j q w = step w.fraction (entry w i j) q

  row : (k i j : ℕ) (w : Work) → R w.fraction (row_steps k i j w).fraction
  unfolding row_steps relaxed
  row k i zero w = same w.fraction
  row k i (suc j) w =
      let v = row_steps k i j w in
      trans w.fraction v.fraction _ (row k i j w) (lower i j (sum_of (entry v i k) (entry v k j)) v)

  round : (n k i : ℕ) (w : Work) → R w.fraction (round_steps n k i w).fraction
  unfolding round_steps
  round n k zero w = same w.fraction
  round n k (suc i) w = trans w.fraction (round_steps n k i w).fraction _ (round n k i w) (row k i n (round_steps n k i w))

  middle : (n k : ℕ) (r : Reduced) → R r.work.fraction (after_middle n k r).work.fraction
  middle n k r = after_cases n k r (λ x. R r.work.fraction x.work.fraction) (λ e. same r.work.fraction) (λ e. round n k n r.work)

  steps : (n k : ℕ) (w : Work) → R w.fraction (reduce_steps n k w).work.fraction
  unfolding reduce_steps
  steps n zero w = same w.fraction
  steps n (suc k) w = trans w.fraction (reduce_steps n k w).work.fraction _ (steps n k w) (middle n k (reduce_steps n k w))

  upper : (x hi : ℕ) (absent : Bool) (w : Work) → R w.fraction (meet_upper x hi absent w).fraction
  unfolding meet_upper
  upper x hi true w = same w.fraction
  upper x hi false w = lower x 0 (at_most hi) w

  limits : (L : Limits) (c : ℕ) (w : Work) → R w.fraction (meet_limits L c w).fraction
  unfolding meet_limits meet_clock
  limits L zero w = same w.fraction
  limits L (suc x) w =
      let v = meet_limits L x w in
      let u = meet_upper (suc x) (L.hi (suc x)) (L.absent (suc x)) v in
      trans w.fraction v.fraction _ (limits L x w)
      (trans v.fraction u.fraction _ (upper (suc x) (L.hi (suc x)) (L.absent (suc x)) v) (lower 0 (suc x) (at_least (L.lo (suc x))) u))

  meet : (c : ℕ) (L : Limits) (w : Work) → R w.fraction (meet_of c L w).work.fraction
  unfolding meet_of
  meet c L w = trans w.fraction (meet_limits L c w).fraction _ (limits L c w) (steps (suc c) (suc c) (meet_limits L c w))

  next : (w : Work) (r : Reduced) (f : Work → Reduced) → R w.fraction r.work.fraction → R r.work.fraction (f r.work).work.fraction →
      R w.fraction (and_then r f).work.fraction
  next w r f a b = go (is_empty r) refl
    where
      go : (t : Bool) → is_empty r ≡ t → R w.fraction (and_then r f).work.fraction
      go true e = subst (λ (x : Reduced). R w.fraction x.work.fraction) (sym (then_empty r f e)) a
      go false e = subst (λ (x : Reduced). R w.fraction x.work.fraction) (sym (then_live r f e)) (trans _ _ _ a b)

  pub enter_fraction : (c : ℕ) (I : Limits) (w : Work) → R w.fraction (enter_of c I w).work.fraction
  unfolding enter_of
  enter_fraction c I w =
      let v = (meet_of c I w).work in
      next w (meet_of c I w) (λ v. reduce_of (suc c) (raise_limits I c v)) (meet c I w)
      (subst (λ (f : Fraction). R f (reduce_of (suc c) (raise_limits I c v)).work.fraction) (raise_fraction I c v)
      (steps (suc c) (suc c) (raise_limits I c v)))

  pub follow_fraction : (c : ℕ) (G : Limits) (S : ℕ → Bool) (I : Limits) (w : Work) → R w.fraction (follow_of c G S I w).work.fraction
  unfolding follow_of reset_of
  follow_fraction c G S I w =
      next w (meet_of c G w) (λ v. enter_of c I (reset_of (suc c) S v)) (meet c G w) (enter_fraction c I (reset_of (suc c) S (meet_of c G w).work))

-- ---- it only falls, and its numerator stays at least 1
module _ (s e : ℕ) (s> : 0 < s) where
  abbrev Later : Fraction → Fraction → Type 0
  Later f g = Below s e g → Below s e f

  pub enter_before : (c : ℕ) (I : Limits) (w : Work) → Below s e (enter_of c I w).work.fraction → Below s e w.fraction
  enter_before = enter_fraction Later (λ f b. b) (λ f g h p q b. p (q b)) (λ f x y. lowered_before s e f (smaller_of x y).threshold s>)

  pub follow_before : (c : ℕ) (G : Limits) (S : ℕ → Bool) (I : Limits) (w : Work) → Below s e (follow_of c G S I w).work.fraction →
      Below s e w.fraction
  follow_before = follow_fraction Later (λ f b. b) (λ f g h p q b. p (q b)) (λ f x y. lowered_before s e f (smaller_of x y).threshold s>)

abbrev Proper : Fraction → Fraction → Type 0
Proper f g = 0 < f.n → 0 < g.n

pub enter_proper : (c : ℕ) (I : Limits) (w : Work) → 0 < w.fraction.n → 0 < (enter_of c I w).work.fraction.n
enter_proper = enter_fraction Proper (λ f b. b) (λ f g h p q b. q (p b)) (λ f x y p. lowered_n f (smaller_of x y).threshold p (choice_n x y))

pub follow_proper : (c : ℕ) (G : Limits) (S : ℕ → Bool) (I : Limits) (w : Work) → 0 < w.fraction.n → 0 < (follow_of c G S I w).work.fraction.n
follow_proper = follow_fraction Proper (λ f b. b) (λ f g h p q b. q (p b)) (λ f x y p. lowered_n f (smaller_of x y).threshold p (choice_n x y))
