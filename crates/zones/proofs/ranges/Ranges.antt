-- No sum of a reduction overflows, and every threshold is within N and D: with the bounds C, P at its beginning as parameters.
-- Assumes nothing.
use Rattle.zones.proofs.reductions.Progress.{seen_safe}
use Rattle.zones.specs.Reductions.{is_empty}
use Rattle.zones.specs.Reductions.{safe_of}
use Rattle.zones.specs.Reductions.{non_empty}
use Prim.Native.Nat.{ℕ, zero, suc, ◌+◌, ◌<◌, ◌≤◌}
use mathlib.Core.Path.{◌≡◌, refl, sym, ap, ◌∙◌, subst}
use mathlib.Core.Bool.{Bool, true, false, cond}
use mathlib.Core.Logic.{⊎_elim}
use lib.ListN.{length}
use lib.IntN.{pos, neg_ℤ}
use lib.Signed.{◌≤ℤ◌, lt_z}
use native.Mathlib.Omega.{arith}
use Rattle.zones.specs.declared.fraction.Fraction.{Fraction}
use Rattle.zones.specs.declared.pair.Pair.{Pair}
use Rattle.zones.specs.declared.reduction.Reduced.{Reduced}
use Rattle.zones.specs.declared.zone.Bounds.{Bounds}
use Rattle.zones.specs.declared.zone.Work.{Work}
use Rattle.zones.specs.Integers.{up, down}
use Rattle.zones.proofs.pairs.Integers.{int, one_side, lt_z_true, abs_law, abs_gap, neg_law}
use Rattle.zones.specs.Fractions.{lowered_by}
use Rattle.zones.specs.Pairs.{zero_pair, at_most, at_least, sum_of, smaller_of, threshold_of}
use Rattle.zones.specs.Zones.{entry, lower_at, upper_met, upper_met_if}
use Rattle.std.specs.Prelude.{Option, None, Some}
use Rattle.zones.specs.Reductions.{relaxed, row_steps, round_steps, empty_below, reduce_steps}
use Rattle.zones.specs.Ranges.{Bounded, Narrow, Small, Fits32, Spread, Suffices, step_counts, last_counts, widest}
use Rattle.zones.specs.Ranges.{Ready, RoundReady, DiagonalReady, LimitsReady, ChoiceReady}
use Rattle.runs.specs.Limits.{scale}
use Rattle.zones.proofs.pairs.Choices.{less_shows, not_less_shows, threshold_cases, smaller_cases, lowered_cases}
use Rattle.zones.proofs.reductions.Rounds.{chosen, RowDone, row_done, reads_at, reads_to, reads_from, RoundDone, round_done}
use Rattle.zones.proofs.reductions.Rounds.{middle, still, row_skip}
use Rattle.zones.proofs.reductions.Progress.{Alive, along, seen_in, after_cases}
use Rattle.zones.proofs.pairs.Order.{sum_p}
use Rattle.zones.proofs.ranges.Size.{sum-up, sum-down, spread_more, reduce_spread}

-- ---- one comparison
pub lowered_narrow : (N D : ℕ) (f g : Fraction) → Narrow N D f → Narrow N D g → Narrow N D (lowered_by f g)
lowered_narrow N D f g h k = lowered_cases f g (Narrow N D) (λ l. k) (λ l. h)

-- the chosen pair a, whose m is not above b's
pub threshold_narrow : (N D : ℕ) (a b : Pair) → 0 < N → a.m ≤ℤ b.m → up b.m + down a.m ≤ N → a.p ≤ D → Narrow N D (threshold_of a b)
threshold_narrow N D a b z l h k =
    threshold_cases a b (Narrow N D)
    (λ t. record { n = omega (arith, abs_gap a.m b.m l); d = omega arith }) (λ t. record { n = z; d = omega arith })

pub smaller_bounded : (C P : ℕ) (a b : Pair) → Bounded C P a → Bounded C P b → Bounded C P (smaller_of a b).pair
smaller_bounded C P a b h k = smaller_cases a b (λ c. Bounded C P c.pair) (λ e. k) (λ e. h)

pub bounded_spread : (C P : ℕ) {a : Pair} → Bounded C P a → Spread C P 1 a
bounded_spread C P {a} h = record { high = omega (arith, h.m, abs_law a.m); deep = omega (arith, h.m, abs_law a.m); p = omega (arith, h.p) }

module _ (N D C P : ℕ) (enough : Suffices N D C P) where
  pub chosen_narrow : (a b : Pair) → Bounded C P a → Bounded C P b → a.m ≤ℤ b.m → Narrow N D (threshold_of a b)
  chosen_narrow a b h k l =
      threshold_narrow N D a b (omega (arith, enough.n, enough.one)) l
      (omega (arith, enough.n, h.m, k.m, abs_law a.m, abs_law b.m)) (omega (arith, enough.d, h.p))

  pub choice_narrow : (a x y : Pair) → Spread C P 9 a → Spread C P 9 x → Spread C P 9 y → Narrow N D (smaller_of a (sum_of x y)).threshold
  choice_narrow a x y h k l =
      let u = sum-up x y in
      let v = sum-down x y in
      let c = sum_p x y in
      smaller_cases a (sum_of x y) (λ c. Narrow N D c.threshold)
      (λ e. threshold_narrow N D (sum_of x y) a (omega (arith, enough.n, enough.one))
      (less_shows (sum_of x y) a e).0 (omega (arith, enough.n)) (omega (arith, enough.d)))
      (λ e. threshold_narrow N D a (sum_of x y) (omega (arith, enough.n, enough.one))
      (not_less_shows a (sum_of x y) e).0 (omega (arith, enough.n)) (omega (arith, enough.d)))

  chosen_spread : (a x y : Pair) → Spread C P 9 a → Spread C P 9 x → Spread C P 9 y → Spread C P 18 (smaller_of a (sum_of x y)).pair
  chosen_spread a x y h k l =
      let v = sum-down x y in
      let c = sum_p x y in
      smaller_cases a (sum_of x y) (λ c. Spread C P 18 c.pair)
      (λ e.
      let m = (less_shows (sum_of x y) a e).0 in
      record {
        high = ⊎_elim (λ z. omega arith) (λ z. omega (arith, int, h.high)) (one_side (sum_of x y).m);
        deep = omega (arith, k.deep, l.deep);
        p = omega (arith, k.p, l.p);
      })
      (λ e. spread_more C P h (omega arith))

  -- two pairs of a square, or a limit
  pub both_narrow : (a b : Pair) → Bounded C P a → Bounded C P b → Narrow N D (smaller_of a b).threshold
  both_narrow a b h k =
      smaller_cases a b (λ c. Narrow N D c.threshold) (λ e. chosen_narrow b a k h (less_shows b a e).0)
      (λ e. chosen_narrow a b h k (not_less_shows a b e).0)

  -- ---- the diagonal after a round
  pub diagonal_narrow : (q : Pair) → Spread C P 18 q → q.m ≤ℤ pos 0 → Narrow N D (threshold_of q zero_pair)
  diagonal_narrow q h l =
      threshold_narrow N D q zero_pair (omega (arith, enough.n, enough.one)) l (omega (arith, enough.n, h.deep)) (omega (arith, enough.d, h.p))

  pub safe_narrow : (i : ℕ) (w : Work) → ((a : ℕ) → a < i → Spread C P 18 (entry w a a)) → Narrow N D (empty_below i w)
  unfolding empty_below
  safe_narrow zero w h = record { n = omega (arith, enough.n, enough.one); d = omega arith }
  safe_narrow (suc i) w h = go (safe_narrow i w (λ a ha. h a (omega arith))) (lt_z (entry w i i).m (pos 0)) refl
    where
      go : Narrow N D (empty_below i w) → (t : Bool) → lt_z (entry w i i).m (pos 0) ≡ t →
          Narrow N D (cond t (lowered_by (empty_below i w) (threshold_of (entry w i i) zero_pair)) (empty_below i w))
      go k true e =
          let l = lt_z_true (entry w i i).m (pos 0) e in
          lowered_narrow N D _ _ k (diagonal_narrow (entry w i i) (h i (omega arith)) (omega (arith, int)))
      go k false e = k

  -- ---- a round: what its steps read is as it was when it began
  module _ (n k : ℕ) (w : Work) (size : length w.zone ≡ 81) (n≤ : n ≤ 9) (k< : k < n) (diagonal : pos 0 ≤ℤ (entry w k k).m)
      (spread : (a b : ℕ) → a < n → b < n → Spread C P 9 (entry w a b)) where
    module _ (i j : ℕ) (i< : i < n) (j< : j < n) where
      abbrev s : Work
      s = row_steps k i j (round_steps n k i w)

      done : RoundDone n k i w (round_steps n k i w)
      done = round_done w n k n≤ k< diagonal size i (omega arith)

      dv : pos 0 ≤ℤ (entry (round_steps n k i w) k k).m
      dv = still w n k n≤ k< diagonal i (omega arith) (round_steps n k i w) done

      row : RowDone k i j (round_steps n k i w) (row_steps k i j (round_steps n k i w))
      row = row_done (round_steps n k i w) k i (omega arith) (omega arith) dv done.size j (omega arith)

      -- the pair there, and the two of the way round
      pub reads : Spread C P 9 (entry (row_steps k i j (round_steps n k i w)) i j)
          × Spread C P 9 (entry (row_steps k i j (round_steps n k i w)) i k) × Spread C P 9 (entry (row_steps k i j (round_steps n k i w)) k j)
      reads =
          let v = round_steps n k i w in
          let rest : (b : ℕ) → b < 9 → entry v i b ≡ entry w i b = λ b hb. done.rest i b hb (λ h g. omega arith) in (
            rw (reads_at v k i (omega arith) (omega arith) dv j (omega arith) s row, rest j (omega arith)) (spread i j i< j<),
            rw (reads_to v k i (omega arith) (omega arith) dv j (omega arith) s row, rest k (omega arith)) (spread i k i< k<),
            rw (reads_from v k i (omega arith) (omega arith) dv j (omega arith) s row, middle w n k n≤ k< diagonal i (omega arith) v done j j<)
                (spread k j k< j<),
          )

      step_narrow : Narrow N D (row_steps k i j (round_steps n k i w)).fraction →
          Narrow N D (relaxed k i j (row_steps k i j (round_steps n k i w))).fraction
      unfolding relaxed lower_at
      step_narrow h = lowered_narrow N D _ _ h (choice_narrow _ _ _ reads.0 reads.1 reads.2)

    row_narrow : (i : ℕ) → i < n → Narrow N D (round_steps n k i w).fraction → (j : ℕ) → j ≤ n →
        Narrow N D (row_steps k i j (round_steps n k i w)).fraction
    unfolding row_steps
    row_narrow i hi h zero hj = h
    row_narrow i hi h (suc j) hj = step_narrow i j hi hj (row_narrow i hi h j (omega arith))

    round_narrow : Narrow N D w.fraction → (i : ℕ) → i ≤ n → Narrow N D (round_steps n k i w).fraction
    unfolding round_steps
    round_narrow h zero hi = h
    round_narrow h (suc i) hi = row_narrow i hi (round_narrow h i (omega arith)) n (omega arith)

    -- every entry after it
    pub after_spread : (a b : ℕ) → a < n → b < n → Spread C P 18 (entry (round_steps n k n w) a b)
    unfolding chosen
    after_spread a b ha hb =
        let d = round_done w n k n≤ k< diagonal size n (omega arith) in
        rw (d.done a b ha hb) (chosen_spread (entry w a b) (entry w a k) (entry w k b) (spread a b ha hb) (spread a k ha k<) (spread k b k< hb))

    -- the running fraction inside the round
    pub inside_narrow : Narrow N D w.fraction → (i j : ℕ) → i < n → j ≤ n → Narrow N D (row_steps k i j (round_steps n k i w)).fraction
    inside_narrow h i j hi hj = row_narrow i hi (round_narrow h i (omega arith)) j hj

    pub whole_narrow : Narrow N D w.fraction → Narrow N D (round_steps n k n w).fraction
    whole_narrow h = round_narrow h n (omega arith)

  -- ---- a whole reduction, where the zone became empty too
  module _ (n : ℕ) (w : Work) (n≤ : n ≤ 9) (start : Alive n w) (bounded : (a b : ℕ) → a < n → b < n → Bounded C P (entry w a b)) where
    alive_at : (k : ℕ) → k ≤ n → is_empty (reduce_steps n k w) ≡ false → Alive n (reduce_steps n k w).work
    alive_at k h e = (along n w n≤ start (λ k v. Unit {0}) tt (λ k v k< a b d q. tt) k h e).0

    pub spread_at : (k : ℕ) → k < n → is_empty (reduce_steps n k w) ≡ false → (a b : ℕ) → a < n → b < n →
        Spread C P 9 (entry (reduce_steps n k w).work a b)
    spread_at k h e a b ha hb =
        let s = reduce_spread C P n w n≤ start (λ i j hi hj. bounded_spread C P (bounded i j hi hj)) k (omega arith) e a b ha hb in
        spread_more C P s (omega arith)

    pub reduce_narrow : Narrow N D w.fraction → (k : ℕ) → k ≤ n → Narrow N D (reduce_steps n k w).work.fraction
    unfolding reduce_steps
    reduce_narrow f zero h = f
    reduce_narrow f (suc k) h =
        let q = reduce_narrow f k (omega arith) in
        after_cases n k (reduce_steps n k w) (λ r. Narrow N D r.work.fraction) (λ e. q)
        (λ e. let a = alive_at k (omega arith) e in whole_narrow n k _ a.size n≤ h (a.diagonal k h) (spread_at k h e) q)

    -- and what the safe fraction is lowered by
    pub reduce_safe : (k : ℕ) → k ≤ n → Narrow N D (safe_of (reduce_steps n k w))
    unfolding reduce_steps
    reduce_safe zero h = record { n = omega (arith, enough.n, enough.one); d = omega arith }
    reduce_safe (suc k) h =
        let q = reduce_safe k (omega arith) in
        let v = round_steps n k n (reduce_steps n k w).work in
        after_cases n k (reduce_steps n k w) (λ r. Narrow N D (safe_of r)) (λ e. q)
        (λ e.
        let a = alive_at k (omega arith) e in
        rw (seen_safe n v) (safe_narrow n v (λ b hb. after_spread n k _ a.size n≤ h (a.diagonal k h) (spread_at k h e) b b hb hb)))

-- ---- what the code asks
pub diagonal_small : {a : Pair} → Spread scale step_counts 18 a → Small a
diagonal_small {a} h = record { m = omega (arith, h.high, h.deep, abs_law a.m); p = omega (arith, h.p) }

pub bounded_small : {a : Pair} → Bounded scale last_counts a → Small a
bounded_small h = record { m = omega (arith, h.m); p = omega (arith, h.p) }

pub spread_small : {a : Pair} → Spread scale step_counts 9 a → Small a
spread_small {a} h = record { m = omega (arith, h.high, h.deep, abs_law a.m); p = omega (arith, h.p) }

pub sum-small : (a b : Pair) → Spread scale step_counts 9 a → Spread scale step_counts 9 b → Small (sum_of a b)
sum-small a b h k = record {
  m = omega (arith, h.high, h.deep, k.high, k.deep, abs_law (sum_of a b).m, sum-up a b, sum-down a b);
  p = omega (arith, h.p, k.p, sum_p a b);
}

pub here : Suffices widest widest scale step_counts
here = record { n = omega arith; d = omega arith; one = omega arith; count = omega arith }

pub last_here : Suffices widest widest scale last_counts
last_here = record { n = omega arith; d = omega arith; one = omega arith; count = omega arith }

-- a pair that was chosen after a step, beside that of a kept zone
pub last_narrow : {a b : Pair} → ChoiceReady a b → Fits32 (threshold_of a b)
last_narrow h = chosen_narrow widest widest scale last_counts last_here _ _ h.chosen h.other h.order

-- a limit on the scale is met
pub most_bounded : (hi : ℕ) → hi ≤ scale → Bounded scale step_counts (at_most hi)
most_bounded hi h = record { m = omega (arith, abs_law (pos hi)); p = omega arith }

pub least_bounded : (lo : ℕ) → lo ≤ scale → Bounded scale step_counts (at_least lo)
least_bounded lo h = record { m = omega (arith, abs_law (neg_ℤ (pos lo)), neg_law (pos lo)); p = omega arith }

pub upper_ready : (b : Bounds) (lo : ℕ) (hi : Option ℕ) → LimitsReady b lo hi → LimitsReady (upper_met_if hi b) lo None
unfolding upper_met_if upper_met
upper_ready b lo None r = r
upper_ready b lo (Some hi) r =
    let q = most_bounded hi r.hi≤ in
    record {
      upper = smaller_bounded scale step_counts b.upper (at_most hi) r.upper q;
      lower = r.lower;
      fraction = lowered_narrow widest widest _ _ r.fraction (both_narrow widest widest scale step_counts here b.upper (at_most hi) r.upper q);
      lo≤ = r.lo≤;
      hi≤ = tt;
    }

-- as the code counts: v is the zone after k middle indices
module _ (n : ℕ) (w : Work) (size : length w.zone ≡ 81) (r : Ready w n) where
  alive : Alive n w
  alive = record { size = size; diagonal = r.diagonal }

  pub round_ready : (k : ℕ) (v : Work) → k < n → reduce_steps n k w ≡ non_empty v → RoundReady v n k
  round_ready k v h e =
      let f = ap is_empty e in
      subst (λ (x : Reduced). RoundReady x.work n k) e (record {
        n≤ = r.n≤;
        k< = h;
        spread = spread_at widest widest scale step_counts here n w r.n≤ alive r.bounded k h f;
        fraction = reduce_narrow widest widest scale step_counts here n w r.n≤ alive r.bounded r.fraction k (omega arith);
        diagonal = (alive_at widest widest scale step_counts here n w r.n≤ alive r.bounded k (omega arith) f).diagonal k h;
      })

-- one turn of a round's inner loop, of the pair there and the two of the way round: what it asks
pub record TurnReady (f : Fraction) (there to from : Pair) : Type 0 where
  pub adds : Small to × Small from
  pub compares : Small there × Small (sum_of to from)
  pub lowers : Fits32 f × Fits32 (smaller_of there (sum_of to from)).threshold

turn_small : {f : Fraction} {a x y : Pair} → Fits32 f → Spread scale step_counts 9 a × Spread scale step_counts 9 x × Spread scale step_counts 9 y →
    TurnReady f a x y
turn_small t h = record {
  adds = (spread_small h.1, spread_small h.2);
  compares = (spread_small h.0, sum-small _ _ h.1 h.2);
  lowers = (t, choice_narrow widest widest scale step_counts here _ _ _ h.0 h.1 h.2);
}

pub turn_ready : (n k : ℕ) (w : Work) → length w.zone ≡ 81 → RoundReady w n k → (i j : ℕ) →
    i < n → j < n → (v s : Work) → v ≡ round_steps n k i w → s ≡ row_steps k i j v →
    TurnReady s.fraction (entry s i j) (entry s i k) (entry s k j)
turn_ready n k w size r i j hi hj v s e g =
    subst (λ (x : Work). TurnReady x.fraction (entry x i j) (entry x i k) (entry x k j)) (sym (g ∙ ap (row_steps k i j) e)) (turn_small
    (inside_narrow widest widest scale step_counts here n k w size r.n≤ r.k< r.diagonal r.spread r.fraction i j hi (omega arith))
    (reads widest widest scale step_counts here n k w size r.n≤ r.k< r.diagonal r.spread i j hi hj))

-- ---- in the reduction of w: what its loops ask, v being the zone after k middle indices
module _ (n : ℕ) (w : Work) (size : length w.zone ≡ 81) (r : Ready w n) (k : ℕ) (v : Work) (k< : k < n)
    (e : reduce_steps n k w ≡ non_empty v) where
  ready : RoundReady v n k
  ready = round_ready n w size r k v k< e

  long : length v.zone ≡ 81
  long = subst (λ (x : Reduced). length x.work.zone ≡ 81) e
      (alive_at widest widest scale step_counts here n w r.n≤
      (record { size = size; diagonal = r.diagonal }) r.bounded k (omega arith) (ap is_empty e)).size

  pub turn_of : (i j : ℕ) → i < n → j < n → (u s : Work) → u ≡ round_steps n k i v → s ≡ row_steps k i j u →
      TurnReady s.fraction (entry s i j) (entry s i k) (entry s k j)
  turn_of = turn_ready n k v long ready

  pub skip_of : {u : Work} (i : ℕ) → i ≡ k → u ≡ round_steps n k i v → u ≡ round_steps n k (i + 1) v
  skip_of i f = row_skip n k i v r.n≤ k< f ready.diagonal long

  -- the diagonal of u, the zone after this round
  diagonal_spread : (u : Work) → u ≡ round_steps n k n v → (a : ℕ) → a < n → Spread scale step_counts 18 (entry u a a)
  diagonal_spread u f a ha =
      rw f (after_spread widest widest scale step_counts here n k v long r.n≤ k< ready.diagonal ready.spread a a ha ha)

  pub diagonal_of : (u : Work) → u ≡ round_steps n k n v → (a : ℕ) → a < n → {s : Option Fraction} → s ≡ seen_in a u → DiagonalReady s (entry u a a)
  diagonal_of u f a ha g = record {
    safe = rw (g, seen_safe a u) (safe_narrow widest widest scale step_counts here a u (λ b hb. diagonal_spread u f b (omega arith)));
    spread = diagonal_spread u f a ha;
  }
