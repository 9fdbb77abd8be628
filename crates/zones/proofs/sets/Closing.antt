-- A reduced zone: empty, or closed at every error below the running fraction.
-- Assumes nothing.
use Rattle.zones.proofs.reductions.Progress.{seen_empty}
use Rattle.zones.proofs.reductions.Progress.{seen_safe}
use Rattle.zones.specs.Reductions.{is_empty}
use Rattle.zones.specs.Reductions.{safe_of}
use Prim.Native.Nat.{ℕ, zero, suc, ◌<◌, ◌≤◌}
use mathlib.Core.Path.{◌≡◌, refl, sym, ap, ◌∙◌, subst}
use mathlib.Core.Bool.{Bool, true, false, cond}
use mathlib.Core.Logic.{inl, inr, ⊎_elim}
use lib.ListN.{length}
use lib.IntN.{pos}
use lib.Signed.{◌≤ℤ◌, ◌<ℤ◌, lt_z}
use native.Mathlib.Omega.{arith}
use native.Mathlib.Nat.{not-suc-le-zero}
use Rattle.zones.specs.declared.fraction.Fraction.{Fraction}
use Rattle.zones.specs.declared.pair.Choice.{Choice}
use Rattle.zones.specs.declared.zone.Work.{Work}
use Rattle.zones.proofs.pairs.Integers.{int, lt_z_true}
use Rattle.zones.specs.Fractions.{no_limit}
use Rattle.zones.specs.Pairs.{sum_of}
use Rattle.zones.specs.Zones.{entry}
use Rattle.zones.specs.Reductions.{relaxed, row_steps, round_steps, empty_in, empty_below, reduce_steps}
use Rattle.zones.specs.Values.{value_of, Below}
use Rattle.zones.specs.Sets.{In, square_of}
use Rattle.zones.specs.Moves.{Closed, Shaped, Low}
use Rattle.runs.proofs.Contradictions.{true_false}
use Rattle.zones.proofs.sets.Diagonals.{Signs, safe_n, negative_none, signs_below, sign_zero}
use Rattle.zones.proofs.sets.Lowering.{lower_limits, falls_in}
use Rattle.zones.proofs.pairs.Order.{smaller_or}
use Rattle.zones.proofs.reductions.Progress.{after_cases, live_safe, Alive, zero_alive, along}
use Rattle.zones.proofs.reductions.Rounds.{chosen, row_done, row_same, RoundDone, round_done, round_same, still}
use Rattle.zones.proofs.sets.Squares.{up_to, Round, Through, round_through}
use Rattle.zones.proofs.sets.Steps.{row_falls, reduce_size, reduce_falls, reduce_signs, reduce_keeps}
use Rattle.zones.proofs.fractions.Thresholds.{value_sum, value_pos, zero_value, smaller_sound}

-- ---- empty
empty_at : (i : ℕ) (w : Work) → empty_in i w ≡ true → (a : ℕ) × (a < i) × ((entry w a a).m <ℤ pos 0)
unfolding empty_in
empty_at zero w e = true_false (sym e)
empty_at (suc i) w e = go (empty_at i w) (lt_z (entry w i i).m (pos 0)) refl e
  where
    go : (empty_in i w ≡ true → (a : ℕ) × (a < i) × ((entry w a a).m <ℤ pos 0)) → (t : Bool) → lt_z (entry w i i).m (pos 0) ≡ t →
        cond t true (empty_in i w) ≡ true → (a : ℕ) × (a < suc i) × ((entry w a a).m <ℤ pos 0)
    go ih true f g = (i, omega arith, lt_z_true _ _ f)
    go ih false f g = let r = ih g in (r.0, omega (arith, r.1), r.2)

empty_shows : (n : ℕ) (w : Work) (k : ℕ) → is_empty (reduce_steps n k w) ≡ true → empty_in n (reduce_steps n k w).work ≡ true
unfolding reduce_steps
empty_shows n w zero e = true_false (sym e)
empty_shows n w (suc k) e =
    let ih = empty_shows n w k in
    after_cases n k (reduce_steps n k w) (λ r. is_empty r ≡ true → empty_in n r.work ≡ true) (λ f g. ih f) (λ f g. sym (seen_empty n _) ∙ g) e

-- what the safe fraction is lowered by, of a zone that is empty
safe_shows : (n : ℕ) (w : Work) (k : ℕ) → is_empty (reduce_steps n k w) ≡ true →
    safe_of (reduce_steps n k w) ≡ empty_below n (reduce_steps n k w).work
unfolding reduce_steps
safe_shows n w zero e = true_false (sym e)
safe_shows n w (suc k) e =
    let ih = safe_shows n w k in
    after_cases n k (reduce_steps n k w) (λ r. safe_of r ≡ empty_below n r.work) (λ f. ih f) (λ f. seen_safe n _)

-- by cases: it is not empty, or it is
safe_cases : (n : ℕ) (w : Work) (P : Fraction → Type 0) → (is_empty (reduce_steps n n w) ≡ false → P no_limit) →
    (is_empty (reduce_steps n n w) ≡ true → P (empty_below n (reduce_steps n n w).work)) → P (safe_of (reduce_steps n n w))
safe_cases n w P f g = go (is_empty (reduce_steps n n w)) refl
  where
    go : (t : Bool) → is_empty (reduce_steps n n w) ≡ t → P (safe_of (reduce_steps n n w))
    go true e = subst P (sym (safe_shows n w n e)) (g e)
    go false e = subst P (sym (live_safe n n w e)) (f e)

pub reduce_some : (n : ℕ) (w : Work) → 0 < (safe_of (reduce_steps n n w)).n
reduce_some n w = safe_cases n w (λ f. 0 < f.n) (λ e. omega arith) (λ e. safe_n n (reduce_steps n n w).work)

module _ (s e : ℕ) (s> : 0 < s) (n : ℕ) (n≤ : n ≤ 9) where
  pub reduce_none : (w : Work) → length w.zone ≡ 81 → is_empty (reduce_steps n n w) ≡ true → Below s e (safe_of (reduce_steps n n w)) →
      (v : ℕ → ℕ) → In n (square_of s e w) v → ⊥
  reduce_none w size q t v i =
      let a = empty_at n (reduce_steps n n w).work (empty_shows n w n q) in
      negative_none s e s> n (reduce_steps n n w).work a.0 a.1 a.2 (subst (Below s e) (safe_shows n w n q) t) v
      (reduce_keeps s e s> n n≤ w size v i)

  reduce_tight : (w : Work) → length w.zone ≡ 81 → Signs s e s> n w → Below s e (reduce_steps n n w).work.fraction →
      Below s e (safe_of (reduce_steps n n w))
  reduce_tight w size h t = safe_cases n w (Below s e) (λ q. omega (arith, s>))
      (λ q. signs_below s e s> n n (reduce_steps n n w).work (omega arith) (reduce_signs s e s> n n≤ w size h) t)

  -- ---- the thresholds of a round
  limits : (w : Work) (k i j : ℕ) → Below s e (relaxed k i j w).fraction → Below s e w.fraction × Below s e (chosen k i j w).threshold
  unfolding relaxed chosen
  limits w k i j t = lower_limits s e s> w i j (sum_of (entry w i k) (entry w k j)) (t)

  row_low : (w : Work) (k i : ℕ) → k < 9 → i < 9 → pos 0 ≤ℤ (entry w k k).m → length w.zone ≡ 81 → (j : ℕ) → j ≤ 9 →
      Below s e (row_steps k i j w).fraction → (b : ℕ) → b < j → Below s e (chosen k i b w).threshold
  unfolding row_steps chosen
  row_low w k i hk hi d size zero hj t = λ b hb. absurd (not-suc-le-zero hb)
  row_low w k i hk hi d size (suc j) hj t =
      let v = row_steps k i j w in
      let l = limits v k i j t in
      let r = row_done w k i hk hi d size j (omega arith) in
      up_to (λ b. Below s e (chosen k i b w).threshold) j (row_low w k i hk hi d size j (omega arith) l.0)
      (subst (λ (c : Choice). Below s e c.threshold) (row_same w k i hk hi d j hj v r) l.1)

  round_low : (w : Work) (k : ℕ) → k < n → pos 0 ≤ℤ (entry w k k).m → length w.zone ≡ 81 → (i : ℕ) → i ≤ n →
      Below s e (round_steps n k i w).fraction → Below s e w.fraction × ((a : ℕ) → a < i → (b : ℕ) → b < n → Below s e (chosen k a b w).threshold)
  unfolding round_steps chosen
  round_low w k hk d size zero hi t = (t, λ a ha. absurd (not-suc-le-zero ha))
  round_low w k hk d size (suc i) hi t =
      let v = round_steps n k i w in
      let r = round_done w n k n≤ hk d size i (omega arith) in
      let l = round_low w k hk d size i (omega arith) ((row_falls s e s> n n≤ k i hk hi v r.size n (omega arith)).before t) in
      let o = row_low v k i (omega arith) (omega arith) (still w n k n≤ hk d i (omega arith) v r) r.size n n≤ t in (
        l.0,
        up_to (λ a. (b : ℕ) → b < n → Below s e (chosen k a b w).threshold) i l.1
            (λ b hb. subst (λ (c : Choice). Below s e c.threshold) (round_same w n k n≤ hk d i (omega arith) v r b hb) (o b hb)),
      )

  -- ---- a round over the values
  round_values : (w v : Work) (k : ℕ) → k < n → RoundDone n k n w v → ((a : ℕ) → a < n → (b : ℕ) → b < n → Below s e (chosen k a b w).threshold) →
      Round n k (square_of s e w) (square_of s e v)
  unfolding chosen
  round_values w v k hk r t = record {
    left = λ a b ha hb. rw (r.done a b ha hb) (smaller_sound s e (entry w a b) (sum_of (entry w a k) (entry w k b)) (t a ha b hb)).0;
    right =
        λ a b ha hb. rw (r.done a b ha hb)
        (rw (value_sum s e (entry w a k) (entry w k b)) at (smaller_sound s e (entry w a b) (sum_of (entry w a k) (entry w k b)) (t a ha b hb)).1);
    one =
        λ a b ha hb. rw (r.done a b ha hb)
        (⊎_elim (λ q. inl (ap (value_of s e) q)) (λ q. inr (ap (value_of s e) q ∙ value_sum s e (entry w a k) (entry w k b)))
        (smaller_or (entry w a b) (sum_of (entry w a k) (entry w k b))));
  }

  Q : ℕ → Work → Type 0
  Q k v = Below s e v.fraction → Through n k (square_of s e v)

  next : (k : ℕ) (v : Work) → k < n → Alive n v → Alive n (round_steps n k n v) → RoundDone n k n v (round_steps n k n v) → Q k v →
      Q (suc k) (round_steps n k n v)
  unfolding Q
  next k v hk a b d q t =
      let l = round_low v k hk (a.diagonal k hk) a.size n (omega arith) t in
      round_through n k (square_of s e v) (square_of s e (round_steps n k n v)) hk (value_pos s e (entry v k k) (a.diagonal k hk))
      (round_values v (round_steps n k n v) k hk d l.1) (q l.0)

  module _ (w : Work) (start : Alive n w) (live : is_empty (reduce_steps n n w) ≡ false) where
    pub reduce_alive : Alive n (reduce_steps n n w).work
    unfolding Q
    reduce_alive = (along n w n≤ start (λ k v. Work) w (λ k v hk a b d q. v) n (omega arith) live).0

    pub reduce_through : Below s e (reduce_steps n n w).work.fraction → Through n n (square_of s e (reduce_steps n n w).work)
    unfolding Q
    reduce_through = (along n w n≤ start Q (λ t a ha. absurd (not-suc-le-zero ha)) next n (omega arith) live).1

-- ---- the reduction of a zone that is (0, 0) on the diagonal
module _ (s e : ℕ) (s> : 0 < s) (c : ℕ) (n≤ : suc c ≤ 9) (w : Work) (g : Shaped c w) where
  abbrev shut : Work
  shut = (reduce_steps (suc c) (suc c) w).work

  signs : Signs s e s> (suc c) w
  signs a ha = inl (g.diagonal a ha)

  alive : Alive (suc c) w
  alive = zero_alive (suc c) w g.size g.diagonal

  pub reduce_into : (v : ℕ → ℕ) → In (suc c) (square_of s e w) v → In (suc c) (square_of s e (reduce_steps (suc c) (suc c) w).work) v
  reduce_into = reduce_keeps s e s> (suc c) n≤ w g.size

  pub reduce_from : Below s e (reduce_steps (suc c) (suc c) w).work.fraction → (v : ℕ → ℕ) →
      In (suc c) (square_of s e (reduce_steps (suc c) (suc c) w).work) v → In (suc c) (square_of s e w) v
  reduce_from t v = falls_in s e s> (suc c) w shut v (reduce_falls s e s> (suc c) n≤ w g.size) t

  pub reduce_before : Below s e (reduce_steps (suc c) (suc c) w).work.fraction → Below s e w.fraction
  reduce_before = (reduce_falls s e s> (suc c) n≤ w g.size).before

  -- what is below the running fraction is below what the safe one is lowered by
  pub reduce_tighter : Below s e (reduce_steps (suc c) (suc c) w).work.fraction → Below s e (safe_of (reduce_steps (suc c) (suc c) w))
  reduce_tighter = reduce_tight s e s> (suc c) n≤ w g.size signs

  -- below that, a zone with a valuation is not declared empty
  pub reduce_live : Below s e (safe_of (reduce_steps (suc c) (suc c) w)) → (v : ℕ → ℕ) → In (suc c) (square_of s e w) v →
      is_empty (reduce_steps (suc c) (suc c) w) ≡ false
  reduce_live t v i = go (is_empty (reduce_steps (suc c) (suc c) w)) refl
    where
      go : (b : Bool) → is_empty (reduce_steps (suc c) (suc c) w) ≡ b → is_empty (reduce_steps (suc c) (suc c) w) ≡ false
      go true q = absurd (reduce_none s e s> (suc c) n≤ w g.size q t v i)
      go false q = q

  module _ (live : is_empty (reduce_steps (suc c) (suc c) w) ≡ false) where
    pub reduce_shaped : Shaped c (reduce_steps (suc c) (suc c) w).work
    reduce_shaped = record {
      size = reduce_size s e s> (suc c) n≤ w g.size;
      diagonal =
          λ a ha. sign_zero s e s> shut.fraction (entry shut a a) (reduce_signs s e s> (suc c) n≤ w g.size signs a ha)
          ((reduce_alive s e s> (suc c) n≤ w alive live).diagonal a ha);
    }

    pub reduce_closed : Below s e (reduce_steps (suc c) (suc c) w).work.fraction → Low (suc c) (square_of s e w) →
        Closed (suc c) (square_of s e (reduce_steps (suc c) (suc c) w).work)
    reduce_closed t l = record {
      diagonal = λ a ha. ap (value_of s e) (reduce_shaped.diagonal a ha) ∙ zero_value s e;
      triangle = λ a b k ha hb hk. reduce_through s e s> (suc c) n≤ w alive live t k hk a b ha hb;
      low = λ a ha. let x = (reduce_falls s e s> (suc c) n≤ w g.size).values t 0 a (omega arith) ha in let y = l a ha in omega (arith, int);
    }
