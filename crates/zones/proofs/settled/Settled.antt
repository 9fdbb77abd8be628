-- A comparison that follows from what is known changes nothing: neither the entry nor the running fraction.
-- Assumes nothing.
use Prim.Native.Nat.{ℕ, zero, suc, ◌+◌, ◌-◌, ◌*◌, ◌<◌, ◌≤◌}
use mathlib.Core.Path.{◌≡◌, refl, sym, ap, ◌∙◌, subst}
use mathlib.Core.Bool.{false}
use lib.IntN.{◌-ℤ◌, nat_abs}
use lib.Signed.{◌≤ℤ◌}
use native.Mathlib.Omega.{arith}
use native.Mathlib.Decide.{dec_lt}
use Rattle.zones.specs.declared.fraction.Fraction.{Fraction}
use Rattle.zones.specs.declared.pair.Pair.{Pair}
use Rattle.zones.specs.declared.zone.Work.{Work}
use Rattle.zones.specs.Integers.{up, down}
use Rattle.zones.proofs.pairs.Integers.{int, le_read, eq_read, sum_law, abs_gap}
use Rattle.zones.specs.Fractions.{lowered_by}
use Rattle.zones.specs.Pairs.{sum_of, is_less, threshold_of}
use Rattle.zones.specs.Zones.{entry}
use Rattle.zones.specs.Reductions.{relaxed, row_steps, round_steps, non_empty, after_middle, reduce_steps}
use Rattle.zones.specs.Values.{value_of, Below}
use Rattle.zones.specs.Moves.{Way}
use Rattle.zones.specs.Settled.{Settled}
use Rattle.zones.proofs.pairs.Choices.{not_less_shows, threshold_cases, lowered_old}
use Rattle.zones.proofs.sets.Lowering.{Falls, falls_refl}
use Rattle.zones.proofs.pairs.Order.{◌≼◌, ≼_refl, ≼_trans}
use Rattle.zones.proofs.reductions.Progress.{seen_all, after_round, zero_alive}
use Rattle.zones.proofs.reductions.Rounds.{relaxed_old}
use Rattle.zones.proofs.fractions.Thresholds.{value_law, value_sum}

-- ---- a threshold at or above the running fraction
-- the value of a is not above that of b: so the error is not above the threshold
gap_at : (s e : ℕ) (a b : Pair) (d n : ℕ) → d + b.p ≡ a.p →
    n + (up a.m + down b.m) ≡ up b.m + down a.m → value_of s e a ≤ℤ value_of s e b → e * d ≤ n * s
gap_at s e a b d n g f l = omega (arith, le_read l, value_law s e a, value_law s e b, ap (λ (x : ℕ). x * s) f, ap (λ (x : ℕ). x * e) g)

-- a is at most b in value at every error below n/d: then the threshold t/u of choosing a is not below n/d. Else the error (t + n)/(u + d)
-- would lie strictly between the two
between : (n d t u : ℕ) → ((t + n) * d < n * (u + d) → (t + n) * u ≤ t * (u + d)) → n * u ≤ t * d
between n d t u h = go (dec_lt (t * d) (n * u))
  where
    go : Dec (t * d < n * u) → n * u ≤ t * d
    go (yes l) = omega (arith, h (omega arith))
    go (no l) = omega arith

abbrev pub AtMost : Fraction → Pair → Pair → Type 0
AtMost f a b = (s e : ℕ) → 0 < s → Below s e f → value_of s e a ≤ℤ value_of s e b

pub threshold_late : (f : Fraction) (a b : Pair) → a.m ≤ℤ b.m → AtMost f a b → f.n * (threshold_of a b).d ≤ (threshold_of a b).n * f.d
threshold_late f a b l h = threshold_cases a b (λ g. f.n * g.d ≤ g.n * f.d) late (λ q. omega arith)
  where
    late : b.p < a.p → f.n * (a.p - b.p) ≤ nat_abs (b.m -ℤ a.m) * f.d
    late q =
        let t = nat_abs (b.m -ℤ a.m) in
        let u = a.p - b.p in
        between f.n f.d t u
        (λ r. gap_at (u + f.d) (t + f.n) a b u t (omega arith) (abs_gap a.m b.m l) (h (u + f.d) (t + f.n) (omega arith) r))

-- so it lowers nothing
pub lowered_late : (f : Fraction) (a b : Pair) → a.m ≤ℤ b.m → AtMost f a b → f ≡ lowered_by f (threshold_of a b)
lowered_late f a b l h = lowered_old f (threshold_of a b) (threshold_late f a b l h)

-- ---- a comparison that follows
pub relaxed-follows : (w : Work) (k i j : ℕ) → is_less (sum_of (entry w i k) (entry w k j)) (entry w i j) ≡ false →
    AtMost w.fraction (entry w i j) (sum_of (entry w i k) (entry w k j)) → relaxed k i j w ≡ w
relaxed-follows w k i j l h =
    let x = sum_of (entry w i k) (entry w k j) in
    sym (relaxed_old w k i j x w.fraction refl l (lowered_late w.fraction (entry w i j) x (not_less_shows (entry w i j) x l).0 h))

-- from the triangle rule of the values
pub way_at_most : (s e : ℕ) (x a b : Pair) → Way (value_of s e x) (value_of s e a) (value_of s e b) → value_of s e x ≤ℤ value_of s e (sum_of a b)
way_at_most s e x a b h = omega (arith, int, eq_read (value_sum s e a b), sum_law (value_of s e a) (value_of s e b), h.way)

-- ---- v came from the settled zone w by lowering entries
module _ (n : ℕ) (w : Work) (h : Settled n w) where
  pub record Lowered (v : Work) : Type 0 where
    pub order : (a b : ℕ) → a < n → b < n → entry v a b ≼ entry w a b
    pub falls : (s e : ℕ) (s> : 0 < s) → Falls s e s> n w v

  -- a comparison whose two summands are as they were changes nothing, also where the entry itself was lowered
  pub clean : (v : Work) → Lowered v → (k i j : ℕ) → k < n → i < n → j < n → entry v i k ≡ entry w i k → entry v k j ≡ entry w k j →
      relaxed k i j v ≡ v
  clean v l k i j hk hi hj e g =
      let x : sum_of (entry v i k) (entry v k j) ≡ sum_of (entry w i k) (entry w k j) = λ t. sum_of (e t) (g t) in
      let o : entry v i j ≼ sum_of (entry w i k) (entry w k j) = ≼_trans (l.order i j hi hj) (record { kept = h.pairs k i j hk hi hj }) in
      relaxed-follows v k i j (subst (λ (y : Pair). is_less y (entry v i j) ≡ false) (sym x) o.kept)
      (λ s e s> t.
      let f = l.falls s e s> in
      let a = f.values t i j hi hj in
      let b = way_at_most s e (entry w i j) (entry w i k) (entry w k j) (h.values s e s> (f.before t) k i j hk hi hj) in
      subst (λ (y : Pair). value_of s e (entry v i j) ≤ℤ value_of s e y) (sym x) (omega (arith, int)))

  -- ---- so a settled zone stays
  settled_relaxed : (k i j : ℕ) → k < n → i < n → j < n → relaxed k i j w ≡ w
  settled_relaxed k i j hk hi hj =
      clean w (record { order = λ a b ha hb. ≼_refl (entry w a b); falls = λ s e s>. falls_refl s e s> n w }) k i j hk hi hj refl refl

  settled_row : (k i : ℕ) → k < n → i < n → (j : ℕ) → j ≤ n → row_steps k i j w ≡ w
  unfolding row_steps
  settled_row k i hk hi zero hj = refl
  settled_row k i hk hi (suc j) hj = ap (relaxed k i j) (settled_row k i hk hi j (omega arith)) ∙ settled_relaxed k i j hk hi hj

  settled_round : (k : ℕ) → k < n → (i : ℕ) → i ≤ n → round_steps n k i w ≡ w
  unfolding round_steps
  settled_round k hk zero hi = refl
  settled_round k hk (suc i) hi = ap (row_steps k i n) (settled_round k hk i (omega arith)) ∙ settled_row k i hk hi n (omega arith)

  -- no middle index changes it
  pub settled_reduced : (k : ℕ) → k ≤ n → reduce_steps n k w ≡ non_empty w
  unfolding reduce_steps
  settled_reduced zero hk = refl
  settled_reduced (suc k) hk =
      ap (after_middle n k) (settled_reduced k (omega arith))
      ∙ after_round n k w (sym (settled_round k hk n (omega arith))) (sym (seen_all n w (zero_alive n w h.size h.diagonal).diagonal))

  -- at a lower running fraction it is settled too
  pub settled_later : (f : Fraction) → ((s e : ℕ) → 0 < s → Below s e f → Below s e w.fraction) →
      Settled n (record { zone = w.zone; fraction = f })
  settled_later f g = record { size = h.size; diagonal = h.diagonal; pairs = h.pairs; values = λ s e s> t. h.values s e s> (g s e s> t) }
