-- What each comparison of a reduction keeps, the reduction keeps: one induction, and what follows by it.
-- Assumes nothing.
use Prim.Native.Nat.{ℕ, zero, suc, ◌<◌, ◌≤◌}
use mathlib.Core.Path.{◌≡◌}
use lib.ListN.{length}
use native.Mathlib.Omega.{arith}
use Rattle.zones.specs.declared.zone.Work.{Work}
use Rattle.zones.proofs.pairs.Integers.{eq_read, sum_law}
use Rattle.zones.specs.Pairs.{sum_of}
use Rattle.zones.specs.Zones.{entry, lower_at}
use Rattle.zones.specs.Reductions.{relaxed, row_steps, round_steps, reduce_steps}
use Rattle.zones.specs.Values.{value_of}
use Rattle.zones.specs.Sets.{Gap, In, square_of}
use Rattle.zones.proofs.sets.Diagonals.{Signs, lower_signs}
use Rattle.zones.proofs.sets.Lowering.{lower_proper, Falls, falls_refl, falls_trans, lower_falls, lower_keeps}
use Rattle.zones.proofs.places.Places.{lower_size}
use Rattle.zones.proofs.reductions.Progress.{after_cases}
use Rattle.zones.proofs.fractions.Thresholds.{value_sum}

-- what each step keeps, the reduction keeps
module _ (n : ℕ) (Q : Work → Type 0)
    (f : (k i j : ℕ) → k < n → i < n → j < n → (w : Work) → length w.zone ≡ 81 → Q w → Q (lower_at i j (sum_of (entry w i k) (entry w k j)) w)) where
  P : Work → Type 0
  P w = (length w.zone ≡ 81) × Q w

  step : (k i j : ℕ) → k < n → i < n → j < n → (w : Work) → P w → P (relaxed k i j w)
  unfolding P relaxed
  step k i j hk hi hj w p = (lower_size w i j (sum_of (entry w i k) (entry w k j)) p.0, f k i j hk hi hj w p.0 p.1)

  row : (k i : ℕ) → k < n → i < n → (w : Work) → P w → (j : ℕ) → j ≤ n → P (row_steps k i j w)
  unfolding row_steps
  row k i hk hi w p zero h = p
  row k i hk hi w p (suc j) h = step k i j hk hi h (row_steps k i j w) (row k i hk hi w p j (omega arith))

  round : (k : ℕ) → k < n → (w : Work) → P w → (i : ℕ) → i ≤ n → P (round_steps n k i w)
  unfolding round_steps
  round k hk w p zero h = p
  round k hk w p (suc i) h = row k i hk h (round_steps n k i w) (round k hk w p i (omega arith)) n (omega arith)

  steps : (w : Work) → P w → (k : ℕ) → k ≤ n → P (reduce_steps n k w).work
  unfolding reduce_steps
  steps w p zero h = p
  steps w p (suc k) h =
      let q = steps w p k (omega arith) in
      after_cases n k (reduce_steps n k w) (λ r. P r.work) (λ e. q) (λ e. round k h _ q n (omega arith))

  pub reduce_ind : (w : Work) → length w.zone ≡ 81 → Q w → (length (reduce_steps n n w).work.zone ≡ 81) × Q (reduce_steps n n w).work
  unfolding P
  reduce_ind w size q = steps w (size, q) n (omega arith)

  -- one row, and one round
  pub row_ind : (k i : ℕ) → k < n → i < n → (w : Work) → length w.zone ≡ 81 → Q w → (j : ℕ) → j ≤ n →
      (length (row_steps k i j w).zone ≡ 81) × Q (row_steps k i j w)
  unfolding P
  row_ind k i hk hi w size q = row k i hk hi w (size, q)

pub reduce_proper : (n : ℕ) (w : Work) → length w.zone ≡ 81 → 0 < w.fraction.n → 0 < (reduce_steps n n w).work.fraction.n
reduce_proper n w size h = (reduce_ind n (λ v. 0 < v.fraction.n) (λ k i j hk hi hj v z p. lower_proper i j _ v p) w size h).1

-- ---- at an error e/s
module _ (s e : ℕ) (s> : 0 < s) (n : ℕ) (n≤ : n ≤ 9) where
  pub row_falls : (k i : ℕ) → k < n → i < n → (w : Work) → length w.zone ≡ 81 → (j : ℕ) → j ≤ n → Falls s e s> n w (row_steps k i j w)
  row_falls k i hk hi w size j hj =
      (row_ind n (Falls s e s> n w) (λ k i j hk hi hj v z q. falls_trans s e s> n w v _ q (lower_falls s e s> n n≤ v i j _ z hi hj)) k i hk hi w size
      (falls_refl s e s> n w) j hj).1

  module _ (w : Work) (size : length w.zone ≡ 81) where
    pub reduce_size : length (reduce_steps n n w).work.zone ≡ 81
    reduce_size = (reduce_ind n (λ v. Work) (λ k i j hk hi hj v z q. v) w size w).0

    pub reduce_falls : Falls s e s> n w (reduce_steps n n w).work
    reduce_falls =
        (reduce_ind n (Falls s e s> n w) (λ k i j hk hi hj v z q. falls_trans s e s> n w v _ q (lower_falls s e s> n n≤ v i j _ z hi hj)) w size
        (falls_refl s e s> n w)).1

    pub reduce_signs : Signs s e s> n w → Signs s e s> n (reduce_steps n n w).work
    reduce_signs h = (reduce_ind n (Signs s e s> n) (λ k i j hk hi hj v z q. lower_signs s e s> n n≤ v i j _ z hi hj q) w size h).1

    -- no threshold is needed for what stays in
    pub reduce_keeps : (v : ℕ → ℕ) → In n (square_of s e w) v → In n (square_of s e (reduce_steps n n w).work) v
    reduce_keeps v h =
        (reduce_ind n (λ u. In n (square_of s e u) v)
        (λ k i j hk hi hj u z q. lower_keeps s e s> n n≤ u i j _ z hi hj v q (way u k i j hk hi hj q)) w size h).1
      where
        way : (u : Work) (k i j : ℕ) → k < n → i < n → j < n → In n (square_of s e u) v →
            Gap (value_of s e (sum_of (entry u i k) (entry u k j))) (v i) (v j)
        way u k i j hk hi hj q =
            omega (
              arith,
              eq_read (value_sum s e (entry u i k) (entry u k j)),
              sum_law (value_of s e (entry u i k)) (value_of s e (entry u k j)),
              q.gaps i k hi hk,
              q.gaps k j hk hj,
            )
