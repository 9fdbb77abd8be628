-- The wait before a valuation: v, less the wait, is in the square of a, if v is reached by a wait from any valuation of it. The square need
-- not be reduced.
-- Assumes nothing.
use Prim.Native.Nat.{ℕ, zero, suc, ◌+◌, ◌-◌, ◌≤◌, ◌<◌}
use mathlib.Core.List.{List}
use native.Mathlib.Omega.{arith}
use Rattle.zones.specs.declared.pair.Pair.{Pair}
use Rattle.zones.specs.Integers.{up, down}
use Rattle.zones.specs.Sets.{Square, Gap, In, Waits}
use Rattle.zones.specs.Zones.{pair_at}
use Rattle.zones.proofs.sets.Squares.{up_to}
use Rattle.witness.specs.Witnesses.{clocks_of, wait_to}

-- the square of a zone's m's
abbrev pub ms_of : List Pair → Square
ms_of z a b = (pair_at z a b).m

-- after the wait no clock was above its bound
wait_over : (v : List ℕ) (a : List Pair) (k x : ℕ) → x < suc k → 0 < x → clocks_of v x + down (ms_of a x 0) ≤ wait_to v a k + up (ms_of a x 0)
unfolding wait_to
wait_over v a zero x hx px = absurd (omega arith)
wait_over v a (suc k) x hx px =
    up_to (λ y. 0 < y → clocks_of v y + down (ms_of a y 0) ≤ wait_to v a (suc k) + up (ms_of a y 0)) (suc k)
    (λ y hy py. omega (arith, wait_over v a k y hy py)) (λ p. omega arith) x hx px

module _ (c : ℕ) (a : List Pair) (v : List ℕ) (u₀ : ℕ → ℕ) (t₀ : ℕ) (i : In (suc c) (ms_of a) u₀) (h : Waits (suc c) t₀ u₀ (clocks_of v)) where
  -- it is no longer than the wait that was
  wait_under : (k : ℕ) → k < suc c → wait_to v a k ≤ t₀
  unfolding wait_to
  wait_under zero hk = omega arith
  wait_under (suc k) hk =
      omega (arith, wait_under k (omega arith), h.later (suc k) (omega arith) hk, i.start, i.gaps (suc k) 0 hk (omega arith))

  enough : wait_to v a c ≤ t₀
  enough = wait_under c (omega arith)

  pub wait_in : In (suc c) (ms_of a) (λ x. clocks_of v x - wait_to v a c)
  wait_in = record { start = omega (arith, h.start); gaps = gaps }
    where
      gaps : (x y : ℕ) → x < suc c → y < suc c → Gap (ms_of a x y) (clocks_of v x - wait_to v a c) (clocks_of v y - wait_to v a c)
      gaps zero zero hx hy = omega (arith, h.start, i.start, i.gaps 0 0 hx hy)
      gaps zero (suc y) hx hy = omega (arith, enough, h.start, i.start, h.later (suc y) (omega arith) hy, i.gaps 0 (suc y) hx hy)
      gaps (suc x) zero hx hy =
          omega (arith, enough, h.start, i.start, h.later (suc x) (omega arith) hx, wait_over v a c (suc x) hx (omega arith))
      gaps (suc x) (suc y) hx hy =
          omega (arith, enough, h.later (suc x) (omega arith) hx, h.later (suc y) (omega arith) hy, i.gaps (suc x) (suc y) hx hy)

  pub wait_waits : Waits (suc c) (wait_to v a c) (λ x. clocks_of v x - wait_to v a c) (clocks_of v)
  wait_waits = record { start = h.start; later = λ x px hx. omega (arith, enough, h.later x px hx) }
