-- A step that is made leaves a state from which the sums of the next one fit.
-- Assumes nothing.
use Prim.Native.Nat.{ℕ, suc, ◌≤◌, ◌<◌}
use mathlib.Core.Path.{◌≡◌}
use mathlib.Core.Bool.{true, false}
use mathlib.Core.List.{List}
use mathlib.Core.Logic.{◌⊎◌, inl, inr}
use native.Mathlib.Omega.{arith}
use lib.Dec.{eqb}
use lib.ListN.{length, get_or}
use Rattle.std.proofs.lemmas.Bool.{cases_lt}
use Rattle.runs.specs.Limits.{scale}
use Rattle.automata.specs.Accepted.{Accepted}
use Rattle.automata.specs.Automata.{clocks, locations, invariant_at, hi_at, no_upper, limits_at, invariant_of}
use Rattle.run_judge.specs.Clocks.{meets_invariant, LowFirst, LowBehind, CanStep}
use Rattle.run_judge.proofs.clocks.Showing.{within_shows}

module _ (b : List ℕ) (a : Accepted b) where
  -- an invariant has an upper limit of every clock, which is on the scale
  pub present : (l x : ℕ) → l < locations b → x < clocks b → eqb (hi_at b (invariant_at b l) (suc x)) no_upper ≡ false
  unfolding invariant_of limits_at
  present l x hl hx = a.invariant_present l (suc x) hl (omega arith) (omega arith)

  pub on_scale : (l x : ℕ) → l < locations b → x < clocks b → hi_at b (invariant_at b l) (suc x) ≤ scale
  unfolding invariant_of limits_at
  on_scale l x hl hx = a.invariant_hi l (suc x) hl (omega arith) (omega arith)

  -- so clocks within it are low, whatever stands behind them
  pub ready : (l : ℕ) (c : List ℕ) → l < locations b → meets_invariant b l c ≡ true → (l < locations b) × LowFirst (clocks b) c
  ready l c h w =
      (h, λ x k. omega (arith, (within_shows b (invariant_at b l) c (clocks b) w x k).most (present l x h k), on_scale l x h k))

  -- and with those behind them low a step can be made
  pub able : (l : ℕ) (c : List ℕ) → l < locations b → length c ≡ 8 → LowBehind (clocks b) c → meets_invariant b l c ≡ true → CanStep b l c
  able l c h s k w = record { location = h; clocks = record { size = s; low = λ x m. low x m (cases_lt x (clocks b)) } }
    where
      low : (x : ℕ) → x < 8 → (x < clocks b) ⊎ (clocks b ≤ x) → get_or c x 0 ≤ scale
      low x m (inl p) = (ready l c h w).1 x p
      low x m (inr p) = k x p m
