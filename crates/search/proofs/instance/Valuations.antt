-- Waits and resets of a valuation are those of the zones.
-- Assumes nothing.
use Prim.Native.Nat.{ℕ, zero, suc, ◌+◌, ◌<◌}
use mathlib.Core.Path.{◌≡◌, refl, sym, ap, ◌∙◌}
use mathlib.Core.Bool.{Bool, true, false, cond}
use lib.ListN.{length, get_or}
use native.Mathlib.Omega.{arith}
use native.Mathlib.Nat.{not-suc-le-zero}
use Rattle.runs.specs.Timed.{Valuation, ticks, later, zeroed}
use Rattle.runs.proofs.Valuations.{later_at, zeroed_at}
use Rattle.zones.specs.Sets.{Put, Waits}
use Rattle.zones.specs.Zones.{home}
use Rattle.zones.proofs.places.Places.{home_stays, home_goes}

module _ (c : ℕ) (v : Valuation) (all : length v ≡ c) where
  pub ticks_wait : (t : ℕ) → Waits (suc c) t (ticks v) (ticks (later t v))
  ticks_wait t = record { start = refl; later = at }
    where
      at : (x : ℕ) → 0 < x → x < suc c → ticks (later t v) x ≡ ticks v x + t
      at zero px hx = absurd (not-suc-le-zero px)
      at (suc x) px hx = later_at t v x (omega arith)

  pub ticks_put : (R : ℕ → Bool) → Put (suc c) R (ticks v) (ticks (zeroed R 1 v))
  ticks_put R zero h = sym (go (R 0) refl)
    where
      go : (t : Bool) → R 0 ≡ t → ticks v (home R 0) ≡ 0
      go true e = ap (ticks v) (home_goes R 0 e)
      go false e = ap (ticks v) (home_stays R 0 e)
  ticks_put R (suc x) h = zeroed_at R 1 v x (omega arith) ∙ ap (λ (j : ℕ). cond (R j) 0 (get_or v x 0)) one ∙ go (R (suc x)) refl
    where
      one : 1 + x ≡ suc x
      one = omega arith

      go : (t : Bool) → R (suc x) ≡ t → cond (R (suc x)) 0 (get_or v x 0) ≡ ticks v (home R (suc x))
      go true e = rw (e, home_goes R (suc x) e)
      go false e = rw (e, home_stays R (suc x) e)
