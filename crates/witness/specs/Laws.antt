-- What a step back means: at s = 1, e = 0 it makes a step of a run, from a valuation of the zone w along an edge with the guard G that resets R, into
-- a location with the invariant I. There are c clocks.
use Rattle.zones.specs.Reductions.{is_empty}
use Rattle.std.specs.Prelude.{ℕ, suc, ◌≡◌, Bool, false, List}
use Rattle.runs.specs.Limits.{Limits, Within}
use Rattle.zones.specs.declared.reduction.Reduced.{Reduced}
use Rattle.zones.specs.declared.zone.Work.{Work}
use Rattle.zones.specs.Sets.{Has, Put, Waits, Follows}
use Rattle.zones.specs.Successors.{meet_of}
use Rattle.zones.specs.Zones.{reset_of}
use Rattle.witness.specs.Witnesses.{clocks_of, StepBack}

-- the zone that meets the guard, and the one that meets the invariant after the reset
abbrev pub guard_met : ℕ → Limits → Work → Reduced
guard_met c G w = meet_of c G w

abbrev pub arrived : ℕ → Limits → (ℕ → Bool) → Limits → Work → Reduced
arrived c G R I w = meet_of c I (reset_of (suc c) R (guard_met c G w).work)

-- neither of the two is empty
pub record BothLive (c : ℕ) (G : Limits) (R : ℕ → Bool) (I : Limits) (w : Work) : Type 0 where
  pub guarded : is_empty (guard_met c G w) ≡ false
  pub entered : is_empty (arrived c G R I w) ≡ false

-- r is a step back from the valuation s: its valuation is in w and within the guard, reset it is within the invariant, and waiting makes it s
pub record SteppedBack (c : ℕ) (G : Limits) (R : ℕ → Bool) (I : Limits) (w : Work) (s : List ℕ) (r : StepBack) : Type 0 where
  pub inside : Has 1 0 c w (clocks_of r.valuation)
  pub guard : Within 1 0 c G (clocks_of r.valuation)
  pub after : ℕ → ℕ
  pub put : Put (suc c) R (clocks_of r.valuation) after
  pub arrives : Within 1 0 c I after
  pub waits : Waits (suc c) r.wait after (clocks_of s)
  pub still : Within 1 0 c I (clocks_of s)

-- the valuation v is reached from a valuation of w
pub record Reached (c : ℕ) (G : Limits) (R : ℕ → Bool) (I : Limits) (w : Work) (v : ℕ → ℕ) : Type 0 where
  pub before : ℕ → ℕ
  pub inside : Has 1 0 c w before
  pub follows : Follows 1 0 c G R I before v
