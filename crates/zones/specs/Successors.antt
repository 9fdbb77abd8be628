-- How a zone goes from location to location. There are c clocks, and one index more.
use Rattle.zones.specs.Reductions.{is_empty}
use Rattle.std.specs.Prelude.{ℕ, suc, Bool, cond}
use Rattle.zones.specs.declared.reduction.Reduced.{Reduced}
use Rattle.zones.specs.declared.zone.Work.{Work}
use Rattle.runs.specs.Limits.{Limits}
use Rattle.zones.specs.Zones.{first_work, meet_limits, raise_limits, reset_of}
use Rattle.zones.specs.Reductions.{reduce_of}

-- "An empty zone is dropped at any point."
unfoldable pub and_then : Reduced → (Work → Reduced) → Reduced
and_then r f = cond (is_empty r) r (f r.work)

-- meet limits and reduce
unfoldable pub meet_of : ℕ → Limits → Work → Reduced
meet_of c L w = reduce_of (suc c) (meet_limits L c w)

-- "To enter: meet the invariant, reduce, put each (clock, 0) to (hi, 1), reduce."
unfoldable pub enter_of : ℕ → Limits → Work → Reduced
enter_of c I w = and_then (meet_of c I w) (λ v. reduce_of (suc c) (raise_limits I c v))

-- "A successor takes a kept zone, meets the guard, reduces, resets, and enters the new location."
unfoldable pub follow_of : ℕ → Limits → (ℕ → Bool) → Limits → Work → Reduced
follow_of c G R I w = and_then (meet_of c G w) (λ v. enter_of c I (reset_of (suc c) R v))

-- "The first zone .. enters the start."
unfoldable pub start_of : ℕ → Limits → Reduced
start_of c I = enter_of c I first_work
