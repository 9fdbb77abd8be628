-- What meeting limits gives, as the code has it: the zone, and whether it is known to be settled.
use Rattle.std.specs.Prelude.{ℕ, ◌≡◌, Bool, true}
use Rattle.zones.specs.declared.zone.Work.{Work}
use Rattle.runs.specs.Limits.{Limits}
use Rattle.zones.specs.Zones.{meet_limits}
use Rattle.search.specs.declared.successor.Met.{Met}

-- the limits of the first c clocks, met on w. What was settled counts as settled where they lower no entry
pub record MetBy (L : Limits) (c : ℕ) (w : Work) (settled : Bool) (r : Met) : Type 0 where
  pub work : r.work ≡ meet_limits L c w
  pub same : r.settled ≡ true → (settled ≡ true) × ((meet_limits L c w).zone ≡ w.zone)
