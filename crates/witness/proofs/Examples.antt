-- The examples worked by hand, computed from the definitions.
-- Assumes nothing.
use mathlib.Core.Path.{refl}
use Rattle.zones.specs.Fractions.{lowered_by}
use Rattle.zones.specs.Pairs.{sum_of, is_less, threshold_of, smaller_of}
use Rattle.zones.specs.Reductions.{relaxed, row_steps, round_steps, empty_in, after_middle, reduce_steps}
use Rattle.zones.specs.Successors.{and_then, meet_of, enter_of, start_of}
use Rattle.zones.specs.Zones.{pair_at, first_work, lower_at, meet_upper, meet_clock, meet_limits, raise_limits, home, reset_places, reset_of}
use Rattle.witness.specs.Examples.{AllRight}
use Rattle.witness.specs.Witnesses.{places_of, wait_to, least_to, back_of}

pub all_right : AllRight
unfolding lowered_by sum_of is_less threshold_of smaller_of relaxed row_steps round_steps empty_in after_middle reduce_steps
    and_then meet_of
    enter_of start_of pair_at first_work lower_at meet_upper meet_clock meet_limits raise_limits home reset_places reset_of places_of wait_to least_to
    back_of
all_right = record { one = refl; two = refl; lands = refl }
