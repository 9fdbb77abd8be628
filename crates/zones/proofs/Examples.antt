-- The examples worked by hand, computed from the definitions.
-- Assumes nothing.
use mathlib.Core.List.{List, [], ◌∷◌, ◌++◌}
use mathlib.Core.Path.{refl}
use Rattle.zones.specs.Containment.{every_to, inside_to, larger, count_to}
use Rattle.zones.specs.Examples.{Example, AllRight, meeting, reducing, resetting, moving, lowering, containing, examples}
use Rattle.zones.specs.Fractions.{lowered_by, euclid, gcd_of, lowest_terms}
use Rattle.zones.specs.Pairs.{sum_of, is_less, threshold_of, smaller_of}
use Rattle.zones.specs.Reductions.{relaxed, row_steps, round_steps, empty_in, empty_below, after_middle, reduce_steps}
use Rattle.zones.specs.Successors.{and_then, meet_of, enter_of, follow_of, start_of}
use Rattle.zones.specs.Zones.{pair_at, first_work, lower_at, meet_upper, meet_clock, meet_limits, raise_limits, home, reset_places, reset_of}

and : (a b : List Example) → AllRight a → AllRight b → AllRight (a ++ b)
and [] b x y = y
and (c ∷ a) b x y = (x.0, and a b x.1 y)

pub all_right : AllRight examples
unfolding every_to inside_to larger count_to lowered_by euclid gcd_of lowest_terms sum_of is_less threshold_of
    smaller_of
    relaxed row_steps round_steps empty_in empty_below after_middle reduce_steps and_then meet_of enter_of follow_of start_of pair_at first_work
    lower_at meet_upper
    meet_clock meet_limits raise_limits home reset_places reset_of
all_right =
    and meeting (reducing ++ (resetting ++ (moving ++ (lowering ++ containing))))
    (refl, (refl, (refl, (refl, (refl, (refl, (refl, (refl, (refl, tt)))))))))
    (and reducing (resetting ++ (moving ++ (lowering ++ containing)))
    (refl, (refl, (refl, (refl, (refl, (refl, (refl, (refl, (refl, (refl, (refl, (refl, (refl, (refl, tt))))))))))))))
    (and resetting (moving ++ (lowering ++ containing)) (refl, (refl, tt))
    (and moving (lowering ++ containing) (refl, (refl, (refl, (refl, (refl, (refl, (refl, (refl, (refl, tt)))))))))
    (and lowering containing (refl, (refl, (refl, (refl, (refl, (refl, (refl, (refl, (refl, (refl, tt))))))))))
    (refl, (refl, (refl, (refl, (refl, (refl, (refl, (refl, (refl, (refl, (refl, (refl, (refl, (refl, tt))))))))))))))))))
