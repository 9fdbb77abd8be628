-- The worked examples, computed from the definitions.
-- Assumes nothing.
use mathlib.Core.Path.{refl}
use Rattle.automata.specs.Automata.{edge_in, firsts, guard_of, in_byte, invariant_in, invariant_of, limits_at, reset_set, resets_of}
use Rattle.automata.specs.Refusals.{out_of_range_at, refusal_of, some}
use Rattle.encoding.specs.Numbers.{be16_at, be32_at}
use Rattle.reachability.specs.Branches.{path_of}
use Rattle.reachability.specs.Search.{find, judge, offer, follow, expand, take_from, search}
use Rattle.reachability.specs.Witnesses.{back_to, last_state}
use Rattle.search.specs.Answers.{findings_of, search_findings, state_findings}
use Rattle.search.specs.Instance.{entering, following, overcounted, result_of}
use Rattle.search.specs.Store.{capacity_of}
use Rattle.witness.specs.Witnesses.{places_of, wait_to, least_to, back_of}
use Rattle.zones.specs.Containment.{count_to, larger}
use Rattle.zones.specs.Fractions.{lowered_by, euclid, gcd_of, lowest_terms}
use Rattle.zones.specs.Pairs.{sum_of, is_less, threshold_of, smaller_of}
use Rattle.zones.specs.Reductions.{relaxed, row_steps, round_steps, empty_in, empty_below, after_middle, reduce_steps}
use Rattle.zones.specs.Successors.{and_then, meet_of, enter_of, follow_of}
use Rattle.zones.specs.Zones.{pair_at, first_work, lower_at, meet_upper, meet_clock, meet_limits, raise_limits, home, reset_places, reset_of}
use Rattle.run_writer.specs.Crossing.{back_along, landing_along}
use Rattle.run_writer.specs.Examples.{AllRight}
use Rattle.run_writer.specs.Writing.{outcome_numbers, run_numbers, run_findings, run_buffer}

pub all_right : AllRight
unfolding edge_in firsts guard_of in_byte invariant_in invariant_of limits_at reset_set resets_of out_of_range_at refusal_of some be16_at be32_at
    path_of
    find judge offer follow expand take_from search back_to last_state findings_of search_findings state_findings entering following overcounted
    result_of
    capacity_of places_of wait_to least_to back_of count_to larger lowered_by euclid gcd_of lowest_terms sum_of is_less
    threshold_of
    smaller_of relaxed row_steps round_steps empty_in empty_below after_middle reduce_steps and_then meet_of enter_of follow_of
    pair_at first_work lower_at meet_upper meet_clock meet_limits raise_limits home reset_places reset_of
    back_along landing_along outcome_numbers run_numbers run_findings run_buffer
all_right = record { told = refl; run = refl; refused = refl; untouched = refl; full = refl; none = refl; here = refl }
