-- Document 01's cards A to J, document 02's, and one more, computed from the definitions.
-- Assumes nothing.
use mathlib.Core.Path.{◌≡◌, refl}
use Rattle.zones.specs.Containment.{count_to, larger, inside_to, every_to}
use Rattle.zones.specs.Fractions.{lowered_by, euclid, gcd_of, lowest_terms}
use Rattle.zones.specs.Pairs.{sum_of, is_less, threshold_of, smaller_of}
use Rattle.zones.specs.Zones.{pair_at, first_work, lower_at, meet_upper, meet_clock, meet_limits, raise_limits, home, reset_places, reset_of}
use Rattle.zones.specs.Reductions.{relaxed, row_steps, round_steps, empty_in, empty_below, after_middle, reduce_steps}
use Rattle.zones.specs.Successors.{and_then, meet_of, enter_of, follow_of}
use Rattle.encoding.specs.Numbers.{be16_at, be32_at}
use Rattle.automata.specs.Automata.{edge_in, firsts, guard_of, in_byte, invariant_in, invariant_of, limits_at, reset_set, resets_of}
use Rattle.automata.specs.Refusals.{out_of_range_at, refusal_of, some}
use Rattle.search.specs.Examples.{AllRight, examples}
use Rattle.search.specs.Instance.{entering, following, lowered_inside, overcounted, result_of}
use Rattle.reachability.specs.Search.{dropping, find, judge, offer, follow, expand, take_from, search}
use Rattle.slots.specs.Slots.{flat, pairs_to, head_of, slot_of, counted}
use Rattle.search.specs.Store.{capacity_of, origin_of, slots_of, store_of}
use Rattle.search.specs.Answers.{findings_of, search_findings, search_store, state_findings}
use Rattle.search.specs.Verdicts.{holding_of}

-- what is found and the store, by computing
r : {A B : Type 0} {x : A} {y : B} → (x ≡ x) × (y ≡ y)
r = (refl, refl)

pub all_right : AllRight examples
unfolding count_to larger inside_to every_to lowered_by euclid gcd_of lowest_terms sum_of is_less threshold_of
    smaller_of
    pair_at first_work lower_at meet_upper meet_clock meet_limits raise_limits home reset_places reset_of
    relaxed row_steps round_steps empty_in empty_below after_middle reduce_steps and_then meet_of enter_of follow_of
    be16_at be32_at edge_in firsts guard_of in_byte invariant_in invariant_of limits_at reset_set resets_of out_of_range_at refusal_of some
    entering following lowered_inside overcounted result_of dropping find judge offer follow expand take_from search
    counted flat pairs_to head_of slot_of capacity_of origin_of slots_of store_of findings_of holding_of search_findings search_store state_findings
all_right = (r, (r, (r, (r, (r, (r, (r, (r, (r, (r, (r, (r, (r, (r, (r, (r, tt))))))))))))))))
