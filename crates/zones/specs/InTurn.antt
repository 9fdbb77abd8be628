-- Document 02, word by word: a fraction lowered by one threshold after the other. `empty_below` and `inside_to` are the lowest of the same
-- thresholds; to lower by that is to lower by each in turn, to the same term (`diagonals_in_turn`, `places_in_turn`).
-- There are n indices: 0 and the clocks.
use Rattle.std.specs.Prelude.{ℕ, zero, suc, ◌%◌, cond, List, ltb, pos}
use Rattle.std.specs.Int.Signed.{lt_z}
use Rattle.zones.specs.declared.fraction.Fraction.{Fraction}
use Rattle.zones.specs.declared.pair.Pair.{Pair}
use Rattle.zones.specs.declared.zone.Work.{Work}
use Rattle.zones.specs.Fractions.{lowered_by}
use Rattle.zones.specs.Pairs.{zero_pair, threshold_of}
use Rattle.zones.specs.Zones.{entry}
use Rattle.zones.specs.Containment.{place_of}

-- "at each diagonal pair of the round where this is seen with m below 0, by the threshold of its final pair against (0, 0)": of the first i
unfoldable pub diagonals_lower : ℕ → Work → Fraction → Fraction
diagonals_lower zero w f = f
diagonals_lower (suc i) w f =
    cond (lt_z (entry w i i).m (pos 0)) (lowered_by (diagonals_lower i w f) (threshold_of (entry w i i) zero_pair)) (diagonals_lower i w f)

-- "when a containment test holds, by each of that test's thresholds": of the first k places
unfoldable pub places_lower : ℕ → ℕ → List Pair → List Pair → Fraction → Fraction
places_lower n zero z y f = f
places_lower n (suc k) z y f =
    cond (ltb (k % 9) n) (lowered_by (places_lower n k z y f) (threshold_of (place_of z k) (place_of y k))) (places_lower n k z y f)
