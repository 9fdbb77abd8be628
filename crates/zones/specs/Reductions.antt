-- "Reduction: middle index outermost, then row, then column, in clock order from 0. Each entry becomes the smaller of itself and row-to-middle plus
-- middle-to-column."
-- There are `n` indices: 0 and the clocks.
use Rattle.std.specs.Prelude.{ℕ, zero, suc, Bool, true, false, cond, pos, Option, None, Some, is_some}
use Rattle.std.specs.Option.{unwrap_or}
use Rattle.std.specs.Int.Signed.{lt_z}
use Rattle.zones.specs.declared.fraction.Fraction.{Fraction}
use Rattle.zones.specs.declared.pair.Pair.{Pair}
use Rattle.zones.specs.declared.reduction.Reduced.{Reduced}
use Rattle.zones.specs.declared.zone.Work.{Work}
use Rattle.zones.specs.Fractions.{no_limit, lowered_by}
use Rattle.zones.specs.Pairs.{zero_pair, sum_of, threshold_of}
use Rattle.zones.specs.Zones.{entry, lower_at}

-- entry (i, j) by the middle index k
unfoldable pub relaxed : ℕ → ℕ → ℕ → Work → Work
relaxed k i j w = lower_at i j (sum_of (entry w i k) (entry w k j)) w

-- the first j columns of row i
unfoldable pub row_steps : ℕ → ℕ → ℕ → Work → Work
row_steps k i zero w = w
row_steps k i (suc j) w = relaxed k i j (row_steps k i j w)

-- the first i rows, each with its n columns
unfoldable pub round_steps : ℕ → ℕ → ℕ → Work → Work
round_steps n k zero w = w
round_steps n k (suc i) w = row_steps k i n (round_steps n k i w)

-- "if a diagonal entry has m below 0": one of the first i
unfoldable pub empty_in : ℕ → Work → Bool
empty_in zero w = false
empty_in (suc i) w = cond (lt_z (entry w i i).m (pos 0)) true (empty_in i w)

-- Document 02: "at each diagonal pair of the round where this is seen with m below 0, the threshold of its final pair against (0, 0)": the lowest
-- of these, among the first i. It is what the safe fraction is lowered by; at every error below it the zone has no valuation
unfoldable pub empty_below : ℕ → Work → Fraction
empty_below zero w = no_limit
empty_below (suc i) w =
    cond (lt_z (entry w i i).m (pos 0)) (lowered_by (empty_below i w) (threshold_of (entry w i i) zero_pair)) (empty_below i w)

-- as the code has both: what a diagonal shows with one pair more, None where no pair had m below 0
unfoldable pub seen_with : Pair → Option Fraction → Option Fraction
seen_with q s = cond (lt_z q.m (pos 0)) (Some (lowered_by (unwrap_or s no_limit) (threshold_of q zero_pair))) s

-- a zone that is not empty
abbrev pub non_empty : Work → Reduced
non_empty w = record { work = w; emptied = None }

-- whether the zone is empty, and what the safe fraction is lowered by: nothing, if it is not
abbrev pub is_empty : Reduced → Bool
is_empty r = is_some r.emptied

abbrev pub safe_of : Reduced → Fraction
safe_of r = unwrap_or r.emptied no_limit

-- "After each middle index, if a diagonal entry has m below 0, the zone is empty and work on it stops."
unfoldable pub after_middle : ℕ → ℕ → Reduced → Reduced
after_middle n k r =
    cond (is_empty r) r (record {
      work = round_steps n k n r.work;
      emptied = cond (empty_in n (round_steps n k n r.work))
          (Some (empty_below n (round_steps n k n r.work))) None;
    })

-- the first k middle indices
unfoldable pub reduce_steps : ℕ → ℕ → Work → Reduced
reduce_steps n zero w = non_empty w
reduce_steps n (suc k) w = after_middle n k (reduce_steps n k w)

abbrev pub reduce_of : ℕ → Work → Reduced
reduce_of n w = reduce_steps n n w
