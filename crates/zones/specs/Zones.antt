-- "A zone has a pair for each (a, b) among 0 and the clocks, bounding a − b." A zone at work is the square, nine pairs to a row, with the
-- running fraction. There are c clocks.
use Rattle.std.specs.Prelude.{ℕ, zero, suc, ◌+◌, ◌*◌, ◌/◌, ◌%◌, Bool, true, false, cond, List, get_or, set, replicate, Option, None, Some}
use Rattle.runs.specs.Limits.{Limits}
use Rattle.zones.specs.declared.pair.Pair.{Pair}
use Rattle.zones.specs.declared.zone.Bounds.{Bounds}
use Rattle.zones.specs.declared.zone.Work.{Work}
use Rattle.zones.specs.Fractions.{no_limit, lowered_by}
use Rattle.zones.specs.Pairs.{zero_pair, at_most, at_least, is_less, smaller_of}

-- entry (a, b) of a square
unfoldable pub pair_at : List Pair → ℕ → ℕ → Pair
pair_at z a b = get_or z (a * 9 + b) zero_pair

abbrev pub entry : Work → ℕ → ℕ → Pair
entry w a b = pair_at w.zone a b

-- "The first zone has all pairs (0, 0)"
unfoldable pub first_work : Work
first_work = record { zone = replicate 81 zero_pair; fraction = no_limit }

-- one comparison: entry (i, j) becomes the smaller of itself and q, and the threshold lowers the fraction. Meeting a limit and a step of
-- the reduction are both this
unfoldable pub lower_at : ℕ → ℕ → Pair → Work → Work
lower_at i j q w =
    record {
      zone = set w.zone (i * 9 + j) (smaller_of (entry w i j) q).pair;
      fraction = lowered_by w.fraction (smaller_of (entry w i j) q).threshold;
    }

-- ---- "Meeting limits"
-- "the smaller of entry (clock, 0) and (hi, 1), unless hi is absent"
unfoldable pub meet_upper : ℕ → ℕ → Bool → Work → Work
meet_upper x hi absent w = cond absent w (lower_at x 0 (at_most hi) w)

-- "and of (0, clock) and (−lo, 1)"
unfoldable pub meet_clock : ℕ → ℕ → ℕ → Bool → Work → Work
meet_clock x lo hi absent w = lower_at 0 x (at_least lo) (meet_upper x hi absent w)

-- the same of the clock's two entries alone, (x, 0) and (0, x), with the running fraction
unfoldable pub upper_met : ℕ → Bounds → Bounds
upper_met hi b =
    record {
      upper = (smaller_of b.upper (at_most hi)).pair;
      lower = b.lower;
      fraction = lowered_by b.fraction (smaller_of b.upper (at_most hi)).threshold;
    }

unfoldable pub lower_met : ℕ → Bounds → Bounds
lower_met lo b =
    record {
      upper = b.upper;
      lower = (smaller_of b.lower (at_least lo)).pair;
      fraction = lowered_by b.fraction (smaller_of b.lower (at_least lo)).threshold;
    }

unfoldable pub upper_met_if : Option ℕ → Bounds → Bounds
upper_met_if None b = b
upper_met_if (Some hi) b = upper_met hi b

unfoldable pub bounds_met : ℕ → Option ℕ → Bounds → Bounds
bounds_met lo hi b = lower_met lo (upper_met_if hi b)

-- the hi of clock x, where it is not absent
abbrev pub upper_of : Limits → ℕ → Option ℕ
upper_of L x = cond (L.absent x) None (Some (L.hi x))

-- one of the two entries of a is below b's
unfoldable pub bounds_below : Bounds → Bounds → Bool
bounds_below a b = cond (is_less a.upper b.upper) true (is_less a.lower b.lower)

-- the limits of the first c clocks
unfoldable pub meet_limits : Limits → ℕ → Work → Work
meet_limits L zero w = w
meet_limits L (suc x) w = meet_clock (suc x) (L.lo (suc x)) (L.hi (suc x)) (L.absent (suc x)) (meet_limits L x w)

-- ---- "put each (clock, 0) to (hi, 1)"
unfoldable pub raise_limits : Limits → ℕ → Work → Work
raise_limits L zero w = w
raise_limits L (suc x) w =
    record {
      zone = set (raise_limits L x w).zone (suc x * 9 + 0) (at_most (L.hi (suc x)));
      fraction = (raise_limits L x w).fraction;
    }

-- ---- "a reset clock's row and column become those of 0"
-- the set of clocks that a list marks
abbrev pub set_of : List Bool → ℕ → Bool
set_of r x = get_or r x false

-- the index whose row and column a has after a reset of R
unfoldable pub home : (ℕ → Bool) → ℕ → ℕ
home R a = cond (R a) 0 a

-- the first k places of the square z, each with its home's entry of y
unfoldable pub reset_places : (ℕ → Bool) → List Pair → ℕ → List Pair → List Pair
reset_places R y zero z = z
reset_places R y (suc k) z = set (reset_places R y k z) k (pair_at y (home R (k / 9)) (home R (k % 9)))

-- a reset among `size` indices, row by row up to the last
unfoldable pub reset_of : ℕ → (ℕ → Bool) → Work → Work
reset_of size R w = record { zone = reset_places R w.zone (size * 9) w.zone; fraction = w.fraction }
