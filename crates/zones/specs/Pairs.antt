-- "A pair (m, p) stands for m + p × error, p never negative."
use Rattle.std.specs.Prelude.{ℕ, ◌+◌, ◌-◌, Bool, cond, ltb, pos, neg_ℤ, ◌+ℤ◌, ◌-ℤ◌, nat_abs}
use Rattle.zones.specs.declared.fraction.Fraction.{Fraction}
use Rattle.zones.specs.declared.pair.Pair.{Pair}
use Rattle.zones.specs.declared.pair.Choice.{Choice}
use Rattle.std.specs.declared.cmp.Ordering.{Ordering}
use Rattle.std.specs.Ordering.{on, then_cmp, int_cmp, nat_cmp, is_lt, is_eq, is_le}
use Rattle.zones.specs.Fractions.{no_limit}

-- "The first zone has all pairs (0, 0)"
abbrev pub zero_pair : Pair
zero_pair = record { m = pos 0; p = 0 }

-- "(hi, 1)" and "(−lo, 1)"
abbrev pub at_most : ℕ → Pair
at_most hi = record { m = pos hi; p = 1 }

abbrev pub at_least : ℕ → Pair
at_least lo = record { m = neg_ℤ (pos lo); p = 1 }

-- "A pair is added to another and gives back a new pair, entry by entry."
unfoldable pub sum_of : Pair → Pair → Pair
sum_of a b = record { m = a.m +ℤ b.m; p = a.p + b.p }

-- "Of two pairs the smaller has the smaller m; at equal m, the smaller p"; document 02: "Comparing two pairs must now say below, equal or above":
-- how a stands to b, `Less` being below. `Pair` has this order
abbrev pub compare_of : Pair → Pair → Ordering
compare_of = then_cmp (on (λ a. a.m) int_cmp) (on (λ a. a.p) nat_cmp)

abbrev pub is_below : Ordering → Bool
is_below = is_lt

abbrev pub is_equal : Ordering → Bool
is_equal = is_eq

abbrev pub is_at_most : Ordering → Bool
is_at_most = is_le

-- a is the smaller of the two
unfoldable pub is_less : Pair → Pair → Bool
is_less a b = is_below (compare_of a b)

-- "Where the chosen (m, p) has p above the other's r, the other being (q, r), the comparison yields the threshold (q − m)/(p − r)": a was chosen, and
-- b was not
unfoldable pub threshold_of : Pair → Pair → Fraction
threshold_of a b = cond (ltb b.p a.p) (record { n = nat_abs (b.m -ℤ a.m); d = a.p - b.p }) no_limit

-- the smaller of a, "the one already there", and b; "if equal, the one already there stays"
unfoldable pub smaller_of : Pair → Pair → Choice
smaller_of a b = cond (is_less b a) (record { pair = b; threshold = threshold_of b a }) (record { pair = a; threshold = threshold_of a b })
