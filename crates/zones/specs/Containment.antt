-- "if each pair is the smaller or equal beside that of a kept zone of its location .., it is dropped and that test's thresholds lower the
-- fraction"; document 02: "again when every pair equals that of the kept zone"; "a zone to be kept has an error count above 65,535".
-- There are n indices: 0 and the clocks. A place k of a square is row k / 9 and column k % 9; it counts if its column is below n.
use Rattle.std.specs.Prelude.{ℕ, zero, suc, ◌*◌, ◌%◌, Bool, true, false, cond, List, ltb, get_or}
use Rattle.zones.specs.declared.fraction.Fraction.{Fraction}
use Rattle.std.specs.declared.cmp.Ordering.{Ordering}
use Rattle.zones.specs.declared.pair.Pair.{Pair}
use Rattle.zones.specs.Fractions.{no_limit, lowered_by}
use Rattle.zones.specs.Pairs.{zero_pair, compare_of, is_at_most, is_equal, threshold_of}

abbrev pub place_of : List Pair → ℕ → Pair
place_of z k = get_or z k zero_pair

-- each of the first k places that counts passes
unfoldable pub every_to : ℕ → ℕ → (ℕ → Bool) → Bool
every_to n zero passes = true
every_to n (suc k) passes = cond (ltb (k % 9) n) (cond (passes k) (every_to n k passes) false) (every_to n k passes)

-- how the pair of z at place k stands to y's
abbrev pub compare_at : List Pair → List Pair → ℕ → Ordering
compare_at z y k = compare_of (place_of z k) (place_of y k)

-- each pair of z is the smaller or equal beside y's
abbrev pub within : ℕ → List Pair → List Pair → Bool
within n z y = every_to n (n * 9) (λ k. is_at_most (compare_at z y k))

-- "every pair equals that of the kept zone"
abbrev pub equal : ℕ → List Pair → List Pair → Bool
equal n z y = every_to n (n * 9) (λ k. is_equal (compare_at z y k))

-- the lowest threshold of a test that holds, z's pairs being chosen: both fractions are lowered by it, and at every error below it z is inside y.
-- "A containment test that fails lowers nothing", and is not asked for this
unfoldable pub inside_to : ℕ → ℕ → List Pair → List Pair → Fraction
inside_to n zero z y = no_limit
inside_to n (suc k) z y = cond (ltb (k % 9) n) (lowered_by (inside_to n k z y) (threshold_of (place_of z k) (place_of y k))) (inside_to n k z y)

abbrev pub inside_below : ℕ → List Pair → List Pair → Fraction
inside_below n z y = inside_to n (n * 9) z y

-- ---- the largest error count
unfoldable pub larger : ℕ → ℕ → ℕ
larger a b = cond (ltb a b) b a

-- the largest error count among the first k places
unfoldable pub count_to : ℕ → ℕ → List Pair → ℕ
count_to n zero z = 0
count_to n (suc k) z = cond (ltb (k % 9) n) (larger (count_to n k z) (place_of z k).p) (count_to n k z)

abbrev pub largest_count : ℕ → List Pair → ℕ
largest_count n z = count_to n (n * 9) z
