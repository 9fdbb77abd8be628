-- Two slots compared, on their numbers, and the largest error count of one: of their first t pairs each. Last, what the code asks.
use Rattle.std.specs.Prelude.{ℕ, zero, suc, ◌<◌, ◌≤◌, ◌≡◌, Bool, true, false, cond, List, length, get_or, ℤ, pos, ◌≤ℤ◌}
use Rattle.zones.specs.declared.fraction.Fraction.{Fraction}
use Rattle.std.specs.declared.cmp.Ordering.{Ordering}
use Rattle.std.specs.Ordering.{ordering_then, int_cmp}
use Rattle.zones.specs.Containment.{larger}
use Rattle.zones.specs.Fractions.{no_limit, lowered_by}
use Rattle.zones.specs.Pairs.{compare_of, is_at_most, is_equal, threshold_of}
use Rattle.zones.specs.Ranges.{Bounded, last_counts}
use Rattle.runs.specs.Limits.{scale}
use Rattle.slots.specs.declared.containment.Inside.{Inside}
use Rattle.slots.specs.Slots.{m_at, p_at, slot_pair}

-- how pair t of `new` stands to that of `old`: the comparison of pairs, on their numbers
unfoldable pub compare_numbers : List ℤ → List ℤ → ℕ → Ordering
compare_numbers new old t =
    ordering_then (int_cmp (get_or new (m_at t) (pos 0)) (get_or old (m_at t) (pos 0)))
    (int_cmp (get_or new (p_at t) (pos 0)) (get_or old (p_at t) (pos 0)))

-- each of the first t pairs passes
unfoldable pub every_pair : ℕ → (ℕ → Bool) → Bool
every_pair zero passes = true
every_pair (suc t) passes = cond (passes t) (every_pair t passes) false

-- each pair of `new` is the smaller or equal beside that of `old`
abbrev pub within_slots : List ℤ → List ℤ → ℕ → Bool
within_slots new old t = every_pair t (λ i. is_at_most (compare_numbers new old i))

-- each pair of `new` equals that of `old`
abbrev pub equal_slots : List ℤ → List ℤ → ℕ → Bool
equal_slots new old t = every_pair t (λ i. is_equal (compare_of (slot_pair new i) (slot_pair old i)))

-- the lowest threshold of a test that holds: the pairs of `new` were chosen
unfoldable pub inside_slots : List ℤ → List ℤ → ℕ → Fraction
inside_slots new old zero = no_limit
inside_slots new old (suc t) = lowered_by (inside_slots new old t) (threshold_of (slot_pair new t) (slot_pair old t))

abbrev pub inside_of : List ℤ → List ℤ → ℕ → Inside
inside_of new old t = record { below = inside_slots new old t; equal = equal_slots new old t }

unfoldable pub largest_slot : List ℤ → ℕ → ℕ
largest_slot s zero = 0
largest_slot s (suc t) = larger (largest_slot s t) (slot_pair s t).p

-- ---- the numbers are there, and no error count is negative
pub record Readable (s : List ℤ) (pairs : ℕ) : Type 0 where
  pub long : m_at pairs ≤ length s
  pub counts : (t : ℕ) → t < pairs → pos 0 ≤ℤ get_or s (p_at t) (pos 0)

-- two slots in range with a test that holds
pub record ComparableSlots (new old : List ℤ) (pairs : ℕ) : Type 0 where
  pub new_reads : Readable new pairs
  pub old_reads : Readable old pairs
  pub new_bounded : (t : ℕ) → t < pairs → Bounded scale last_counts (slot_pair new t)
  pub old_bounded : (t : ℕ) → t < pairs → Bounded scale last_counts (slot_pair old t)
  pub inside : within_slots new old pairs ≡ true
