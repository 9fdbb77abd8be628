-- "location, then pairs row by row, m before p"; "Each slot gains two numbers after the location .., so a slot takes 3 + 2(n + 1)²."
-- A slot as one codec: its length, how it is written, and how it is read.
-- Here `n` is the number of indices, clocks + 1; a place k of a zone's square is row k / 9 and column k % 9.
use Rattle.std.specs.Prelude.{ℕ, zero, suc, ◌+◌, ◌-◌, ◌*◌, ◌/◌, ◌%◌, ◌<◌, ◌≡◌, Bool, cond, List, [], ◌∷◌, ◌++◌, length, ltb, get_or, set}
use Rattle.std.specs.Prelude.{replicate, ℤ, pos, negsuc}
use Rattle.std.specs.Int.Signed.{non_neg}
use Rattle.zones.specs.declared.pair.Pair.{Pair}
use Rattle.zones.specs.Containment.{place_of}
use Rattle.zones.specs.Integers.{up}
use Rattle.zones.specs.Pairs.{zero_pair}
use Rattle.slots.specs.declared.slot.Origin.{Origin}

-- ---- what stands where
-- the numbers before the pairs: the location, and where the zone came from
abbrev pub fields : ℕ
fields = 3

abbrev pub slot_length : ℕ → ℕ
slot_length n = fields + 2 * (n * n)

-- the longest slot, of nine indices, and how many numbers it has more than one of n
abbrev pub longest : ℕ
longest = slot_length 9

abbrev pub spare : ℕ → ℕ
spare n = longest - slot_length n

-- where pair t has its m and its p
abbrev pub m_at : ℕ → ℕ
m_at t = fields + 2 * t

abbrev pub p_at : ℕ → ℕ
p_at t = fields + 1 + 2 * t

-- how many pairs the numbers of a slot are
abbrev pub pair_count : List ℤ → ℕ
pair_count s = (length s - fields) / 2

-- ---- writing
-- the pairs among the first k places, row by row
unfoldable pub pairs_to : ℕ → ℕ → List Pair → List Pair
pairs_to n zero z = []
pairs_to n (suc k) z = cond (ltb (k % 9) n) (pairs_to n k z ++ (place_of z k ∷ [])) (pairs_to n k z)

abbrev pub pairs_of : ℕ → List Pair → List Pair
pairs_of n z = pairs_to n (n * 9) z

-- "m before p"
unfoldable pub flat : List Pair → List ℤ
flat [] = []
flat (q ∷ qs) = q.m ∷ pos q.p ∷ flat qs

-- "the slot it came from and the edge taken, counted from 0, both −1 for the first zone"
abbrev pub no_origin : Origin
no_origin = record { parent = negsuc 0; edge = negsuc 0 }

abbrev pub origin_along : ℕ → ℕ → Origin
origin_along parent edge = record { parent = pos parent; edge = pos edge }

abbrev pub is_along : Origin → Bool
is_along o = non_neg o.parent

-- the numbers before the pairs, of a zone of location l
unfoldable pub head_of : ℕ → Origin → List ℤ
head_of l o = pos l ∷ o.parent ∷ o.edge ∷ []

unfoldable pub slot_of : ℕ → List ℤ → List Pair → List ℤ
slot_of n h z = h ++ flat (pairs_of n z)

-- ---- reading
abbrev pub slot_location : List ℤ → ℤ
slot_location s = get_or s 0 (pos 0)

abbrev pub slot_origin : List ℤ → Origin
slot_origin s = record { parent = get_or s 1 (pos 0); edge = get_or s 2 (pos 0) }

-- pair t
abbrev pub slot_pair : List ℤ → ℕ → Pair
slot_pair s t = record { m = get_or s (m_at t) (pos 0); p = up (get_or s (p_at t) (pos 0)) }

-- how many of the first k places count
unfoldable pub counted : ℕ → ℕ → ℕ
counted n zero = 0
counted n (suc k) = cond (ltb (k % 9) n) (suc (counted n k)) (counted n k)

-- the square of a slot's pairs, its first k places; all others are (0, 0)
unfoldable pub square_to : ℕ → ℕ → List ℤ → List Pair
square_to n zero s = replicate 81 zero_pair
square_to n (suc k) s = cond (ltb (k % 9) n) (set (square_to n k s) k (slot_pair s (counted n k))) (square_to n k s)

unfoldable pub zone_of : ℕ → List ℤ → List Pair
zone_of n s = square_to n (n * 9) s

-- ---- a zone of n indices has (0, 0) outside its rows and columns: nothing of it is lost in a slot
pub record Framed (n : ℕ) (z : List Pair) : Type 0 where
  pub frame : (k : ℕ) → k < 81 → (k < n * 9 → k % 9 < n → ⊥) → place_of z k ≡ zero_pair
