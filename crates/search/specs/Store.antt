-- "The store is lent 32-bit signed numbers": its slots, and how many there are. `n` is the number of indices, clocks + 1.
use Rattle.std.specs.Prelude.{ℕ, ◌/◌, cond, List, [], ◌∷◌, ◌++◌, ltb, ℤ, length, drop}
use Rattle.zones.specs.declared.pair.Pair.{Pair}
use Rattle.reachability.specs.Search.{Came, first_zone, by_edge, Node}
use Rattle.slots.specs.Slots.{slot_length, no_origin, origin_along, head_of, slot_of}
use Rattle.slots.specs.declared.slot.Origin.{Origin}

-- where a zone came from, as its slot tells it
unfoldable pub origin_of : Came → Origin
origin_of first_zone = no_origin
origin_of (by_edge parent edge) = origin_along parent edge

-- "Slots stand in order of keeping"
unfoldable pub slots_of : ℕ → List (Node (List Pair)) → List ℤ
slots_of n [] = []
slots_of n (k ∷ ks) = slot_of n (head_of k.at (origin_of k.came)) k.zone ++ slots_of n ks

-- "all numbers past the last kept zone are unchanged"
unfoldable pub store_of : ℕ → List (Node (List Pair)) → List ℤ → List ℤ
store_of n ks s = slots_of n ks ++ drop (length (slots_of n ks)) s

-- "At most 2,147,483,647 slots are used."
abbrev pub most_slots : ℕ
most_slots = 2147483647

unfoldable pub capacity_of : ℕ → ℕ → ℕ
capacity_of n amount = cond (ltb most_slots (amount / slot_length n)) most_slots (amount / slot_length n)
