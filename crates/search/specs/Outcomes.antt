-- The outcome of a search, as the code has it: the definition's for each of its cases.
use Rattle.std.specs.Prelude.{ℕ, ◌+◌, ◌*◌, ◌≤◌, Bool, true, false, ◌≡◌, pos, negsuc}
use Rattle.reachability.specs.Search as definition
use Rattle.automata.specs.Numbers.{number}
use Rattle.automata.specs.declared.refusals.Refusal.{Refusal}
use Rattle.slots.specs.declared.slot.Origin.{Origin}
use Rattle.slots.specs.declared.containment.Inside.{Inside}
use Rattle.zones.specs.Integers.{up}
use Rattle.search.specs.Store.{origin_of, most_slots}
use Rattle.zones.specs.declared.fraction.Fraction.{Fraction}
use Rattle.zones.specs.Fractions.{lowered_by}
use Rattle.search.specs.declared.outcome.Dropped.{Dropped}
use Rattle.search.specs.declared.outcome.Turn.{Turn}
use Rattle.search.specs.declared.outcome.Outcome.{Outcome}
use Rattle.search.specs.declared.outcome.Outcome.TheVariants.{Going, Reached, Refused}

-- where a zone came from, by its origin
unfoldable pub came_of : Origin → definition.Came
came_of o = elim o.parent [ pos j ↦ definition.by_edge j (up o.edge) | negsuc n ↦ definition.first_zone ]

unfoldable pub outcome_of : Outcome Refusal → definition.Outcome
outcome_of Going = definition.going
outcome_of (Reached o) = definition.ended (definition.reached (came_of o))
outcome_of (Refused k) = definition.ended (definition.refused (number k))

-- the origin told is one that a slot tells
abbrev pub Honest : Outcome Refusal → Type 0
Honest Going = Unit {0}
Honest (Reached o) = origin_of (came_of o) ≡ o
Honest (Refused k) = Unit {0}

-- a turn of the search, which refuses by the table
abbrev pub SearchTurn : Type 0
SearchTurn = Turn Refusal

-- ---- the turns after t, the exact fraction being `exact`
-- "counted as again when every pair equals that of the kept zone, and as inside otherwise"
unfoldable pub dropped_with : Dropped → Bool → Dropped
dropped_with d true = record { again = d.again + 1; inside = d.inside }
dropped_with d false = record { again = d.again; inside = d.inside + 1 }

-- an empty zone: the safe fraction is lowered by `below`
abbrev pub emptied_by : SearchTurn → Fraction → Fraction → SearchTurn
emptied_by t exact below =
    record { count = t.count; exact = exact; safe = lowered_by t.safe below; dropped = t.dropped; outcome = Going }

-- a zone inside a kept one: both are
abbrev pub contained_by : SearchTurn → Fraction → Inside → SearchTurn
contained_by t exact inside =
    record {
      count = t.count;
      exact = lowered_by exact inside.below;
      safe = lowered_by t.safe inside.below;
      dropped = dropped_with t.dropped inside.equal;
      outcome = Going;
    }

-- a zone that is kept
abbrev pub kept_by : SearchTurn → Fraction → SearchTurn
kept_by t exact = record { count = t.count + 1; exact = exact; safe = t.safe; dropped = t.dropped; outcome = Going }

-- a zone at the target, of the origin o
abbrev pub reached_by : SearchTurn → Fraction → Origin → SearchTurn
reached_by t exact o = record { count = t.count; exact = exact; safe = t.safe; dropped = t.dropped; outcome = Reached o }

-- a refusal by k
abbrev pub refused_by : SearchTurn → Fraction → Refusal → SearchTurn
refused_by t exact k = record { count = t.count; exact = exact; safe = t.safe; dropped = t.dropped; outcome = Refused k }

-- ---- no more zones were dropped than were offered: one, and of each kept zone at most 256. So no count overflows
pub record Few (offers : ℕ) (d : Dropped) : Type 0 where
  pub few : d.again + d.inside ≤ offers

abbrev pub most_offers : ℕ
most_offers = most_slots * 256

-- whether a search has stopped
unfoldable pub has_ended : definition.Outcome → Bool
has_ended definition.going = false
has_ended (definition.ended x) = true
