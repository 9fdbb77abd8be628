-- The loop of `inside_of`: the lowest threshold of the pairs before t, and whether they are all equal.
use mathlib.Core.Path.{◌≡◌}
use Rattle.zones.specs.Ranges.{Fits32}
use Rattle.slots.specs.Containing.{inside_slots, equal_slots}
use Rattle.slots.proofs.containment.inside_of.Given as goal

abbrev pub invariant-loop-t : goal.invariant-loop-t
invariant-loop-t l = (l.below ≡ inside_slots l.new l.old l.t) × Fits32 l.below × (l.equal ≡ equal_slots l.new l.old l.t)
