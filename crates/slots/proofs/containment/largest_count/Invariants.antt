-- The loop of `largest_count`: the largest of the pairs before t.
use mathlib.Core.Path.{◌≡◌}
use Rattle.slots.specs.Containing.{largest_slot}
use Rattle.slots.proofs.containment.largest_count.Given as goal

abbrev pub invariant-loop-t : goal.invariant-loop-t
invariant-loop-t l = l.most ≡ largest_slot l.slot l.t
