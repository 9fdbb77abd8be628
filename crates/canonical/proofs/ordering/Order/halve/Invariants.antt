-- The loop of `halve`: what it keeps, and what falls.
use Prim.Native.Nat.{◌-◌}
use lib.ListN.{length}
use Rattle.canonical.proofs.ordering.Placing.{Between}
use Rattle.canonical.proofs.ordering.Order.halve.Given as goal

abbrev pub invariant-loop-lo : goal.invariant-loop-lo
invariant-loop-lo l = Between l.self.edges.size l.self.edges.bytes.now l.self.numbers.items (length l.self.numbers.items) l.x l.lo l.hi

abbrev pub decreases-loop-lo : goal.decreases-loop-lo
decreases-loop-lo l = l.hi - l.lo
