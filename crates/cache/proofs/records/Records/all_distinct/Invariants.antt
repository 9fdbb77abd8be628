-- The walk of `all_distinct`: the records that are left are distinct where all of them are.
use mathlib.Core.Path.{◌≡◌}
use lib.ListN.{length}
use Rattle.cache.specs.Caches.{distinct}
use Rattle.cache.specs.Walks.{left}
use Rattle.cache.proofs.records.Records.all_distinct.Given as goal

abbrev pub invariant-loop-first : goal.invariant-loop-first
invariant-loop-first l = distinct l.self.layout (left l.self) ≡ distinct l.initial.self.layout (left l.initial.self)

abbrev pub decreases-loop-first : goal.decreases-loop-first
decreases-loop-first l = length (left l.self)
