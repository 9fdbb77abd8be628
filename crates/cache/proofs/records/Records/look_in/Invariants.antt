-- The walk of `look_in`: looking among the records that are left is looking among all of them.
use mathlib.Core.Path.{◌≡◌}
use Rattle.cache.specs.Lookups.{look_up}
use Rattle.cache.specs.Walks.{left}
use Rattle.cache.proofs.records.Records.look_in.Given as goal

abbrev pub invariant-loop-record : goal.invariant-loop-record
invariant-loop-record l =
    let w = l.record-iterator in
    look_up w.layout (left w) l.automaton ≡ look_up l.self.layout (left l.self) l.automaton
