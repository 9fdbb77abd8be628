-- The walk of `neither_filed`: neither stands in the records that are left where neither stands in any of them.
use mathlib.Core.Path.{◌≡◌}
use Rattle.cache.specs.Lookups.{neither_filed}
use Rattle.cache.specs.Walks.{left}
use Rattle.cache.proofs.records.Records.neither_filed.Given as goal

abbrev pub invariant-loop-record : goal.invariant-loop-record
invariant-loop-record l =
    let w = l.record-iterator in
    neither_filed w.layout (left w) l.a l.b ≡ neither_filed l.self.layout (left l.self) l.a l.b
