-- The walk of `are_sound`: the records that are left are sound where all of them are.
use mathlib.Core.Path.{◌≡◌}
use lib.ListN.{length}
use Rattle.cache.specs.Caches.{sound_records}
use Rattle.cache.specs.Walks.{left}
use Rattle.cache.proofs.records.Records.are_sound.Given as goal

abbrev pub invariant-loop-record : goal.invariant-loop-record
invariant-loop-record l = sound_records l.self.layout l.self.bytes.now ≡ sound_records l.initial.self.layout l.initial.self.bytes.now

abbrev pub decreases-loop-record : goal.decreases-loop-record
decreases-loop-record l = length (left l.self)
