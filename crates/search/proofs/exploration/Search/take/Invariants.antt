-- The loop of `take`: what it keeps, and what falls.
use Prim.Native.Nat.{suc, ◌-◌}
use mathlib.Core.Path.{◌≡◌}
use mathlib.Core.List.{List}
use lib.IntN.{ℤ}
use Rattle.automata.specs.Automata.{clocks}
use Rattle.search.specs.Exploring.{Live}
use Rattle.search.specs.Instance.{ZoneState}
use Rattle.slots.specs.Slots.{slot_length}
use Rattle.search.proofs.exploration.Taking.{Onward}
use Rattle.search.proofs.exploration.Search.take.Given as goal

abbrev pub invariant-loop-next : goal.invariant-loop-next
invariant-loop-next l =
    (l.size ≡ suc (clocks l.self.automaton.now.bytes.now)) × (l.stride ≡ slot_length (suc (clocks l.self.automaton.now.bytes.now))) ×
    ((s₀ : List ℤ) (q₀ : ZoneState) → Live l.self.automaton.now.bytes.now l.self.capacity s₀ q₀ l.initial.store l.initial.t
    → Onward l.self.automaton.now.bytes.now l.self.capacity s₀ q₀ l.next l.store l.t)

abbrev pub decreases-loop-next : goal.decreases-loop-next
decreases-loop-next l = l.self.capacity - l.next
