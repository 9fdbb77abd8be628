-- The loop of `expand`: what it keeps.
use Prim.Native.Nat.{ℕ}
use mathlib.Core.Path.{◌≡◌}
use mathlib.Core.List.{List}
use lib.IntN.{ℤ}
use Rattle.reachability.specs.Search.{Came}
use Rattle.search.specs.Exploring.{Live}
use Rattle.search.specs.Instance.{ZoneState}
use Rattle.search.proofs.exploration.Expanding.{Between}
use Rattle.search.proofs.exploration.Search.expand.Given as goal

abbrev pub invariant-loop-i : goal.invariant-loop-i
invariant-loop-i l =
    (l.w.zone ≡ l.initial.w.zone) ×
    ((x : Came) (p : List ℕ) (s₀ : List ℤ) (q₀ : ZoneState) → Live l.self.automaton.now.bytes.now l.self.capacity s₀ q₀ l.initial.store l.initial.t →
    Between l.self.automaton.now.bytes.now l.self.capacity l.parent l.l l.initial.w.zone x p s₀ q₀ l.i l.store l.t)
