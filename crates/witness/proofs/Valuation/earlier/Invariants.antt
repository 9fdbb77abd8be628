-- The loop of `earlier`: the clocks before x are earlier by the wait.
use Prim.Native.Nat.{◌-◌, ◌≤◌}
use mathlib.Core.Path.{◌≡◌}
use Rattle.witness.specs.Witnesses.{clocks_of, places_of}
use Rattle.witness.proofs.Valuation.earlier.Given as goal

abbrev pub invariant-loop-x : goal.invariant-loop-x
invariant-loop-x l = (l.x - 1 ≤ l.size - 1) × (l.clocks ≡ places_of (λ y. clocks_of l.self.clocks y - l.wait) (l.x - 1))
