-- The loops of `reduce_raised`: what they keep, and what falls in each.
use Prim.Native.Nat.{◌≤◌, ◌<◌}
use mathlib.Core.Path.{◌≡◌}
use Rattle.zones.specs.declared.zone.Work.{Work}
use Rattle.zones.specs.Reductions.{round_steps, non_empty, reduce_steps}
use Rattle.zones.specs.Settled.{Settled, Raised}
use Rattle.zones.proofs.reduction.Unreduced.reduce_raised.Given as goal

abbrev pub invariant-loop-i : goal.invariant-loop-i
invariant-loop-i l =
    (l.self.size ≤ 9) × (l.k < l.self.size) × (0 < l.k) × (l.i ≤ l.self.size)
    × (l.work ≡ round_steps l.self.size l.k l.i l.initial.work)
    × ((b : Work) → Settled l.self.size b → Raised l.self.size b l.initial.work
    → Raised l.self.size b l.work)

abbrev pub invariant-loop-k : goal.invariant-loop-k
invariant-loop-k l =
    (l.self.size ≤ 9) × (0 < l.k) × (l.k ≤ l.self.size) ×
    (reduce_steps l.self.size l.k l.initial.work ≡ non_empty l.work)
    × ((b : Work) → Settled l.self.size b → Raised l.self.size b l.initial.work
    → Raised l.self.size b l.work)
