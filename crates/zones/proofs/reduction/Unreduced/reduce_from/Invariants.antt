-- The loops of `reduce_from`: what they keep.
use Prim.Native.Nat.{◌≤◌, ◌<◌}
use mathlib.Core.Path.{◌≡◌}
use Rattle.std.specs.Prelude.{None}
use Rattle.zones.specs.Reductions.{row_steps, round_steps, non_empty, reduce_steps}
use Rattle.zones.proofs.reductions.Progress.{seen_in}
use Rattle.zones.proofs.reduction.Unreduced.reduce_from.Given as goal

abbrev pub invariant-loop-j : goal.invariant-loop-j
invariant-loop-j l = (l.self.size ≤ 9) × (l.k < l.self.size) × (l.i < l.self.size) × (l.work ≡ row_steps l.k l.i l.j l.initial.work)

abbrev pub invariant-loop-i : goal.invariant-loop-i
invariant-loop-i l = (l.self.size ≤ 9) × (l.k < l.self.size) × (l.work ≡ round_steps l.self.size l.k l.i l.initial.work)

abbrev pub invariant-loop-d : goal.invariant-loop-d
invariant-loop-d l = (l.self.size ≤ 9) × (l.emptied ≡ seen_in l.d l.work)

abbrev pub invariant-loop-k : goal.invariant-loop-k
invariant-loop-k l = (l.self.size ≤ 9) × (reduce_steps l.self.size l.k l.initial.work ≡ non_empty l.work) × (l.emptied ≡ None)
