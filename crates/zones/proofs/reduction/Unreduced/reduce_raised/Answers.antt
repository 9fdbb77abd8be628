-- `Unreduced::reduce_raised` meets its contract: all that the definition's other comparisons do is leave the zone as it is.
use mathlib.Core.Path.{◌≡◌, refl, sym, subst, ◌∙◌}
use native.Mathlib.Omega.{arith}
use lib.ListN.{length}
use Rattle.zones.specs.declared.zone.Work.{Work}
use Rattle.zones.specs.Zones.{pair_at}
use Rattle.zones.specs.Reductions.{row_steps}
use Rattle.zones.specs.Settled.{Raised}
use Rattle.zones.proofs.settled.Columns.{column_step, column_first, zero_row, column_next, column_live}
use Rattle.zones.proofs.ranges.Ranges.{TurnReady, turn_of}
use Rattle.zones.proofs.reductions.Rounds.{first_of, first_is, column_is, round_all}
use Rattle.zones.proofs.reductions.Progress.{reduced_next, reduced_end}
use Rattle.zones.proofs.reduction.Unreduced.reduce_raised.Goals as goal
use Rattle.zones.proofs.reduction.Unreduced.reduce_raised.Goals.{In-loop-i}

pub loop-k-init : goal.loop-k-init
loop-k-init c =
    let l = c.requires in (
      c.args.self.ready.n≤,
      omega arith,
      l.some,
      column_first _ c.args.self.ready.n≤ l.base l.settled c.args.self.work l.raised l.some,
      λ b h r. r,
    )

pub loop-i-init : goal.loop-i-init
loop-i-init c =
    let d = c.requires in (
      omega arith,
      omega arith,
      omega arith,
      d.some,
      zero_row _ c.args.self.ready.n≤ d.base d.settled _ (c.loop-k.invariant.4 d.base d.settled d.raised) _ (omega arith),
      λ b h r. r,
    )

-- past the three reads: what the comparison asks of the pairs and the fraction
turn : (c : In-loop-i) → let s : Work = c.loop-i.work in
    TurnReady s.fraction (first_of s.zone c.loop-i.i) (pair_at s.zone c.loop-i.i c.loop-k.k) (first_of s.zone c.loop-k.k)
unfolding row_steps
turn c = let size : length c.args.self.work.zone ≡ 81 = c.well_formed.0.1.1.0.1.1.0.1.0.1 in
    rw (first_is _ _, first_is _ _) (turn_of _ _ size c.args.self.ready _ _ (omega arith)
    c.loop-k.invariant.3 _ 0 (omega arith) c.requires.some _ _ c.loop-i.invariant.4 refl)

pub sum-requires : goal.sum-requires
unfolding pair_at
sum-requires c = (turn (goal.at.sum-requires c).In-loop-i).adds

pub smaller-choice-requires : goal.smaller-choice-requires
unfolding pair_at
smaller-choice-requires c = rw c.sum.ensures (turn (goal.at.smaller-choice-requires c).In-loop-i).compares

pub lower-requires : goal.lower-requires
unfolding pair_at
lower-requires c = rw (c.smaller-choice.ensures, c.sum.ensures) (turn (goal.at.lower-requires c).In-loop-i).lowers

pub loop-i-preserved : goal.loop-i-preserved
unfolding pair_at
loop-i-preserved c =
    let d = c.requires in
    let now : Work = c.loop-i.work in
    let step = column_is now _ _ _ _ _ c.sum.ensures c.smaller-choice.ensures c.lower.ensures in
    let was = c.loop-k.invariant.4 d.base d.settled d.raised in
    let o = c.loop-i.invariant.5 d.base d.settled was in (
      omega arith,
      omega arith,
      omega arith,
      omega arith,
      step ∙ column_next _ c.args.self.ready.n≤ d.base d.settled _ now o _ _ (omega arith) (omega arith) c.loop-i.invariant.4,
      λ b h r.
          subst (Raised _ b) (sym step) (column_step _ c.args.self.ready.n≤ b h now (c.loop-i.invariant.5 b h r) _ _ (omega arith) (omega arith)),
    )

pub loop-k-preserved : goal.loop-k-preserved
loop-k-preserved c =
    let d = c.requires in
    let was = c.loop-k.invariant.4 d.base d.settled d.raised in (
      omega arith,
      omega arith,
      omega arith,
      reduced_next _ _ _ _ c.loop-k.invariant.3 _ (round_all _ _ _ (omega arith) c.loop-i.invariant.4)
          (column_live _ c.args.self.ready.n≤ d.base d.settled _ (c.loop-i.invariant.5 d.base d.settled was)),
      λ b h r. c.loop-i.invariant.5 b h (c.loop-k.invariant.4 b h r),
    )

pub returns : goal.returns
returns c = reduced_end _ _ _ _ _ c.loop-k.invariant.3 (omega arith)
