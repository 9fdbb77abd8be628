-- `seen_with` meets its contract: a pair with m below 0 lowers by its threshold, any other changes nothing.
use native.Mathlib.Omega.{arith}
use mathlib.Core.Path.{ap, ◌∙◌}
use Rattle.zones.specs.declared.fraction.Fraction.{Fraction}
use Rattle.zones.specs.Fractions.{lowered_by}
use borrow.Author.Rules.{rules}
use lib.IntN.{pos}
use mir.Syntax.{w64}
use mir.Val.{SFits}
use mir.Facts.{to_z-of_z}
use Rattle.runs.specs.Limits.{scale}
use Rattle.zones.specs.Ranges.{step_counts, widest}
use Rattle.zones.proofs.pairs.Integers.{int, lt_z_true}
use Rattle.zones.proofs.ranges.Ranges.{diagonal_small, diagonal_narrow, here}
use Rattle.zones.proofs.reductions.Progress.{seen_below, seen_above}
use Rattle.zones.proofs.reduction.seen_with.Goals as goal
use Rattle.zones.proofs.reduction.seen_with.Goals.{Start}

-- m, as the code holds it
fits : (c : Start) → SFits w64 c.args.q.m
fits c = search rules

pub threshold-requires : goal.threshold-requires
threshold-requires c =
    let l = lt_z_true c.args.q.m (pos 0) (rw (to_z-of_z (fits (goal.at.threshold-requires c).Start)) at c.if-q-lt0.true) in
    (diagonal_small c.requires.spread, record { m = omega arith; p = omega arith }, omega (arith, int))

pub lowered-requires : goal.lowered-requires
lowered-requires c =
    let l = lt_z_true c.args.q.m (pos 0) (rw (to_z-of_z (fits (goal.at.lowered-requires c).Start)) at c.if-q-lt0.true) in (
      rw c.unwrap_or-before.ensures c.requires.safe,
      rw c.threshold.ensures (diagonal_narrow widest widest scale step_counts here _ c.requires.spread (omega (arith, int))),
    )

pub returns-then-q-lt0 : goal.returns-then-q-lt0
returns-then-q-lt0 c =
    seen_below _ _ (rw (to_z-of_z (fits (goal.at.returns-then-q-lt0 c).Start)) at c.if-q-lt0.true)
    c.threshold.ensures (c.lowered.ensures ∙ ap (λ (f : Fraction). lowered_by f c.threshold.result) c.unwrap_or-before.ensures)

pub returns : goal.returns
returns c = seen_above _ _ (rw (to_z-of_z (fits (goal.at.returns c).Start)) at c.if-q-lt0.false)
