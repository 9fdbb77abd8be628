-- `Unreduced::reduce_from` meets its contract: what is done is the definition's middle indices, of this one its rows, and of this row its columns.
use Prim.Native.Nat.{ℕ, ◌+◌}
use mathlib.Core.Path.{◌≡◌, sym, ap, ◌∙◌}
use native.Mathlib.Numerals.{add-one}
use native.Mathlib.Omega.{arith}
use Rattle.zones.specs.declared.zone.Work.{Work}
use Rattle.zones.specs.Pairs.{is_less}
use Rattle.zones.specs.Zones.{pair_at}
use Rattle.zones.specs.Reductions.{relaxed, round_steps, seen_with}
use Rattle.zones.proofs.ranges.Ranges.{TurnReady, turn_of, skip_of, diagonal_of}
use Rattle.zones.proofs.reductions.Rounds.{relaxed_is, relaxed_stays, row_next, row_all, round_all}
use Rattle.zones.proofs.reductions.Progress.{seen_in, seen_none, seen_next, reduced_next, stopped_next, is_none, leaves}
use Rattle.zones.proofs.reduction.Unreduced.reduce_from.Goals as goal
use Rattle.zones.proofs.reduction.Unreduced.reduce_from.Goals.{In-loop-j, After-loop-d}
use Rattle.zones.proofs.reduction.Unreduced.reduce_from.Goals.{then-lt, else-lt, then-i-k+else-loop-j-test, else-i-k}

-- past the three reads: what the comparison asks of the pairs and the fraction
turn : (c : In-loop-j) → let s : Work = c.loop-j.work in let k : ℕ = c.loop-k.k in let i : ℕ = c.loop-i.i in let j : ℕ = c.loop-j.j in
    TurnReady s.fraction (pair_at s.zone i j) (pair_at s.zone i k) (pair_at s.zone k j)
turn c =
    turn_of _ _ c.well_formed.0.1.1.0.1.1.0.1.0.1 c.args.self.ready _ _ (omega arith) c.loop-k.invariant.1 _ _ (omega arith) (omega arith) _ _
    c.loop-i.invariant.2 c.loop-j.invariant.3

pub sum-requires : goal.sum-requires
unfolding pair_at
sum-requires c = (turn (goal.at.sum-requires c).In-loop-j).adds

pub smaller-choice-requires : goal.smaller-choice-requires
unfolding pair_at
smaller-choice-requires c = rw c.sum.ensures (turn (goal.at.smaller-choice-requires c).In-loop-j).compares

pub lower-requires : goal.lower-requires
unfolding pair_at
lower-requires c = rw (c.smaller-choice.ensures, c.sum.ensures) (turn (goal.at.lower-requires c).In-loop-j).lowers

pub lower-requires-else-lt : goal.lower-requires-else-lt
unfolding pair_at
lower-requires-else-lt c = rw (c.smaller-choice.ensures, c.sum.ensures) (turn (goal.at.lower-requires-else-lt c).In-loop-j).lowers

pub loop-j-preserved : goal.loop-j-preserved
unfolding pair_at is_less
loop-j-preserved c =
    let now : Work = c.loop-j.work in
    let sum = c.sum.ensures in
    let less = c.lt.ensures in
    let step : c.if-lt.work ≡ relaxed c.loop-k.k c.loop-i.i c.loop-j.j now = elim c.if-lt.branch [
      | then-lt w ↦ w.work-is ∙ relaxed_is now _ _ _ _ _ _ sum c.smaller-choice.ensures w.lower.ensures
      | else-lt w ↦ w.work-is ∙ relaxed_stays now _ _ _ _ _ sum _ c.smaller-choice.ensures w.lower-else-lt.ensures (sym less ∙ w.if-lt.false)
    ] in
    (omega arith, omega arith, omega arith, step ∙ ap (relaxed _ _ _) c.loop-j.invariant.3 ∙ row_next _ _ _ _)

pub loop-i-preserved : goal.loop-i-preserved
loop-i-preserved c =
    let step : c.if-i-k.work ≡ round_steps c.args.self.size c.loop-k.k (c.loop-i.i + 1) c.loop-k.work = elim c.if-i-k.branch [
      | then-i-k+else-loop-j-test w ↦ w.work-is ∙ row_all _ _ _ _ (omega arith) w.loop-j.invariant.3 c.loop-i.invariant.2
      | else-i-k w ↦ w.work-is ∙ skip_of _ _ c.well_formed.0.1.1.0.1.1.0.1.0.1 c.args.self.ready _ _ (omega arith) c.loop-k.invariant.1 _
          w.if-i-k.false c.loop-i.invariant.2
    ] in
    (omega arith, omega arith, step)

pub loop-d-init : goal.loop-d-init
loop-d-init c = (omega arith, c.loop-k.invariant.2 ∙ seen_none _)

pub seen_with-emptied-requires : goal.seen_with-emptied-requires
unfolding pair_at
seen_with-emptied-requires c =
    diagonal_of _ _ c.well_formed.0.1.1.0.1.1.0.1.0.1 c.args.self.ready _ _ (omega arith) c.loop-k.invariant.1 _
    (round_all _ _ _ (omega arith) c.loop-i.invariant.2) _ (omega arith) c.loop-d.invariant.1

pub loop-d-preserved : goal.loop-d-preserved
unfolding pair_at
loop-d-preserved c =
    (omega arith, c.seen_with-emptied.ensures ∙ ap (seen_with _) c.loop-d.invariant.1 ∙ rw add-one (seen_next _ _))

-- the diagonal after the round
seen : (c : After-loop-d) → c.loop-d.emptied ≡ seen_in c.args.self.size c.loop-i.work
seen c = let all : c.loop-d.d ≡ c.args.self.size = omega arith in c.loop-d.invariant.1 ∙ ap (λ (n : ℕ). seen_in n c.loop-i.work) all

pub returns-then-is_some : goal.returns-then-is_some
returns-then-is_some c =
    stopped_next _ _ _ _ c.loop-k.invariant.1 _ (round_all _ _ _ (omega arith) c.loop-i.invariant.2)
    (seen (goal.at.returns-then-is_some c).After-loop-d) (sym c.is_some.ensures ∙ c.if-is_some.true) (omega arith)

pub loop-k-preserved : goal.loop-k-preserved
loop-k-preserved c =
    let none = is_none _ (sym c.is_some.ensures ∙ c.if-is_some.false) in (
      omega arith,
      reduced_next _ _ _ _ c.loop-k.invariant.1 _ (round_all _ _ _ (omega arith) c.loop-i.invariant.2)
          (seen (goal.at.loop-k-preserved c).After-loop-d) ∙ ap (leaves _) none,
      none,
    )
