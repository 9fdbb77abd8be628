-- `meet` meets its contract: what is done is the limits of the clocks passed, met one by one; while none lowered an entry, the square is as it was.
-- Assumes nothing.
use Prim.Native.Nat.{ℕ}
use mathlib.Core.Path.{◌≡◌, refl, sym, ap, ◌∙◌}
use native.Mathlib.Omega.{arith}
use lib.Dec.{eqb}
use mathlib.Core.Bool.{cond}
use Rattle.std.specs.Prelude.{None, Some}
use Rattle.zones.specs.Zones.{meet_limits}
use Rattle.runs.proofs.Contradictions.{true_false}
use Rattle.automata.specs.Automata.{limits_at, no_upper}
use Rattle.automata.specs.Opened.{upper_of}
use Rattle.automata.specs.declared.fields.Limits.{Limits}
use Rattle.search.proofs.successor.Stepping.{turn_ready, turn_met, turn_same}
use Rattle.search.proofs.successor.meet.Goals as goal
use Rattle.search.proofs.successor.meet.Goals.{then-is_below, else-is_below}

-- the upper limit, as the code has it
given : {h k : ℕ} → h ≡ k → upper_of h ≡ cond (eqb k no_upper) None (Some k)
unfolding upper_of
given e = rw e refl

pub loop-x-init : goal.loop-x-init
unfolding meet_limits
loop-x-init c = (refl, λ e. (e, refl))

pub meet-met-requires : goal.meet-met-requires
unfolding limits_at
meet-met-requires c =
    let limits = c.limits-limits.ensures in
    turn_ready _ _ c.args.w c.loop-x.work c.args.constraint.now.there.0 c.requires.on_scale.0
    c.requires.on_scale.1 c.loop-x.x (omega arith) (omega arith) c.loop-x.invariant.0
    (ap (λ (l : Limits). l.lo) limits) (c.upper.ensures ∙ given (ap (λ (l : Limits). l.hi) limits))

pub loop-x-preserved : goal.loop-x-preserved
unfolding limits_at
loop-x-preserved c =
    let limits = c.limits-limits.ensures in
    let below = c.is_below.ensures in (
      turn_met _ _ c.args.w c.loop-x.work c.args.constraint.now.there.0 c.requires.on_scale.0
          c.requires.on_scale.1 c.loop-x.x (omega arith) (omega arith) c.loop-x.invariant.0
          (ap (λ (l : Limits). l.lo) limits) (c.upper.ensures ∙ given (ap (λ (l : Limits). l.hi) limits)) c.meet-met.ensures,
      λ e. elim c.if-is_below.branch [
        | then-is_below w ↦ true_false (sym e ∙ w.same-is)
        | else-is_below w ↦
            let s = c.loop-x.invariant.1 (sym w.same-is ∙ e) in (
              s.0,
              turn_same _ _ _ c.limits-limits.result.lo c.upper.result c.meet-met.ensures (sym below ∙ w.if-is_below.false) ∙ s.1,
            )
      ],
    )
