-- `Bounds::meet` meets its contract: the upper limit where there is one, then the lower.
use mathlib.Core.Path.{◌≡◌, sym, ap, ◌∙◌}
use Rattle.runs.specs.Limits.{scale}
use Rattle.zones.specs.Ranges.{LimitsReady, step_counts, widest}
use Rattle.zones.specs.Zones.{upper_met_if, lower_met, bounds_met}
use Rattle.std.specs.Prelude.{ℕ, Option, None}
use Rattle.zones.proofs.places.Limits.{upper_met_lem, lower_met_lem}
use Rattle.zones.proofs.ranges.Ranges.{both_narrow, here, least_bounded, most_bounded, upper_ready}
use Rattle.zones.proofs.zone.Bounds.meet.Goals as goal
use Rattle.zones.proofs.zone.Bounds.meet.Goals.{Joined-hi, in-Some, in_default}

-- before what is required, so that a body which meets another hi is refused here
joined : (c : Joined-hi) → c.match-hi.met ≡ upper_met_if c.args.hi c.args.self
unfolding upper_met_if
joined c = elim c.match-hi.branch [
  | in-Some w ↦ w.met-is ∙ upper_met_lem _ _ w.at_most.ensures w.smaller-choice.ensures w.lower.ensures ∙ of w.in-Some.is
  | in_default w ↦ w.met-is ∙ of w.in_default.is
]
  where
    of : {o : Option ℕ} → c.args.hi ≡ o → upper_met_if o c.args.self ≡ upper_met_if c.args.hi c.args.self
    of e = ap (λ (o : Option ℕ). upper_met_if o c.args.self) (sym e)

pub lower-requires : goal.lower-requires
lower-requires c =
    let h = c.requires in (
      h.fraction,
      rw (c.smaller-choice.ensures, c.at_most.ensures)
          (both_narrow widest widest scale step_counts here _ _ h.upper (most_bounded _ (rw c.in-Some.is at h.hi≤))),
    )

ready : (c : Joined-hi) → LimitsReady c.match-hi.met c.args.lo None
ready c = rw (joined c) (upper_ready _ _ _ c.requires)

pub lower-requires-2 : goal.lower-requires-2
lower-requires-2 c =
    let h = ready (goal.at.lower-requires-2 c).Joined-hi in (
      h.fraction,
      rw (c.smaller-choice-2.ensures, c.at_least.ensures)
          (both_narrow widest widest scale step_counts here _ _ h.lower (least_bounded _ h.lo≤)),
    )

pub returns : goal.returns
unfolding bounds_met
returns c =
    lower_met_lem _ _ c.at_least.ensures c.smaller-choice-2.ensures c.lower-2.ensures ∙
    ap (lower_met _) (joined (goal.at.returns c).Joined-hi)
