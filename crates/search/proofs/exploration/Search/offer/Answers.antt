-- What has entered a location is empty, at the target, or judged: each is the definition's offer.
-- Assumes nothing.
use mathlib.Core.Path.{ap, ◌∙◌}
use Rattle.std.specs.Prelude.{is_some}
use Rattle.search.proofs.exploration.Judging.{lowers, gives_empty, gives_target, gives_judged}
use Rattle.search.proofs.exploration.Search.offer.Goals as goal

pub returns-in-Some : goal.returns-in-Some
returns-in-Some c =
    λ p. gives_empty _ _ _ _ _ c.args.r p (ap is_some c.in-Some.is)
    (c.emptied.ensures ∙ lowers c.args.turn c.args.r.work.fraction c.in-Some.is)

pub returns-then-l-target : goal.returns-then-l-target
returns-then-l-target c = λ p. gives_target _ _ _ _ _ c.args.r p (ap is_some c.in_default.is) (c.if-l-target.true ∙ c.target.ensures)

pub returns : goal.returns
returns c = λ p. gives_judged _ _ _ _ _ c.args.r p (ap is_some c.in_default.is) c.judge.ensures
