-- `raise` meets its contract: what is done is the upper bounds of the clocks passed.
-- Assumes nothing.
use mathlib.Core.Path.{refl, ap, ◌∙◌}
use native.Mathlib.Omega.{arith}
use Rattle.zones.specs.Pairs.{at_most}
use Rattle.zones.specs.Zones.{raise_limits}
use Rattle.zones.proofs.places.Limits.{raise_more, raise_all}
use Rattle.automata.specs.Automata.{limits_at}
use Rattle.automata.specs.declared.fields.Limits.{Limits}
use Rattle.search.proofs.successor.raise.Goals as goal

pub loop-x-init : goal.loop-x-init
unfolding raise_limits
loop-x-init c = (refl, refl)

pub loop-x-preserved : goal.loop-x-preserved
unfolding limits_at
loop-x-preserved c =
    let inv = c.loop-x.invariant in
    let bound = c.at_most.ensures ∙ ap (λ (l : Limits). at_most l.hi) c.limits.ensures in
    (raise_more _ _ _ (omega arith) inv.0 bound, inv.1)

pub returns : goal.returns
returns c =
    let inv = c.loop-x.invariant in
    (λ i. record { zone = c.loop-x.work.zone; fraction = inv.1 i }) ∙ raise_all _ _ c.args.work.now (omega arith) inv.0
