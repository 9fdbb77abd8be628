-- One of the limits at a place is off the scale: std's `any` over the clocks.
use Rattle.std.proofs.Common.{rules, tests}
use Rattle.automata.specs.Refusals.{out_of_range_at}
use Rattle.automata.proofs.accepting.Some.{some_from_any}
use Rattle.automata.proofs.fields.Counting.{counted}
use Rattle.automata.proofs.whole.Whole.out_of_range_at.Goals as goal

pub returns : goal.returns
unfolding out_of_range_at
returns g c mayLack gives = some_from_any c.any.ensures.ran (counted c.args.self.read).clocks≡ (λ x b q k. search (rules, tests))
