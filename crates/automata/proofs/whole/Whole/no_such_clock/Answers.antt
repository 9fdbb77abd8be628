-- A reset byte names a clock that is not there: std's `any` over the edges, from the last on.
use Rattle.std.proofs.Common.{rules, tests}
use Rattle.automata.proofs.accepting.Some.{some_from_last}
use Rattle.automata.proofs.fields.Counting.{counted}
use Rattle.automata.proofs.whole.Whole.no_such_clock.Goals as goal

pub returns : goal.returns
returns c = some_from_last _ c.any.ensures.ran (counted c.args.self.read).edges≡ (λ x b q k. search (rules, tests))
