-- A guard has a limit off the scale: std's `any` over the edges, from the last on.
use Rattle.std.proofs.Common.{rules, tests}
use Rattle.automata.proofs.accepting.Some.{some_from_last}
use Rattle.automata.proofs.fields.Counting.{counted}
use Rattle.automata.proofs.whole.Whole.guard_out_of_range.Goals as goal

pub returns : goal.returns
returns c = some_from_last _ c.any.ensures.ran (counted c.args.self.read).edges≡ (λ x b q k. search (rules, tests))
