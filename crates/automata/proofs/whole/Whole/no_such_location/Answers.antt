-- An edge ends at what is no location: std's `any` over the edges, from the last on.
use mathlib.Core.Path.{sym, ◌∙◌}
use Rattle.std.proofs.Common.{rules, tests}
use Rattle.automata.proofs.accepting.Some.{some_from_last}
use Rattle.automata.proofs.fields.Counting.{counted}
use Rattle.automata.proofs.whole.Whole.no_such_location.Goals as goal

pub returns-else-misplaced : goal.returns-else-misplaced
returns-else-misplaced c =
    let w = c.args.self in
    rw (sym (rw w.read at c.misplaced.ensures) ∙ c.if-misplaced.false)
    (some_from_last _ c.any.ensures.ran (counted w.read).edges≡ (λ x b q k. search (rules, tests)))
