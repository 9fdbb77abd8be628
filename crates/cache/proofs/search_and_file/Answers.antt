-- `search_and_file` meets its contract: what is found fits a record.
use native.Mathlib.Omega.{arith}
use Rattle.search.specs.Answers.{answer_in}
use Rattle.cache.proofs.layouts.Written.{given_fits}
use Rattle.cache.proofs.search_and_file.Goals as goal

pub invariant_of-entry : goal.invariant_of-entry
unfolding answer_in
invariant_of-entry c =
    let given = rw c.in_ok-answer.was at c.search.ensures.promised.given in
    record { laid = c.requires.laid; fits = given_fits _ _ given (omega arith) }
