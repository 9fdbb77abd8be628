-- `is_within` meets its contract.
-- Assumes nothing.
use borrow.Author.Rules.{rules}
use Rattle.std.proofs.iter.runs.Sources.{ranges}
use Rattle.run_judge.proofs.clocks.Showing.{all_within}
use Rattle.run_judge.proofs.state.State.is_within.Goals as goal

pub returns : goal.returns
returns c = all_within _ _ _ _ (search (rules, ranges))
