-- For each clock whether it is reset: std's `from_fn`.
use Rattle.std.proofs.Common.{rules, tests}
use Rattle.automata.specs.Automata.{in_byte, reset_set}
use Rattle.automata.proofs.fields.Resets.{firsts_from}
use Rattle.automata.proofs.fields.reset_set.Goals as goal

pub returns : goal.returns
unfolding reset_set
returns c = firsts_from {h = in_byte c.args.b} (λ x b q k. search (rules, tests)) c.from_fn.result 9 c.from_fn.ensures.items
