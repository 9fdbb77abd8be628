-- The examples of the judge, computed from the definitions.
-- Assumes nothing.
use mathlib.Core.Path.{refl}
use Rattle.encoding.specs.Numbers.{be16_at, be32_at}
use Rattle.automata.specs.Automata.{invariant_in, edge_in, in_byte, firsts, reset_set}
use Rattle.automata.specs.Refusals.{some, out_of_range_at, refusal_of}
use Rattle.run_judge.specs.Clocks.{holds, within_at, waited, reset_by}
use Rattle.run_judge.specs.Examples.{Shown}
use Rattle.run_judge.specs.Judging.{waits_from, jumps_from, begins, passes_to, judgement_of}
use Rattle.run_judge.specs.Moves.{arrived, first_move, wait_move, edge_move, jump_move}
use Rattle.run_judge.specs.Numbers.{capped, count_of}

pub shown : Shown
unfolding be16_at be32_at invariant_in edge_in in_byte firsts reset_set some out_of_range_at refusal_of holds
    within_at waited reset_by arrived first_move wait_move edge_move jump_move capped count_of waits_from jumps_from begins passes_to judgement_of
shown = record {
  there = refl;
  followed = refl;
  soon = refl;
  late = refl;
  long = refl;
  stays = refl;
  none = refl;
  odd = refl;
  negative = refl;
  above = refl;
  empty = refl;
  largest = refl;
  backwards = refl;
  no_edge = refl;
  astray = refl;
  reset = refl;
  at_once = refl;
  refused = refl;
}
