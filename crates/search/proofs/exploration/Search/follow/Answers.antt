-- `follow` meets its contract: the guard is met on a taken zone, which is then empty or arrives.
-- Assumes nothing.
use mathlib.Core.Path.{◌≡◌, sym, ap, ◌∙◌}
use Rattle.std.specs.Prelude.{is_some}
use native.Mathlib.Omega.{arith}
use Rattle.zones.specs.Successors.{meet_of}
use Rattle.runs.proofs.Contradictions.{true_false}
use Rattle.automata.specs.Automata.{clocks, guard_of}
use Rattle.search.proofs.exploration.Arriving.{taken_sized, emptied_fits, follows_none, arrives, arrives_at, arrives_sound, follows_offer}
use Rattle.search.proofs.exploration.Judging.{lowers, going_safe}
use Rattle.search.proofs.successor.Stepping.{meets, asks_limits, guard_scale}
use Rattle.search.proofs.exploration.Search.follow.Goals as goal
use Rattle.search.proofs.exploration.Search.follow.Goals.{After-narrow-met}

pub narrow-met-requires : goal.narrow-met-requires
unfolding guard_of
narrow-met-requires c =
    let a = c.args.self.automaton.now.accepted in
    let hi = c.requires.there.0 in
    record {
      on_scale = asks_limits c.guard.ensures _ _ (guard_scale _ a _ hi) (omega arith)
          (taken_sized _ a _ hi _ c.requires.going.1 c.requires.going.2);
      settled = λ e. true_false (sym e);
    }

-- ---- the guard met
module _ (c : After-narrow-met) where
  met : c.narrow-met.result ≡ meet_of (clocks c.args.self.automaton.now.bytes.now) (guard_of c.args.self.automaton.now.bytes.now c.args.i) c.args.w
  unfolding guard_of
  met = meets c.guard.ensures _ c.narrow-met.ensures

pub emptied-requires : goal.emptied-requires
emptied-requires c =
    let a = c.args.self.automaton.now.accepted in
    let taken = c.requires.going in (
      going_safe _ a taken.0,
      rw c.in-Some.is at (emptied_fits _ a _ c.requires.there.0 _ taken.1 taken.2 (met (goal.at.emptied-requires c).After-narrow-met)),
    )

pub returns-in-Some : goal.returns-in-Some
returns-in-Some c =
    let taken = c.requires.going in
    follows_none _ c.args.self.automaton.now.accepted _ c.requires.there.0 _ taken.1 taken.2
    (met (goal.at.returns-in-Some c).After-narrow-met) (ap is_some c.in-Some.is) _ _ _ _
    (c.emptied.ensures ∙ lowers c.args.turn c.narrow-met.result.work.fraction c.in-Some.is)

pub arrive-requires : goal.arrive-requires
arrive-requires c =
    let a = c.args.self.automaton.now.accepted in
    let taken = c.requires.going in
    let edge = c.requires.there in
    let left = met (goal.at.arrive-requires c).After-narrow-met in
    let live = ap is_some c.in_default.is in
    record {
      there = (arrives_at _ a _ edge.0 _ taken.1 taken.2 left live edge.1, taken.0);
      sized = arrives _ a _ edge.0 _ taken.1 taken.2 left live;
      sound_result = arrives_sound _ a _ edge.0 _ taken.1 taken.2 left live edge.1;
    }

pub returns : goal.returns
returns c =
    let taken = c.requires.going in
    let edge = c.requires.there in
    follows_offer _ c.args.self.automaton.now.accepted _ edge.0 _ taken.1 taken.2 (met (goal.at.returns c).After-narrow-met)
    (ap is_some c.in_default.is) edge.1 _ _ _ _ _ c.arrive.ensures
