-- `guarded` meets its contract: the zone is read from its slot, and the guard is met on it with no limit on the error.
-- Assumes nothing.
use mathlib.Core.Path.{◌≡◌, sym, ap, ◌∙◌}
use native.Mathlib.Omega.{arith}
use Rattle.runs.proofs.Contradictions.{true_false}
use Rattle.automata.specs.Automata.{guard_of}
use Rattle.automata.proofs.fields.Counting.{size≡}
use Rattle.slots.specs.Slots.{zone_of}
use Rattle.run_writer.specs.Crossing.{zone_in, guarded_by}
use Rattle.search.proofs.successor.Stepping.{meets, asks_limits, guard_scale}
use Rattle.run_writer.proofs.crossing.Along.{zone_sized}
use Rattle.run_writer.proofs.crossing.Jump.guarded.Goals as goal
use Rattle.run_writer.proofs.crossing.Jump.guarded.Goals.{After-decode}

pub decode-requires : goal.decode-requires
decode-requires c =
    let j = c.args.self in
    let n = size≡ j.automaton.counted in
    record {
      size_bound = rw n (omega (arith, j.automaton.accepted.complete.clocks≤), j.leaves.long);
      counts_natural = rw n j.leaves.natural;
    }

pub guard-requires : goal.guard-requires
guard-requires c = c.args.self.leaves.crosses.edge

-- ---- with the zone that was read
zone≡ : (c : After-decode) → c.decode.result ≡ zone_in c.args.self.automaton.bytes.now c.args.self.slot.now
zone≡ c = c.decode.ensures ∙ ap (λ n. zone_of n c.args.self.slot.now) (size≡ c.args.self.automaton.counted)

pub narrow-requires : goal.narrow-requires
unfolding guard_of
narrow-requires c =
    let a = c.args.self.automaton.accepted in
    let x = c.args.self.leaves.crosses in
    record {
      on_scale = rw (zone≡ (goal.at.narrow-requires c).After-decode)
          (asks_limits c.guard.ensures _ _ (guard_scale _ a _ x.edge) (omega arith) (zone_sized _ a _ x.edge _ x.sound));
      settled = λ e. true_false (sym e);
    }

pub returns : goal.returns
unfolding guard_of
returns c =
    let j = c.args.self in
    meets c.guard.ensures _ c.narrow.ensures ∙ ap (guarded_by j.automaton.bytes.now j.edge) (zone≡ (goal.at.returns c).After-decode)
