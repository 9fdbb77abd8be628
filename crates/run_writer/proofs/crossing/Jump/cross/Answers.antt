-- `cross` meets its contract: the edge is fetched, the guard met, and the zone is reset and meets the invariant where it arrives.
-- Assumes nothing.
use Prim.Native.Nat.{suc, ◌+◌, ◌≤◌}
use mathlib.Core.Path.{◌≡◌, refl}
use Rattle.runs.specs.Limits.{scale}
use Rattle.zones.specs.Successors.{meet_of}
use Rattle.zones.specs.Zones.{set_of, reset_of}
use Rattle.automata.specs.Automata.{clocks, invariant_of}
use Rattle.automata.proofs.fields.Counting.{size≡}
use Rattle.search.proofs.successor.Stepping.{arrival_asks, arrival_settled, arrival_met}
use Rattle.witness.specs.Sizes.{Spans}
use Rattle.run_writer.proofs.crossing.Along.{arrived_asks, crossed, squares}
use Rattle.run_writer.proofs.crossing.Jump.cross.Goals as goal
use Rattle.run_writer.proofs.crossing.Jump.cross.Goals.{After-narrow}

pub narrow-requires : goal.narrow-requires
narrow-requires c =
    let j = c.args.self in
    let a = j.automaton.accepted in
    let asks = arrived_asks _ a _ _ j.leaves.crosses c.edge-edge.ensures c.guarded.ensures in
    let k = c.invariant-invariant.ensures in
    let n = j.automaton.counted.clocks≡ in
    record {
      on_scale = arrival_asks _ a _ asks.0 _ asks.1 _ k n c.reset.ensures;
      settled = λ e. arrival_settled _ a _ asks.0 _ asks.1 _ k n c.reset.ensures;
    }

-- ---- with the zone that arrives
met : (c : After-narrow) → let b = c.args.self.automaton.bytes.now in
    c.narrow.result ≡ meet_of (clocks b) (invariant_of b c.edge-edge.result.to)
    (reset_of (suc (clocks b)) (set_of c.edge-edge.result.resets) c.guarded.result.work)
met c =
    let j = c.args.self in
    let a = j.automaton.accepted in
    let asks = arrived_asks _ a _ _ j.leaves.crosses c.edge-edge.ensures c.guarded.ensures in
    arrival_met _ a _ asks.0 _ asks.1 _ c.invariant-invariant.ensures j.automaton.counted.clocks≡ c.reset.ensures c.narrow.ensures

spanned : (c : After-narrow) → let k = c.args.self.automaton.clocks + 1 in
    (k ≤ 9) × Spans scale k c.guarded.result.work.zone × Spans scale k c.narrow.result.work.zone
spanned c =
    let j = c.args.self in
    squares _ j.automaton.accepted _ _ j.leaves.crosses c.edge-edge.ensures c.guarded.ensures (met c) (size≡ j.automaton.counted)

pub invariant_of-guarded : goal.invariant_of-guarded
invariant_of-guarded c =
    let q = spanned (goal.at.invariant_of-guarded c).After-narrow in
    record { few = q.0; spans = q.1 }

pub invariant_of-arrived : goal.invariant_of-arrived
invariant_of-arrived c =
    let q = spanned (goal.at.invariant_of-arrived c).After-narrow in
    record { few = q.0; spans = q.2 }

pub returns : goal.returns
returns c =
    crossed _ c.args.self.automaton.accepted _ _ c.args.self.leaves.crosses c.edge-edge.ensures c.guarded.ensures
    (met (goal.at.returns c).After-narrow) (size≡ c.args.self.automaton.counted) refl refl refl refl
