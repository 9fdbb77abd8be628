-- The slot that the origin names lies in the store: the edge and the zone's own origin are read there.
-- Assumes nothing.
use Prim.Native.Nat.{suc, ◌+◌, ◌*◌, ◌≤◌}
use mathlib.Core.Logic.{∥∥₁_elim, ∥∥₁_map}
use mathlib.Core.Bool.{true}
use mathlib.Core.Path.{◌≡◌, refl, sym, ap, ◌∙◌}
use lib.ListN.{length}
use native.Mathlib.Omega.{arith}
use Rattle.std.proofs.Props.{props}
use Rattle.automata.specs.Automata.{clocks}
use Rattle.automata.proofs.fields.Counting.{size≡}
use Rattle.slots.specs.Slots.{slot_length, is_along}
use Rattle.run_writer.proofs.branch.Stepping.{inside, asks_slot, next, fewer, reads_origin, reads_zone}
use Rattle.run_writer.proofs.branch.Filling.{leaves_back, last_along, back_step}
use Rattle.run_writer.proofs.branch.Walking.{first, along, asks_edge}
use Rattle.run_writer.proofs.branch.BranchIterator.next.Goals as goal
use Rattle.run_writer.proofs.branch.BranchIterator.next.Goals.{After-slot}

-- ---- with the length of a slot
module _ (c : After-slot) where
  stride≡ : c.slot_length-stride.result ≡ slot_length (suc (clocks c.args.self.now.automaton.bytes.now))
  stride≡ = c.slot_length-stride.ensures ∙ ap slot_length (size≡ c.args.self.now.automaton.counted)

  goes : is_along c.args.self.now.origin ≡ true
  goes = sym c.is_along.ensures ∙ c.if-not-is_along.false

  within : c.slot.result * c.slot_length-stride.result + slot_length (suc (clocks c.args.self.now.automaton.bytes.now))
      ≤ length c.args.self.now.store.now
  within = ∥∥₁_elim c.args.self.now.stands (Prim.hlevel props) (λ s. inside s.ended s.standing goes c.slot.ensures stride≡)

pub returns-then-not-is_along-clause-steps : goal.returns-then-not-is_along-clause-steps
returns-then-not-is_along-clause-steps c = (
  ∥∥₁_elim c.args.self.now.stands (Prim.hlevel props) (λ s. first s.standing (sym c.is_along.ensures ∙ c.if-not-is_along.true)),
  refl,
)

pub offset_bounds-self-slot : goal.offset_bounds-self-slot
offset_bounds-self-slot c = omega (arith, within (goal.at.offset_bounds-self-slot c).After-slot)

pub slice_bounds-slot-count : goal.slice_bounds-slot-count
slice_bounds-slot-count c = omega (arith, within (goal.at.slice_bounds-slot-count c).After-slot)

pub slice_bounds-slot-start : goal.slice_bounds-slot-start
slice_bounds-slot-start c = omega (arith, within (goal.at.slice_bounds-slot-start c).After-slot)

pub origin_of-self-requires : goal.origin_of-self-requires
origin_of-self-requires c =
    let at = (goal.at.origin_of-self-requires c).After-slot in
    ∥∥₁_elim c.args.self.now.stands (Prim.hlevel props)
    (λ s. omega (arith, asks_slot s.ended s.standing (goes at) c.slot.ensures (stride≡ at)))

pub invariant_of-self : goal.invariant_of-self
invariant_of-self c =
    let at = (goal.at.invariant_of-self c).After-slot in
    record {
      stands = ∥∥₁_map c.args.self.now.stands (λ s.
          let p = reads_origin s.ended s.standing (goes at) c.slot.ensures (stride≡ at) c.origin_of-self.ensures in
          record { ended = s.ended; standing = next s.ended s.standing (goes at) p });
    }

pub edge-requires : goal.edge-requires
edge-requires c =
    let at = (goal.at.edge-requires c).After-slot in
    ∥∥₁_elim c.args.self.now.stands (Prim.hlevel props) (λ s. asks_edge s.standing (along s.standing (goes at)))

pub invariant_of-result : goal.invariant_of-result
invariant_of-result c =
    let at = (goal.at.invariant_of-result c).After-slot in
    record {
      leaves = ∥∥₁_elim c.args.self.now.stands (Prim.hlevel props)
          (λ s. leaves_back s.ended s.standing (goes at) c.edge.ensures c.slot.ensures (stride≡ at));
    }

pub returns-clause-steps : goal.returns-clause-steps
returns-clause-steps c =
    let at = (goal.at.returns-clause-steps c).After-slot in
    record {
      automaton = refl;
      store = refl;
      fewer = ∥∥₁_elim c.args.self.now.stands (Prim.hlevel props) (λ s.
          let p = reads_origin s.ended s.standing (goes at) c.slot.ensures (stride≡ at) c.origin_of-self.ensures in
          fewer s.ended s.standing (goes at) p);
      last = ∥∥₁_elim c.args.self.now.stands (Prim.hlevel props) (λ s.
          let z = reads_zone s.ended s.standing (goes at) c.slot.ensures (stride≡ at) in
          sym (last_along s.ended s.standing (goes at) c.edge.ensures z refl));
      step = λ m v xs. ∥∥₁_elim c.args.self.now.stands (Prim.hlevel props) (λ s.
          let p = reads_origin s.ended s.standing (goes at) c.slot.ensures (stride≡ at) c.origin_of-self.ensures in
          let z = reads_zone s.ended s.standing (goes at) c.slot.ensures (stride≡ at) in
          back_step s.ended s.standing (goes at) m v xs c.edge.ensures z refl p);
    }

pub returns-clause-goes : goal.returns-clause-goes
returns-clause-goes c =
    let at = (goal.at.returns-clause-goes c).After-slot in
    let x = c.args.self.now in
    let less = ∥∥₁_elim c.args.self.now.stands (Prim.hlevel props) (λ s.
    let p = reads_origin s.ended s.standing (goes at) c.slot.ensures (stride≡ at) c.origin_of-self.ensures in
    fewer s.ended s.standing (goes at) p) in
    record { on = λ f. (tt, tt, omega (arith, less)); keeps = tt; rests = λ f. tt }
