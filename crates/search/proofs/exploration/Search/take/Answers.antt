-- The kept zones are taken oldest first, each once: each turn of the loop is one of the definition's.
-- Assumes nothing.
use Prim.Native.Nat.{ℕ, suc, ◌+◌, ◌*◌, ◌≤◌, ◌<◌}
use mathlib.Core.Path.{◌≡◌, sym, ap, ◌∙◌}
use mathlib.Core.List.{List}
use lib.IntN.{ℤ}
use lib.ListN.{length}
use native.Mathlib.Omega.{arith}
use Rattle.automata.specs.Automata.{clocks}
use Rattle.search.specs.Exploring.{Live}
use Rattle.search.specs.Instance.{ZoneState}
use Rattle.slots.specs.Slots.{slot_length}
use Rattle.search.proofs.exploration.Judging.{live-length, going_length}
use Rattle.search.proofs.exploration.Taking.{read_location, reads_location, Onward, Turned, ends, onward, few, slot_inside, location}
use Rattle.search.proofs.exploration.Taking.{asks_decode, sound_zone, turned}
use borrow.Author.Rules.{rules}
use Rattle.search.proofs.exploration.Search.take.Goals as goal
use Rattle.search.proofs.exploration.Search.take.Goals.{After-expand-t, At-loop-next, In-loop-next}

-- ---- at the head of the loop
module _ (c : At-loop-next) where
  on : Onward c.args.self.automaton.now.bytes.now c.args.self.capacity c.requires.base c.requires.state c.loop-next.next c.loop-next.store
      c.loop-next.t
  on = c.loop-next.invariant.2 c.requires.base c.requires.state c.requires.live

  at_entry : length c.args.store.now ≡ length c.requires.base
  at_entry = going_length _ c.args.self.automaton.now.accepted c.requires

  now : length c.loop-next.store ≡ length c.args.store.now
  now = live-length _ c.args.self.automaton.now.accepted c.requires.long on.live.shown on.live.sound ∙ sym at_entry

-- ---- in a turn
module _ (c : In-loop-next) where
  abbrev place : ℕ
  place = c.loop-next.next * c.slot_length-stride.result

  place≡ : place ≡ c.loop-next.next * slot_length (suc (clocks c.args.self.automaton.now.bytes.now))
  place≡ = ap (λ (x : ℕ). c.loop-next.next * x) c.loop-next.invariant.1

  inside : place + slot_length (suc (clocks c.args.self.automaton.now.bytes.now)) ≤ length c.loop-next.store
  inside = slot_inside c.args.self.automaton.now.accepted
      (c.loop-next.invariant.2 c.requires.base c.requires.state c.requires.live) c.loop-next-test.true place≡ c.requires.long

  below : c.loop-next.next < c.args.self.capacity
  below = few c.args.self.automaton.now.accepted (c.loop-next.invariant.2 c.requires.base c.requires.state c.requires.live) c.loop-next-test.true

pub slice_bounds-slot-start : goal.slice_bounds-slot-start
slice_bounds-slot-start c = omega (arith, inside (goal.at.slice_bounds-slot-start c).In-loop-next)

pub location_of-l-requires : goal.location_of-l-requires
location_of-l-requires c =
    let places = goal.at.location_of-l-requires c in
    omega (
      arith,
      (asks_decode c.args.self.automaton.now.accepted (on places.At-loop-next) c.loop-next-test.true (place≡ places.In-loop-next)
          c.requires.long).0.1,
    )

pub decode-z-requires : goal.decode-z-requires
decode-z-requires c =
    let q = asks_decode c.args.self.automaton.now.accepted (on (goal.at.decode-z-requires c).At-loop-next) c.loop-next-test.true
    (place≡ (goal.at.decode-z-requires c).In-loop-next) c.requires.long in
    rw c.loop-next.invariant.0 (record { size_bound = q.0; counts_natural = q.1 })

pub expand-t-requires : goal.expand-t-requires
expand-t-requires c =
    let a = c.args.self.automaton.now.accepted in
    let pre = c.requires in
    record {
      parent_kept = omega (arith, below (goal.at.expand-t-requires c).In-loop-next, pre.few);
      going = (
        onward a (on (goal.at.expand-t-requires c).At-loop-next) c.loop-next-test.true pre.long pre.few
            (omega (arith, pre.live.shown.again, pre.live.shown.inside, pre.dropped.few)),
        sound_zone a (on (goal.at.expand-t-requires c).At-loop-next) c.loop-next-test.true (place≡ (goal.at.expand-t-requires c).In-loop-next)
            (rw c.loop-next.invariant.0 at c.decode-z.ensures),
      );
    }

-- ---- after the expansion
module _ (c : After-expand-t) where
  expanded : (s₀ : List ℤ) (q₀ : ZoneState) →
      Live c.args.self.automaton.now.bytes.now c.args.self.capacity s₀ q₀ c.args.store.now c.args.turn →
      Turned c.args.self.automaton.now.bytes.now c.args.self.capacity s₀ q₀ c.loop-next.next c.expand-t.new.store c.expand-t.result
  expanded s₀ q₀ h =
      let a = c.args.self.automaton.now.accepted in
      let w = c.loop-next.invariant.2 s₀ q₀ h in
      let at = ap (λ (x : ℕ). c.loop-next.next * x) c.loop-next.invariant.1 in
      turned a w c.loop-next-test.true at (rw c.loop-next.invariant.0 at c.decode-z.ensures)
      (sym c.location_of-l.ensures ∙ read_location (search rules) (c.location_of-l.ensures ∙ location a w c.loop-next-test.true at))
      c.expand-t.ensures

pub shape_of-store-then-has_ended : goal.shape_of-store-then-has_ended
shape_of-store-then-has_ended c =
    let going = c.requires in
    (expanded (goal.at.shape_of-store-then-has_ended c).After-expand-t _ _ going.live).same_length going.long
    ∙ sym (at_entry (goal.at.shape_of-store-then-has_ended c).At-loop-next)

pub returns-then-has_ended : goal.returns-then-has_ended
returns-then-has_ended c =
    record {
      shows = λ s₀ q₀ h. (expanded (goal.at.returns-then-has_ended c).After-expand-t s₀ q₀ h).stops
          (sym c.has_ended.ensures ∙ c.if-has_ended.true);
    }

pub loop-next-preserved : goal.loop-next-preserved
loop-next-preserved c =
    let inv = c.loop-next.invariant in (
      inv.0,
      inv.1,
      λ s₀ q₀ h. (expanded (goal.at.loop-next-preserved c).After-expand-t s₀ q₀ h).goes_on
          (sym c.has_ended.ensures ∙ c.if-has_ended.false),
    )

pub shape_of-store : goal.shape_of-store
shape_of-store c = now (goal.at.shape_of-store c).At-loop-next

pub returns : goal.returns
returns c = record { shows = λ s₀ q₀ h. ends _ _ (c.loop-next.invariant.2 s₀ q₀ h) c.loop-next-test.false }

pub overflow_cast-l : goal.overflow_cast-l
overflow_cast-l c =
    reads_location (search rules)
    (c.location_of-l.ensures ∙ location c.args.self.automaton.now.accepted (on (goal.at.overflow_cast-l c).At-loop-next) c.loop-next-test.true
    (place≡ (goal.at.overflow_cast-l c).In-loop-next))

pub slice_bounds-slot-count : goal.slice_bounds-slot-count
slice_bounds-slot-count c = omega (arith, inside (goal.at.slice_bounds-slot-count c).In-loop-next)
