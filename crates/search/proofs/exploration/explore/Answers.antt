-- The whole search: the first zone arrives at the start, no clock reset, and then the kept zones are taken.
-- Assumes nothing.
use Prim.Native.Nat.{◌*◌}
use mathlib.Core.Path.{refl, sym, ◌∙◌, subst}
use Rattle.zones.specs.Ranges.{counts}
use Rattle.zones.proofs.ranges.Bounding.{first_sized}
use Rattle.zones.proofs.settled.Settling.{first_settled}
use Rattle.search.specs.Exploring.{SoundResult}
use Rattle.search.proofs.exploration.Arriving.{gives_of}
use Rattle.search.proofs.exploration.Beginning.{Begun, capacity≡, arrives_first, blank_going, begun}
use Rattle.search.proofs.exploration.Judging.{n≤}
use Rattle.search.proofs.exploration.Sounding.{start-sound}
use Rattle.search.proofs.exploration.explore.Goals as goal
use Rattle.search.proofs.exploration.explore.Goals.{After-arrive-t}

pub arrive-t-requires : goal.arrive-t-requires
arrive-t-requires c =
    let a = c.args.automaton.now.accepted in
    record {
      there = (rw c.start-l.ensures a.start<, blank_going a _ (capacity≡ c.args.automaton.now _ c.capacity_of.ensures));
      sized = rw c.first.ensures (first_sized (10 * counts) _ (n≤ _ a), first_settled _ (n≤ _ a));
      sound_result = subst (SoundResult _) (sym (arrives_first c.args.automaton.now.bytes.now c.start-l.ensures c.first.ensures)) (start-sound _ a);
    }

-- ---- after the first offer
offered : (c : After-arrive-t) →
    Begun c.args.automaton.now.bytes.now c.capacity_of.result c.args.store.now c.arrive-t.new.store c.arrive-t.result
offered c =
    begun c.args.automaton.now.accepted _ (capacity≡ c.args.automaton.now _ c.capacity_of.ensures) refl c.none.ensures
    (gives_of _ _ _ _ _ _ c.start-l.ensures (arrives_first c.args.automaton.now.bytes.now c.start-l.ensures c.first.ensures)
    c.arrive-t.ensures)

pub returns-then-has_ended : goal.returns-then-has_ended
returns-then-has_ended c =
    (offered (goal.at.returns-then-has_ended c).After-arrive-t).stops (sym c.has_ended.ensures ∙ c.if-has_ended.true)

pub take-requires : goal.take-requires
take-requires c = (offered (goal.at.take-requires c).After-arrive-t).goes_on (sym c.has_ended.ensures ∙ c.if-has_ended.false)

pub returns : goal.returns
returns c =
    (offered (goal.at.returns c).After-arrive-t).rest (sym c.has_ended.ensures ∙ c.if-has_ended.false) c.take.ensures
