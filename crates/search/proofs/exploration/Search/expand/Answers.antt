-- `expand` meets its contract: what is done is the definition's expansion along the edges passed, or it has stopped at one.
-- Assumes nothing.
use Prim.Native.Nat.{◌<◌}
use mathlib.Core.Path.{◌≡◌, sym, ap, ◌∙◌}
use mathlib.Core.List.{[]}
use native.Mathlib.Omega.{arith}
use Rattle.zones.specs.declared.zone.Work.{Work}
use Rattle.automata.specs.Automata.{edges, from}
use Rattle.automata.specs.declared.fields.Edge.{Edge}
use Rattle.reachability.specs.Search.{first_zone}
use Rattle.search.specs.Instance.{work_of}
use Rattle.search.proofs.exploration.Expanding.{Between, passes, taken_fits, taken-sound, goes_on, stops}
use Rattle.search.proofs.exploration.Expanding.{between_going, ends}
use Rattle.search.proofs.exploration.Search.expand.Goals as goal
use Rattle.search.proofs.exploration.Search.expand.Goals.{After-edge-edge, then-edge-l+else-has_ended, else-edge-l}

-- ---- with the edge fetched
module _ (c : After-edge-edge) where
  within : c.loop-i.i < edges c.args.self.automaton.now.bytes.now
  within = omega (arith, c.args.self.automaton.now.counted.edges≡)

  -- the zone with the running fraction
  abbrev taken : Work
  taken = record { zone = c.loop-i.w.zone; fraction = c.loop-i.t.exact }

  taken_is : taken ≡ work_of c.args.z c.loop-i.t.exact
  taken_is = λ k. record { zone = c.loop-i.invariant.0 k; fraction = c.loop-i.t.exact }

  leaves : c.edge-edge.result.from ≡ c.args.l → from c.args.self.automaton.now.bytes.now c.loop-i.i ≡ c.args.l
  leaves e = sym (ap (λ (e : Edge). e.from) c.edge-edge.ensures) ∙ e

  -- for a caller that asks of any state
  some : Between c.args.self.automaton.now.bytes.now c.args.self.capacity c.args.parent c.args.l c.args.z first_zone []
      c.requires.going.0.base c.requires.going.0.state c.loop-i.i c.loop-i.store c.loop-i.t
  some = c.loop-i.invariant.1 first_zone [] c.requires.going.0.base c.requires.going.0.state c.requires.going.0.live

pub follow-t-requires : goal.follow-t-requires
follow-t-requires c =
    let a = c.args.self.automaton.now.accepted in
    let pre = c.requires.going in
    let here = (goal.at.follow-t-requires c).After-edge-edge in
    record {
      there = (within here, c.edge-edge.ensures);
      going = (
        between_going (some here) pre.0.long pre.0.few
            (omega (arith, pre.0.live.shown.again, pre.0.live.shown.inside, pre.0.dropped.few)) c.requires.parent_kept
            (omega (arith, within here, a.complete.edges≤)),
        taken-sound (some here) (within here) a pre.1 (taken_is here),
        taken_fits (some here) (within here) a pre.1 (taken_is here),
      );
    }

pub returns-then-has_ended : goal.returns-then-has_ended
returns-then-has_ended c =
    let a = c.args.self.automaton.now.accepted in
    let here = (goal.at.returns-then-has_ended c).After-edge-edge in
    λ x p. record {
      shows = λ s₀ q₀ h. stops (c.loop-i.invariant.1 x p s₀ q₀ h) (within here) a c.requires.going.1 (taken_is here)
          (leaves here c.if-edge-l.true) c.along-origin.ensures c.follow-t.ensures (sym c.has_ended.ensures ∙ c.if-has_ended.true);
    }

pub loop-i-preserved : goal.loop-i-preserved
loop-i-preserved c =
    let a = c.args.self.automaton.now.accepted in (
      elim c.if-edge-l.branch [
        | then-edge-l+else-has_ended x ↦ ap (λ (v : Work). v.zone) x.w-is ∙ c.loop-i.invariant.0
        | else-edge-l x ↦ ap (λ (v : Work). v.zone) x.w-is ∙ c.loop-i.invariant.0
      ],
      λ y p s₀ q₀ h.
          let between = c.loop-i.invariant.1 y p s₀ q₀ h in
          let here = (goal.at.loop-i-preserved c).After-edge-edge in
          elim c.if-edge-l.branch [
            | then-edge-l+else-has_ended x ↦
                rw (x.store-is, x.t-is) (goes_on between (within here) a c.requires.going.1 (taken_is here) (leaves here x.if-edge-l.true)
                x.along-origin.ensures x.follow-t.ensures (sym x.has_ended.ensures ∙ x.if-has_ended.false))
            | else-edge-l x ↦
                rw (x.store-is, x.t-is)
                (passes between (within here) (λ e. x.if-edge-l.false (ap (λ (k : Edge). k.from) c.edge-edge.ensures ∙ e)))
          ],
    )

pub returns : goal.returns
returns c =
    λ x p. record {
      shows = λ s₀ q₀ h. ends (c.loop-i.invariant.1 x p s₀ q₀ h) (omega (arith, c.args.self.automaton.now.counted.edges≡));
    }
