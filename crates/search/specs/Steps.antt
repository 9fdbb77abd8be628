-- What each step of a search asks and gives, of the search x as the code has it: from the store s and the turn t it comes to s' and r.
use Rattle.std.specs.Prelude.{ℕ, List, ℤ}
use Rattle.zones.specs.declared.pair.Pair.{Pair}
use Rattle.zones.specs.declared.reduction.Reduced.{Reduced}
use Rattle.zones.specs.declared.zone.Work.{Work}
use Rattle.automata.specs.Automata.{edges}
use Rattle.automata.specs.Semantics.{system_of}
use Rattle.reachability.specs.Search.{Came, judge, expand, take_from}
use Rattle.slots.specs.declared.slot.Origin.{Origin}
use Rattle.search.specs.declared.exploration.Search.{Search}
use Rattle.search.specs.Outcomes.{SearchTurn as Turn}
use Rattle.search.specs.Exploring.{Going, Continues, Led, Offers, node_at}
use Rattle.search.specs.Instance.{ZoneState, fractions_of, zones_of}

-- it goes on, at most `offers` zones being dropped
abbrev pub Goes : Search → ℕ → List ℤ → Turn → Type 0
Goes x offers s t = Going x.automaton.now.bytes.now x.capacity offers s t

-- the definition's step f is taken
abbrev Steps : Search → List ℤ → Turn → (ZoneState → ZoneState) → List ℤ → Turn → Type 0
Steps x s t f s' r = Continues x.automaton.now.bytes.now x.capacity s t f s' r

-- the zone w of location l is judged, however it was led to
abbrev pub Judges : Search → List ℤ → Turn → ℕ → Origin → Work → List ℤ → Turn → Type 0
Judges x s t l o w s' r =
    (p : Led o) → Steps x s t
    (λ q. judge (system_of x.automaton.now.bytes.now) (zones_of x.automaton.now.bytes.now) x.capacity q (node_at l p.came p.path w.zone)
    (fractions_of w.fraction t.safe)) s' r

-- z in l is offered
abbrev pub Tells : Search → List ℤ → Turn → ℕ → Origin → Reduced → List ℤ → Turn → Type 0
Tells x s t l o z s' r = Offers x.automaton.now.bytes.now x.capacity s t l o z s' r

-- the zone z of location l, kept in slot `parent`, is expanded
abbrev pub Expands : Search → List ℤ → Turn → ℕ → ℕ → List Pair → List ℤ → Turn → Type 0
Expands x s t parent l z s' r =
    (c : Came) (p : List ℕ) → Steps x s t
    (expand (system_of x.automaton.now.bytes.now) (zones_of x.automaton.now.bytes.now) x.capacity parent (node_at l c p z)
    (edges x.automaton.now.bytes.now) 0) s' r

-- the kept zones are taken
abbrev pub Takes : Search → List ℤ → Turn → List ℤ → Turn → Type 0
Takes x s t s' r =
    Steps x s t
    (take_from (system_of x.automaton.now.bytes.now) (zones_of x.automaton.now.bytes.now) x.capacity x.capacity 0) s' r
