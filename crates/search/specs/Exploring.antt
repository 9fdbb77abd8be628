-- What the functions of the search ask and give. A search in progress is a state of the definition; the code has it as a turn and the store.
use Rattle.zones.specs.Reductions.{is_empty, safe_of}
use Rattle.std.specs.Prelude.{ℕ, suc, ◌*◌, ◌≤◌, ◌<◌, ◌≡◌, Bool, false, true, List, ℤ, pos, length, get_or, drop}
use Rattle.zones.specs.declared.pair.Pair.{Pair}
use Rattle.zones.specs.declared.reduction.Reduced.{Reduced}
use Rattle.zones.specs.declared.zone.Work.{Work}
use Rattle.zones.specs.Fractions.{no_limit}
use Rattle.zones.specs.Ranges.{Ranged, Sized, Fits32, counts, last_counts}
use Rattle.runs.specs.Limits.{scale}
use Rattle.zones.specs.Successors.{enter_of, follow_of}
use Rattle.zones.specs.Zones.{reset_of}
use Rattle.search.specs.Outcomes.{SearchTurn as Turn}
use Rattle.search.specs.Outcomes.{outcome_of, Honest, Few}
use Rattle.automata.specs.Automata.{clocks, locations, to, guard_of, invariant_of, resets_of}
use Rattle.search.specs.Instance.{ZoneNode, ZoneState, work_of, result_of, zones_of}
use Rattle.reachability.specs.Search.{Came, going, Nth, offer}
use Rattle.automata.specs.Semantics.{system_of}
use Rattle.slots.specs.Slots.{slot_length, slot_location, Framed}
use Rattle.slots.specs.Containing.{within_slots}
use Rattle.slots.specs.declared.slot.Origin.{Origin}
use Rattle.search.specs.Store.{origin_of, store_of, most_slots}

-- ---- slot j, of the same location as the new one, contains it
pub record Hits (n : ℕ) (new s : List ℤ) (j : ℕ) : Type 0 where
  pub same : get_or s (j * slot_length n) (pos 0) ≡ slot_location new
  pub inside : within_slots new (drop (j * slot_length n) s) (n * n) ≡ true

-- r is the first of the `count` slots that does, or `count`
pub record FirstHit (n : ℕ) (new s : List ℤ) (count r : ℕ) : Type 0 where
  pub most : r ≤ count
  pub before : (j : ℕ) → j < r → Hits n new s j → ⊥
  pub found : r < count → Hits n new s r

-- ---- what every kept node has, so that no number of a step overflows
pub record SoundNode (b : List ℕ) (k : ZoneNode) : Type 0 where
  pub location : k.at < locations b
  pub ranged : Ranged scale counts (suc (clocks b)) (work_of k.zone no_limit)
  pub framed : Framed (suc (clocks b)) k.zone

pub record SoundState (b : List ℕ) (slots : ℕ) (q : ZoneState) : Type 0 where
  pub nodes : (j : ℕ) (k : ZoneNode) → Nth q.kept j k → SoundNode b k
  pub most : length q.kept ≤ slots
  pub exact : Fits32 q.frac.exact
  pub safe : Fits32 q.frac.safe

-- what has entered a location
pub record SoundResult (b : List ℕ) (r : Reduced) : Type 0 where
  pub fraction : Fits32 r.work.fraction
  pub safe : Fits32 (safe_of r)
  pub sized : is_empty r ≡ false → Sized last_counts (suc (clocks b)) r.work
  pub framed : is_empty r ≡ false → Framed (suc (clocks b)) r.work.zone

-- ---- the store s and the turn t show the state q: its kept zones, and past them what s₀ had
pub record Shown (n : ℕ) (s₀ : List ℤ) (q : ZoneState) (s : List ℤ) (t : Turn) : Type 0 where
  pub number : t.count ≡ length q.kept
  pub store : s ≡ store_of n q.kept s₀
  pub exact : t.exact ≡ q.frac.exact
  pub safe : t.safe ≡ q.frac.safe
  pub again : t.dropped.again ≡ q.again
  pub inside : t.dropped.inside ≡ q.inside
  pub outcome : outcome_of t.outcome ≡ q.outcome
  pub honest : Honest t.outcome

-- a sound state that goes on
pub record Live (b : List ℕ) (slots : ℕ) (s₀ : List ℤ) (q : ZoneState) (s : List ℤ) (t : Turn) : Type 0 where
  pub shown : Shown (suc (clocks b)) s₀ q s t
  pub sound : SoundState b slots q
  pub goes : q.outcome ≡ going

-- a search that goes on, at the turn t, with places for `slots` slots in the store that was lent, at most `offers` zones being dropped
pub record Going (b : List ℕ) (slots offers : ℕ) (s : List ℤ) (t : Turn) : Type 0 where
  pub base : List ℤ
  pub state : ZoneState
  pub live : Live b slots base state s t
  pub long : slots * slot_length (suc (clocks b)) ≤ length base
  pub few : slots ≤ most_slots
  pub dropped : Few offers t.dropped

-- what a part of the search gives from the store s and the turn t to s' and r: of every state that they show, sound and going on, they
-- show what the definition f comes to
pub record Continues (b : List ℕ) (slots : ℕ) (s : List ℤ) (t : Turn) (f : ZoneState → ZoneState) (s' : List ℤ) (r : Turn) : Type 0 where
  pub shows : (s₀ : List ℤ) (q : ZoneState) → Live b slots s₀ q s t → Shown (suc (clocks b)) s₀ (f q) s' r

-- ---- what is offered
-- the zone w after a reset of the clocks R, entered in l
abbrev pub arrival_of : List ℕ → ℕ → (ℕ → Bool) → Work → Reduced
arrival_of b l R w = enter_of (clocks b) (invariant_of b l) (reset_of (suc (clocks b)) R w)

-- its successor along edge i
abbrev pub successor_of : List ℕ → ℕ → Work → Reduced
successor_of b i w = follow_of (clocks b) (guard_of b i) (resets_of b i) (invariant_of b (to b i)) w

-- a zone of location l that came so, to which the edges p lead
abbrev pub node_at : ℕ → Came → List ℕ → List Pair → ZoneNode
node_at l c p z = record { at = l; zone = z; came = c; path = p }

-- a way to a zone whose slot tells the origin o
pub record Led (o : Origin) : Type 0 where
  pub came : Came
  pub path : List ℕ
  pub told : origin_of came ≡ o

-- what the offer of r in l gives, however it was led to
abbrev pub Offers : List ℕ → ℕ → List ℤ → Turn → ℕ → Origin → Reduced → List ℤ → Turn → Type 0
Offers b slots s t l o r s' t' =
    (p : Led o) → Continues b slots s t (λ q. offer (system_of b) (zones_of b) slots q (node_at l p.came p.path) (result_of t.safe r)) s' t'

-- the zone of a node that is taken
pub record SoundZone (b : List ℕ) (z : List Pair) : Type 0 where
  pub ranged : Ranged scale counts (suc (clocks b)) (work_of z no_limit)
  pub framed : Framed (suc (clocks b)) z
