-- The search from its first zone on: what the code's whole search shows.
-- Assumes nothing.
use Prim.Native.Nat.{ℕ, suc, ◌+◌, ◌*◌, ◌≤◌}
use mathlib.Core.Path.{◌≡◌, refl, sym, ap, ◌∙◌}
use mathlib.Core.Bool.{true, false}
use mathlib.Core.List.{List, []}
use lib.IntN.{ℤ}
use lib.ListN.{length, replicate}
use native.Mathlib.Omega.{arith}
use Rattle.zones.specs.declared.reduction.Reduced.{Reduced}
use Rattle.zones.specs.Fractions.{no_limit}
use Rattle.zones.specs.Successors.{enter_of}
use Rattle.zones.specs.Zones.{first_work, set_of}
use Rattle.zones.specs.declared.zone.Work.{Work}
use Rattle.zones.proofs.places.Places.{reset_none}
use Rattle.automata.specs.declared.opened.Automaton.{Automaton}
use Rattle.automata.proofs.fields.Counting.{size≡}
use Rattle.automata.proofs.fields.Resets.{none_reset}
use Rattle.search.specs.declared.outcome.Outcome.TheVariants.{Going}
use Rattle.search.specs.Outcomes.{SearchTurn as Turn}
use Rattle.search.specs.Outcomes.{outcome_of, has_ended, most_offers}
use Rattle.automata.specs.Accepted.{Accepted}
use Rattle.automata.specs.Automata.{clocks, start, invariant_of}
use Rattle.search.specs.Exploring.{Shown, Live, Offers, Continues, arrival_of}
use Rattle.search.specs.Exploring as exploring
use Rattle.search.specs.Instance.{ZoneState, fractions_of, zones_of, result_of, entering, search_of}
use Rattle.reachability.specs.Search.{first_zone, first_node, nothing, begin, take_from, search}
use Rattle.automata.specs.Semantics.{system_of}
use Rattle.slots.specs.declared.slot.Origin.{Origin}
use Rattle.slots.specs.Slots.{slot_length, no_origin}
use Rattle.search.specs.Store.{origin_of, store_of, slots_of, most_slots, capacity_of}
use Rattle.search.specs.Answers.{state_of}
use Rattle.reachability.proofs.Accounts.{offer_drops}
use Rattle.reachability.proofs.Later.{take-later}
use Rattle.search.proofs.exploration.Ending.{still, stays}
use Rattle.search.proofs.exploration.Sounding.{nothing_sound, begin_sound}
use Rattle.search.proofs.exploration.Stores.{capacity_room, capacity_small}

-- ---- what the first offer leaves
pub record Begun (b : List ℕ) (capacity : ℕ) (s s' : List ℤ) (t' : Turn) : Type 0 where
  pub goes_on : has_ended (outcome_of t'.outcome) ≡ false → exploring.Going b capacity 1 s' t'
  pub stops : has_ended (outcome_of t'.outcome) ≡ true → Shown (suc (clocks b)) s (state_of b (length s)) s' t'
  pub rest : has_ended (outcome_of t'.outcome) ≡ false → {s'' : List ℤ} {t'' : Turn} →
      Continues b capacity s' t' (take_from (system_of b) (zones_of b) capacity capacity 0) s'' t'' →
      Shown (suc (clocks b)) s (state_of b (length s)) s'' t''

-- how many slots there are, and what arrives first, as the code has them
pub capacity≡ : (A : Automaton) (n : ℕ) {k : ℕ} → k ≡ capacity_of (A.clocks + 1) n → k ≡ capacity_of (suc (clocks A.bytes.now)) n
capacity≡ A n e = e ∙ ap (λ (size : ℕ). capacity_of size n) (size≡ A.counted)

pub arrives_first : (b : List ℕ) {l : ℕ} {w : Work} → l ≡ start b → w ≡ first_work →
    arrival_of b l (set_of (replicate 9 false)) w ≡ enter_of (clocks b) (invariant_of b (start b)) first_work
arrives_first b {w = w} e f =
    let none = reset_none (suc (clocks b)) (set_of (replicate 9 false)) none_reset w ∙ f in
    λ i. enter_of (clocks b) (invariant_of b (e i)) (none i)

module _ {b : List ℕ} (a : Accepted b) (s : List ℤ) {capacity : ℕ} (es : capacity ≡ capacity_of (suc (clocks b)) (length s)) where
  abbrev blank : ZoneState
  blank = nothing (system_of b) (zones_of b) capacity

  -- the turn that the search begins with
  abbrev first_turn : Turn
  first_turn = record { count = 0; exact = no_limit; safe = no_limit; dropped = record { again = 0; inside = 0 }; outcome = Going }

  blank-live : Live b capacity s blank s first_turn
  unfolding store_of slots_of outcome_of
  blank-live = record {
    shown = record { number = refl; store = refl; exact = refl; safe = refl; again = refl; inside = refl; outcome = refl; honest = tt };
    sound = nothing_sound b a capacity;
    goes = refl;
  }

  long : capacity * slot_length (suc (clocks b)) ≤ length s
  long = rw es (capacity_room (suc (clocks b)) (length s))

  room : capacity ≤ most_slots
  room = rw es (capacity_small (suc (clocks b)) (length s))

  none : origin_of first_zone ≡ no_origin
  unfolding origin_of
  none = refl

  pub blank_going : exploring.Going b capacity most_offers s first_turn
  blank_going = record { base = s; state = blank; live = blank-live; long = long; few = room; dropped = record { few = omega arith } }

  module _ {r : Reduced} (er : r ≡ enter_of (clocks b) (invariant_of b (start b)) first_work) {o : Origin} (eo : o ≡ no_origin)
      {s' : List ℤ} {t' : Turn} (g : Offers b capacity s first_turn (start b) o r s' t') where
    abbrev state : ZoneState
    state = begin (system_of b) (zones_of b) capacity

    entered : result_of no_limit r ≡ entering b (fractions_of no_limit no_limit)
    unfolding entering first_work
    entered = ap (result_of no_limit) er

    shown : Shown (suc (clocks b)) s state s' t'
    shown = rw entered at ((g (record { came = first_zone; path = []; told = none ∙ sym eo })).shows s blank blank-live)

    whole : take_from (system_of b) (zones_of b) capacity capacity 0 state ≡ state_of b (length s)
    unfolding search
    whole = ap (search_of b) es

    pub begun : Begun b capacity s s' t'
    begun = record {
      goes_on = λ e. record {
        base = s;
        state = state;
        live = still shown (begin_sound b a capacity) e;
        long = long;
        few = room;
        dropped = record {
          few = omega (
            arith,
            shown.again,
            shown.inside,
            offer_drops (system_of b) (zones_of b) capacity blank (first_node (system_of b)) ((zones_of b).enter (zones_of b).top),
          );
        };
      };
      stops = stays (take-later (system_of b) (zones_of b) capacity capacity 0 state) whole shown;
      rest = λ e {s''} {t''} h. rw whole at (h.shows s state (still shown (begin_sound b a capacity) e));
    }
