-- The search of document 01: the general search over the zones of an automaton's bytes.
use Rattle.zones.specs.Reductions.{is_empty, safe_of}
use Rattle.std.specs.Prelude.{ℕ, suc, ◌≤◌, Bool, cond, List, ◌≡◌, ltb, length}
use Rattle.zones.specs.declared.fraction.Fraction.{Fraction}
use Rattle.zones.specs.declared.pair.Pair.{Pair}
use Rattle.zones.specs.declared.reduction.Reduced.{Reduced}
use Rattle.zones.specs.declared.zone.Work.{Work}
use Rattle.zones.specs.Containment.{within, equal, inside_below, largest_count}
use Rattle.zones.specs.Fractions.{no_limit, lowered_by}
use Rattle.zones.specs.Moves.{Closed, Shaped}
use Rattle.zones.specs.Ranges.{counts}
use Rattle.zones.specs.Sets.{square_of, Has}
use Rattle.zones.specs.Successors.{enter_of, follow_of}
use Rattle.zones.specs.Values.{Below}
use Rattle.zones.specs.Zones.{first_work}
use Rattle.automata.specs.Automata.{clocks, start, to, invariant_of, guard_of, resets_of}
use Rattle.reachability.specs.Meaning.{Meaning}
use Rattle.reachability.specs.Search.{Result, empty, zone, Zones, Node, State, search}
use Rattle.runs.specs.Timed.{Valuation, ticks}
use Rattle.automata.specs.Semantics.{system_of}

abbrev pub work_of : List Pair → Fraction → Work
work_of z f = record { zone = z; fraction = f }

-- Document 02: "We want two fractions." The exact one is document 01's running fraction, which every comparison lowers
pub record Fractions : Type 0 where
  pub exact : Fraction
  pub safe : Fraction

abbrev pub fractions_of : Fraction → Fraction → Fractions
fractions_of exact safe = record { exact = exact; safe = safe }

-- what has become of a zone, the safe fraction being `safe` before: it "is lowered only by the comparison that makes a zone empty .. and by
-- containment tests that hold"
unfoldable pub result_of : Fraction → Reduced → Result (List Pair) Fractions
result_of safe r =
    cond (is_empty r) (empty (fractions_of r.work.fraction (lowered_by safe (safe_of r))))
    (zone r.work.zone (fractions_of r.work.fraction safe))

-- "The first zone .. enters the start."
unfoldable pub entering : List ℕ → Fractions → Result (List Pair) Fractions
entering b f = result_of f.safe (enter_of (clocks b) (invariant_of b (start b)) (work_of first_work.zone f.exact))

-- "A successor takes a kept zone, meets the guard, reduces, resets, and enters the new location."
unfoldable pub following : List ℕ → ℕ → List Pair → Fractions → Result (List Pair) Fractions
following b i z f =
    result_of f.safe (follow_of (clocks b) (guard_of b i) (resets_of b i) (invariant_of b (to b i)) (work_of z f.exact))

-- a containment test that holds lowers both
unfoldable pub lowered_inside : List ℕ → List Pair → List Pair → Fractions → Fractions
lowered_inside b z y f =
    fractions_of (lowered_by f.exact (inside_below (suc (clocks b)) z y)) (lowered_by f.safe (inside_below (suc (clocks b)) z y))

-- "a zone to be kept has an error count above 65,535"
unfoldable pub overcounted : List ℕ → List Pair → Bool
overcounted b z = ltb counts (largest_count (suc (clocks b)) z)

abbrev pub zones_of : List ℕ → Zones (List Pair) Fractions
zones_of b =
    record {
      top = fractions_of no_limit no_limit;
      enter = entering b;
      succ = following b;
      within = within (suc (clocks b));
      equal = equal (suc (clocks b));
      lowered = lowered_inside b;
      big = overcounted b;
    }

abbrev pub ZoneNode : Type 0
ZoneNode = Node (List Pair)

abbrev pub ZoneState : Type 0
ZoneState = State (List Pair) Fractions

-- the search of the automaton b in a store of `capacity` slots
abbrev pub search_of : List ℕ → ℕ → ZoneState
search_of b capacity = search (system_of b) (zones_of b) capacity

-- ---- what its zones mean
-- a state of the zone: a valuation of all clocks in its set
pub record Inside (b : List ℕ) (z : List Pair) (s e : ℕ) (v : Valuation) : Type 0 where
  pub all : length v ≡ clocks b
  pub has : Has s e (clocks b) (work_of z no_limit) (ticks v)

-- below a fraction is every error e/s with e × d < n × s
abbrev pub meaning_of : (b : List ℕ) → Meaning (system_of b) (List Pair) Fractions
meaning_of b =
    record {
      Error = λ s e. 1 ≤ s;
      In = Inside b;
      Shape = λ z. Shaped (clocks b) (work_of z no_limit);
      Fit = λ z s e. Closed (suc (clocks b)) (square_of s e (work_of z no_limit));
      Safe = λ f s e. (1 ≤ s) × Below s e f.safe;
      Exact = λ f s e. (1 ≤ s) × Below s e f.exact;
    }
