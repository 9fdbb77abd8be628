-- The zones of an automaton's bytes on their way along an edge, in whole time units with no loosening, and the step back along it.
use Rattle.std.specs.Prelude.{ℕ, suc, ◌*◌, ◌<◌, ◌≤◌, ◌≡◌, List, replicate, ℤ, pos, ◌≤ℤ◌, get_or, length}
use Rattle.automata.specs.Automata.{clocks, edges, to, guard_of, invariant_of, resets_of}
use Rattle.automata.specs.Semantics.{system_of}
use Rattle.reachability.specs.Witnesses.{Witnesses}
use Rattle.runs.specs.Timed.{listed}
use Rattle.search.specs.Exploring.{SoundZone}
use Rattle.search.specs.Instance.{work_of}
use Rattle.slots.specs.Slots.{slot_length, p_at, zone_of}
use Rattle.witness.specs.declared.Crossing.{Crossing}
use Rattle.witness.specs.Laws.{guard_met, arrived, BothLive}
use Rattle.witness.specs.Witnesses.{StepBack, clocks_of, back_of, landing_of}
use Rattle.zones.specs.declared.pair.Pair.{Pair}
use Rattle.zones.specs.declared.reduction.Reduced.{Reduced}
use Rattle.zones.specs.Fractions.{no_limit}
use Rattle.zones.specs.Zones.{set_of}

-- the zone z met with the guard of edge i; then reset and met with the invariant where it leads
abbrev pub guarded_by : List ℕ → ℕ → List Pair → Reduced
guarded_by b i z = guard_met (clocks b) (guard_of b i) (work_of z no_limit)

abbrev pub arrived_by : List ℕ → ℕ → List Pair → Reduced
arrived_by b i z = arrived (clocks b) (guard_of b i) (resets_of b i) (invariant_of b (to b i)) (work_of z no_limit)

-- the same as the code has them
pub record Crossed (b : List ℕ) (i : ℕ) (z : List Pair) (x : Crossing) : Type 0 where
  pub guarded : x.guarded.pairs ≡ (guarded_by b i z).work.zone
  pub arrived : x.arrived.pairs ≡ (arrived_by b i z).work.zone
  pub resets : set_of x.resets ≡ resets_of b i
  pub size : x.arrived.size ≡ suc (clocks b)

-- a kept zone that crosses edge i: neither is empty
pub record Crosses (b : List ℕ) (i : ℕ) (z : List Pair) : Type 0 where
  pub edge : i < edges b
  pub sound : SoundZone b z
  pub live : BothLive (clocks b) (guard_of b i) (resets_of b i) (invariant_of b (to b i)) (work_of z no_limit)

-- the zone of a slot; one that can be read, whose zone crosses edge i
abbrev pub zone_in : List ℕ → List ℤ → List Pair
zone_in b s = zone_of (suc (clocks b)) s

pub record Leaves (b : List ℕ) (i : ℕ) (s : List ℤ) : Type 0 where
  pub long : slot_length (suc (clocks b)) ≤ length s
  pub natural : (t : ℕ) → t < suc (clocks b) * suc (clocks b) → pos 0 ≤ℤ get_or s (p_at t) (pos 0)
  pub crosses : Crosses b i (zone_in b s)

-- the step back from a state v of the successor, and a state in which the edge arrives
unfoldable pub back_along : List ℕ → ℕ → List Pair → List ℕ → StepBack
back_along b i z v = back_of v (arrived_by b i z).work.zone (guarded_by b i z).work.zone (resets_of b i) (suc (clocks b))

unfoldable pub landing_along : List ℕ → ℕ → List Pair → List ℕ
landing_along b i z = landing_of (arrived_by b i z).work.zone (suc (clocks b))

-- what a run is found by: "its waits are the writer's choice". A state has nine places, clock x at place x
abbrev pub witnesses_of : (b : List ℕ) → Witnesses (system_of b) (List Pair)
witnesses_of b =
    record {
      S = List ℕ;
      val = λ v. listed (clocks b) (clocks_of v);
      begin = replicate 9 0;
      landing = landing_along b;
      back = λ i z v. record { time = (back_along b i z v).wait; state = (back_along b i z v).valuation };
      since = λ v. clocks_of v 1;
    }
