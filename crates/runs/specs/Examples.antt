-- Cards of document 01 as timed automata, and what they show of runs: each refutes a way of misreading the definition.
use Rattle.std.specs.Prelude.{ℕ, zero, suc, ◌*◌, ◌<◌, Bool, true, false}
use Rattle.runs.specs.Limits.{Limits}
use Rattle.runs.specs.Runs.{Reaches}
use Rattle.runs.specs.Timed.{TimedAutomaton, system_for}

abbrev pub from_to : ℕ → ℕ → Limits
from_to low high = record { lo = λ x. low; hi = λ x. high; absent = λ x. false }

-- no upper limit
abbrev pub from_on : ℕ → Limits
from_on low = record { lo = λ x. low; hi = λ x. 0; absent = λ x. true }

-- "one clock, two locations, start 0 .., target 1 .., one edge": where it leaves, if it resets, its guard; the invariants of start and target
abbrev pub table : ℕ → Bool → Limits → Limits → Limits → TimedAutomaton
table leaves resets guard here there = record {
  clocks = 1;
  edges = 1;
  from = λ i. leaves;
  to = λ i. 1;
  start = 0;
  target = 1;
  resets = λ i x. resets;
  guard = λ i. guard;
  invariant = λ l. elim l [ zero ↦ here | suc n ↦ there ];
}

-- "A: guard lo 7"; "F: guard lo 4, resetting"; "G: target lo 3, edge resets, guard lo 0"
abbrev pub card_a : TimedAutomaton
card_a = table 0 false (from_on 7) (from_to 0 5) (from_to 0 9)

abbrev pub card_f : TimedAutomaton
card_f = table 0 true (from_on 4) (from_to 0 5) (from_to 0 9)

abbrev pub card_g : TimedAutomaton
card_g = table 0 true (from_on 0) (from_to 0 5) (from_to 3 9)

-- the edge leaves location 1
abbrev pub astray : TimedAutomaton
astray = table 1 true (from_on 0) (from_to 0 5) (from_to 0 9)

-- "E: no edges, start lo 2 .. the same if start is also the target"
abbrev pub card_e : TimedAutomaton
card_e = record {
  clocks = 1;
  edges = 0;
  from = λ i. 0;
  to = λ i. 0;
  start = 0;
  target = 0;
  resets = λ i x. false;
  guard = λ i. from_on 0;
  invariant = λ l. from_to 2 5;
}

-- no run stands in the target below the error n/d, some run does at n/d
pub record Turns (a : TimedAutomaton) (n d : ℕ) : Type 0 where
  pub below : (s e : ℕ) → e * d < n * s → Reaches (system_for a) s e → ⊥
  pub there : Reaches (system_for a) d n

pub record Shown : Type 0 where
  -- hi is loosened, and so is lo; a wait ends within the invariant
  pub a : Turns card_a 1 1
  -- every state, the first included, satisfies its invariant; the empty list is a run
  pub e : Turns card_e 2 1
  -- the guard is met before the reset
  pub f : Reaches (system_for card_f) 1 0
  -- the invariant is met on arrival, after the reset
  pub g : Turns card_g 3 1
  -- an edge is taken only where it leaves
  pub stray : (s e : ℕ) → Reaches (system_for astray) s e → ⊥
