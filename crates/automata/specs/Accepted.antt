-- What holds of an automaton that is not turned down.
use Rattle.std.specs.Prelude.{ℕ, ◌^◌, ◌≤◌, ◌<◌, ◌≡◌, false, List, length}
use Rattle.runs.specs.Limits.{scale}
use Rattle.automata.specs.Automata.{length_field, version, clocks, locations, edges, start, target, from, to, formula, reset_byte, invariant_of}
use Rattle.automata.specs.Automata.{guard_of}

-- the head is there, the counts are in range, and the length is that of the formula: every byte that the counts speak of is there
pub record Complete (s : List ℕ) : Type 0 where
  pub head : 11 ≤ length s
  pub size : length s ≡ formula s
  pub clocks≥ : 1 ≤ clocks s
  pub clocks≤ : clocks s ≤ 8
  pub locations≥ : 1 ≤ locations s
  pub locations≤ : locations s ≤ 64
  pub edges≤ : edges s ≤ 256

-- "free of 1 to 8": this holds exactly where `refusal_of s` is 0 (proofs/Accepting, `free`)
pub record Accepted (s : List ℕ) : Type 0 where
  pub complete : Complete s
  pub field : length_field s ≡ length s
  pub version≡ : version s ≡ 1
  pub start< : start s < locations s
  pub target< : target s < locations s
  pub from< : (i : ℕ) → i < edges s → from s i < locations s
  pub to< : (i : ℕ) → i < edges s → to s i < locations s
  pub resets< : (i : ℕ) → i < edges s → reset_byte s i < 2 ^ clocks s
  pub invariant_lo : (l x : ℕ) → l < locations s → 0 < x → x ≤ clocks s → (invariant_of s l).lo x ≤ scale
  pub invariant_hi : (l x : ℕ) → l < locations s → 0 < x → x ≤ clocks s → (invariant_of s l).hi x ≤ scale
  pub invariant_present : (l x : ℕ) → l < locations s → 0 < x → x ≤ clocks s → (invariant_of s l).absent x ≡ false
  pub guard_lo : (i x : ℕ) → i < edges s → 0 < x → x ≤ clocks s → (guard_of s i).lo x ≤ scale
  pub guard_hi : (i x : ℕ) → i < edges s → 0 < x → x ≤ clocks s → (guard_of s i).absent x ≡ false → (guard_of s i).hi x ≤ scale
