-- Where the limits and the edges stand: within the bytes that are there.
-- Assumes nothing.
use Prim.Native.Nat.{ℕ, ◌+◌, ◌*◌, ◌<◌, ◌≤◌}
use mathlib.Core.List.{List}
use lib.ListN.{length}
use native.Mathlib.Nat.{mul-le-mul_left, mul-le-mul_right, mul-suc, suc-mul}
use native.Mathlib.Omega.{arith}
use Rattle.automata.specs.Accepted.{Complete}
use Rattle.automata.proofs.fields.Counting.{counted}
use Rattle.automata.specs.Automata.{clocks, locations, edges, invariant_in, edge_in, invariant_at, edge_at}

module _ (s : List ℕ) (complete : Complete s) where
  pub invariant_within : (l : ℕ) → l < locations s → invariant_at s l + 8 * clocks s ≤ length s
  unfolding invariant_in edge_in
  invariant_within l h =
      let row : 8 * clocks s * l + 8 * clocks s ≤ 8 * clocks s * locations s = rw mul-suc at (mul-le-mul_left (8 * clocks s) h) in
      omega arith

  pub edge-within : (i : ℕ) → i < edges s → edge_at s i + (3 + 8 * clocks s) ≤ length s
  unfolding edge_in
  edge-within i h =
      let row : i * (3 + 8 * clocks s) + (3 + 8 * clocks s) ≤ edges s * (3 + 8 * clocks s) =
      rw (suc-mul i (3 + 8 * clocks s)) at (mul-le-mul_right (3 + 8 * clocks s) h) in
      omega arith

pub ruleset places = (invariant_within, edge-within, counted)
