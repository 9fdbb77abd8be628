-- How large the numbers of a step back get. C bounds clocks and the size of m's, and there are n indices.
use Rattle.std.specs.Prelude.{ℕ, ◌≤◌, ◌<◌, List, nat_abs}
use Rattle.zones.specs.declared.pair.Pair.{Pair}
use Rattle.zones.specs.Zones.{pair_at}
use Rattle.witness.specs.Witnesses.{clocks_of}

-- no clock of a valuation is above C
abbrev pub AllUpTo : ℕ → List ℕ → Type 0
AllUpTo C s = (x : ℕ) → clocks_of s x ≤ C

-- |m| ≤ C for each pair of a square
abbrev pub Spans : ℕ → ℕ → List Pair → Type 0
Spans C n z = (a b : ℕ) → a < n → b < n → nat_abs (pair_at z a b).m ≤ C
