-- Automata that are alike have the same runs, up to the numbering of edges.
-- Assumes nothing.
use Prim.Native.Nat.{ℕ, ◌+◌, ◌*◌, ◌<◌, ◌≤◌}
use mathlib.Core.List.{List}
use mathlib.Core.Path.{◌≡◌, refl, sym, ap, subst}
use lib.ListN.{replicate}
use native.Mathlib.Nat.{mul-suc, mul-le-mul_left}
use native.Mathlib.Omega.{arith}
use Rattle.runs.specs.Limits.{Within}
use Rattle.runs.specs.Renumbering.{Renumbers}
use Rattle.runs.specs.Timed.{Valuation, ticks, zeroed}
use Rattle.automata.specs.Automata.{clocks, locations, start, edges, from, to, reset_byte, invariant_in, invariant_at, edge_at}
use Rattle.automata.specs.Automata.{invariant_of, guard_of, in_byte, resets_of}
use Rattle.automata.specs.Semantics.{system_of}
use Rattle.automata.specs.Canonical.{invariants_size}
use Rattle.automata.proofs.canonical.Alike.{Alike}
use Rattle.automata.proofs.canonical.Reading.{byte_same, within_same}

module _ (b c : List ℕ) (ρ : ℕ → ℕ) (A : Alike b c ρ) where
  -- ---- an edge's bytes
  pub from_same : (i : ℕ) → i < edges b → from c (ρ i) ≡ from b i
  from_same i h = sym (byte_same (A.bytes i h) 0 (edge_at b i) (edge_at c (ρ i)) (omega arith) (omega arith) (omega arith))

  pub to_same : (i : ℕ) → i < edges b → to c (ρ i) ≡ to b i
  to_same i h = sym (byte_same (A.bytes i h) 1 (edge_at b i + 1) (edge_at c (ρ i) + 1) refl refl (omega arith))

  pub reset_same : (i : ℕ) → i < edges b → reset_byte c (ρ i) ≡ reset_byte b i
  reset_same i h = sym (byte_same (A.bytes i h) 2 (edge_at b i + 2) (edge_at c (ρ i) + 2) refl refl (omega arith))

  -- ---- where a location's limits stand
  pub row_same : (l : ℕ) → 11 + 8 * clocks b * l ≡ invariant_at c l
  unfolding invariant_in
  row_same l = ap (λ (n : ℕ). 11 + 8 * n * l) (sym A.clocks≡)

  pub row_within : (l : ℕ) → l < locations b → 8 * clocks b * l + 8 * clocks b ≤ invariants_size b
  row_within l h = rw mul-suc at (mul-le-mul_left (8 * clocks b) h)

  -- ---- what a run asks
  invariant_same : (s e l : ℕ) (v : ℕ → ℕ) → l < locations b → Within s e (clocks b) (invariant_of b l) v
      → Within s e (clocks c) (invariant_of c l) v
  unfolding invariant_of invariant_in
  invariant_same s e l v h w =
      subst (λ (n : ℕ). Within s e n (invariant_of c l) v) (sym A.clocks≡)
      (within_same A.invariants (8 * clocks b * l) (invariant_at b l) (invariant_at c l) (clocks b) refl (row_same l) (row_within l h) s e v w)

  guard_same : (s e i : ℕ) (v : ℕ → ℕ) → i < edges b → Within s e (clocks b) (guard_of b i) v → Within s e (clocks c) (guard_of c (ρ i)) v
  unfolding guard_of
  guard_same s e i v h w =
      subst (λ (n : ℕ). Within s e n (guard_of c (ρ i)) v) (sym A.clocks≡)
      (within_same (A.bytes i h) 3 (edge_at b i + 3) (edge_at c (ρ i) + 3) (clocks b) refl refl (omega arith) s e v w)

  resets_same : (i : ℕ) (v : Valuation) → i < edges b → zeroed (resets_of c (ρ i)) 1 v ≡ zeroed (resets_of b i) 1 v
  unfolding resets_of
  resets_same i v h = ap (λ (r : ℕ). zeroed (λ x. in_byte r x) 1 v) (reset_same i h)

  -- "exactly the card's runs, up to the numbering of edges"
  pub alike_renumbers : start b < locations b → ((i : ℕ) → i < edges b → to b i < locations b) → Renumbers (system_of b) (system_of c) ρ (λ v. v)
  alike_renumbers s< t< = record {
    locations = locations b;
    start< = s<;
    to< = t<;
    start = A.start≡;
    target = A.target≡;
    origin = ap (λ (n : ℕ). replicate n 0) A.clocks≡;
    pass = λ t v. refl;
    inv = λ s e l v h w. invariant_same s e l (ticks v) h w;
    edge = A.edge;
    from = from_same;
    to = to_same;
    guard = λ s e i v h w. guard_same s e i (ticks v) h w;
    reset = resets_same;
  }
