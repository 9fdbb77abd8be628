-- The form of an accepted automaton is accepted: each of its edges is one of the automaton's.
-- Assumes nothing.
use Prim.Native.Nat.{ℕ, ◌+◌, ◌*◌, ◌<◌, ◌≤◌}
use mathlib.Core.List.{List, [], append-nil}
use mathlib.Core.Path.{◌≡◌, refl, sym, ap, ◌∙◌}
use lib.ListN.{length}
use native.Mathlib.Omega.{arith}
use Rattle.std.proofs.Common.{rules, tests}
use Rattle.automata.specs.Accepted.{Complete, Accepted}
use Rattle.automata.specs.Automata.{length_field, version, clocks, locations, edges, invariant_in, invariant_at, edge_at, lo_at, hi_at}
use Rattle.automata.specs.Automata.{limits_at, invariant_of, guard_of}
use Rattle.automata.specs.Canonical.{canonical_of, to_drawn}
use Rattle.automata.proofs.canonical.Alike.{Alike}
use Rattle.automata.proofs.canonical.Reading.{lo_same, hi_same}
use Rattle.automata.proofs.canonical.Renumbering.{from_same, to_same, reset_same, row_same, row_within}
use Rattle.automata.proofs.canonical.Shape.{fewer, version_same, clocks_same, locations_same, edges_form}
use Rattle.automata.proofs.canonical.Shape.{form_length_lem, form_formula, form_field}
use Rattle.automata.proofs.canonical.Numbering.{drawn_alike}

-- ---- of any that is alike
module _ (c b : List ℕ) (σ : ℕ → ℕ) (A : Alike c b σ) where
  invariant_lo_same : (l x : ℕ) → l < locations c → 0 < x → x ≤ clocks c → lo_at b (invariant_at b l) x ≡ lo_at c (invariant_at c l) x
  unfolding invariant_in
  invariant_lo_same l x h g k =
      let r = row_same c b σ A l in
      let w = row_within c b σ A l h in
      sym (lo_same A.invariants (8 * clocks c * l) (invariant_at c l) (invariant_at b l) (clocks c) refl r w x g k)

  invariant_hi_same : (l x : ℕ) → l < locations c → 0 < x → x ≤ clocks c → hi_at b (invariant_at b l) x ≡ hi_at c (invariant_at c l) x
  unfolding invariant_in
  invariant_hi_same l x h g k =
      let r = row_same c b σ A l in
      let w = row_within c b σ A l h in
      sym (hi_same A.invariants (8 * clocks c * l) (invariant_at c l) (invariant_at b l) (clocks c) refl r w x g k)

  guard_lo_same : (j x : ℕ) → j < edges c → 0 < x → x ≤ clocks c → lo_at b (edge_at b (σ j) + 3) x ≡ lo_at c (edge_at c j + 3) x
  guard_lo_same j x h g k = sym (lo_same (A.bytes j h) 3 (edge_at c j + 3) (edge_at b (σ j) + 3) (clocks c) refl refl (omega arith) x g k)

  guard_hi_same : (j x : ℕ) → j < edges c → 0 < x → x ≤ clocks c → hi_at b (edge_at b (σ j) + 3) x ≡ hi_at c (edge_at c j + 3) x
  guard_hi_same j x h g k = sym (hi_same (A.bytes j h) 3 (edge_at c j + 3) (edge_at b (σ j) + 3) (clocks c) refl refl (omega arith) x g k)

  alike_accepted : Accepted b → Complete c → length_field c ≡ length c → version c ≡ 1 → Accepted c
  unfolding invariant_of guard_of limits_at
  alike_accepted a w f v =
      let n = A.clocks≡ in
      let m = A.locations≡ in
      record {
        complete = w;
        field = f;
        version≡ = v;
        start< = omega (arith, A.start≡, a.start<);
        target< = omega (arith, A.target≡, a.target<);
        from< = λ j h. omega (arith, from_same c b σ A j h, a.from< (σ j) (A.edge j h));
        to< = λ j h. omega (arith, to_same c b σ A j h, a.to< (σ j) (A.edge j h));
        resets< = λ j h. rw (reset_same c b σ A j h, n) at (a.resets< (σ j) (A.edge j h));
        invariant_lo = λ l x h g k. omega (arith, invariant_lo_same l x h g k, a.invariant_lo l x (omega arith) g (omega arith));
        invariant_hi = λ l x h g k. omega (arith, invariant_hi_same l x h g k, a.invariant_hi l x (omega arith) g (omega arith));
        invariant_present = λ l x h g k. rw (invariant_hi_same l x h g k) at (a.invariant_present l x (omega arith) g (omega arith));
        guard_lo = λ j x h g k. omega (arith, guard_lo_same j x h g k, a.guard_lo (σ j) x (A.edge j h) g (omega arith));
        guard_hi = λ j x h g k. rw (guard_hi_same j x h g k) at (a.guard_hi (σ j) x (A.edge j h) g (omega arith));
      }

-- ---- of the form
module _ (b : List ℕ) (w : Complete b) where
  form_complete : Complete (canonical_of b)
  form_complete =
      let n = clocks_same b w.head in
      let m = locations_same b w.head in
      let e = edges_form b w.head w.edges≤ in
      let l = form_length_lem b w in
      let f = form_formula b w in
      let k = fewer b in
      search (rules, tests)

  pub own_length : length_field (canonical_of b) ≡ length (canonical_of b)
  own_length = ap length_field (sym (append-nil (canonical_of b))) ∙ form_field b w [] ∙ sym (form_length_lem b w)

pub form_accepted : (b : List ℕ) → Accepted b → Accepted (canonical_of b)
form_accepted b a =
    let w = a.complete in
    alike_accepted (canonical_of b) b (to_drawn b) (drawn_alike b w) a (form_complete b w) (own_length b w) (version_same b w.head ∙ a.version≡)
