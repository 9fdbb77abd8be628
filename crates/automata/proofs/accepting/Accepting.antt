-- An automaton is accepted exactly where none of 1 to 8 turns it down: each test that it passes, as a fact.
-- Assumes nothing.
use Prim.Native.Nat.{ℕ, zero, suc, ◌+◌, ◌^◌, ◌<◌, ◌≤◌}
use mathlib.Core.Path.{◌≡◌, refl, ◌∙◌}
use mathlib.Core.Bool.{Bool, true, false, not, cond, ◌&&◌, ◌||◌}
use mathlib.Core.List.{List}
use mathlib.Core.Logic.{◌↔◌}
use borrow.Author.Tests.{leb-false, le-ltb, lt-leb, eq-eqb}
use lib.Dec.{ltb, leb, eqb}
use lib.ListN.{length}
use native.Mathlib.Nat.{not-suc-le-zero}
use native.Mathlib.Omega.{arith}
use Rattle.runs.specs.Limits.{scale}
use Rattle.runs.proofs.Contradictions.{true_false}
use Rattle.std.proofs.Common.{rules, tests}
use Rattle.automata.specs.Accepted.{Accepted, Complete}
use Rattle.automata.specs.Automata.{length_field, version, clocks, locations, edges, start, target, from, to, reset_byte, formula, lo_at, hi_at}
use Rattle.automata.specs.Automata.{no_upper, limits_at, invariant_at, edge_at, invariant_of, guard_of, resets_of}
use Rattle.automata.specs.Refusals.{some, counts_out_of_range, misplaced, no_such_location, no_such_clock, out_of_range, out_of_range_at}
use Rattle.automata.specs.Refusals.{invariant_out_of_range, guard_out_of_range, limit_out_of_range, refusal_of}
use Rattle.automata.proofs.fields.Resets.{no_bit}
use Rattle.automata.proofs.accepting.Some.{fails, none}

-- a test that fails
pub neither : (a b : Bool) → (a || b) ≡ false → (a ≡ false) × (b ≡ false)
neither true b e = true_false e
neither false b e = (refl, e)

-- ---- the numbers
pub refusal_small : (s : List ℕ) → refusal_of s ≤ 8
unfolding refusal_of
refusal_small s = search (rules, tests)

passed : (t : Bool) (k r : ℕ) → cond t (suc k) r ≡ 0 → (t ≡ false) × (r ≡ 0)
passed true k r e = absurd (omega arith)
passed false k r e = (refl, e)

record Passed (s : List ℕ) : Type 0 where
  pub head : 11 ≤ length s
  pub field : length_field s ≡ length s
  pub version≡ : version s ≡ 1
  pub size : length s ≡ formula s
  pub counts : counts_out_of_range s ≡ false
  pub places : no_such_location s ≡ false
  pub resets : no_such_clock s ≡ false
  pub limits : limit_out_of_range s ≡ false

passes : (s : List ℕ) → refusal_of s ≡ 0 → Passed s
unfolding refusal_of
passes s e =
    let p1 = passed (ltb (length s) 11) 0 _ e in
    let p2 = passed (not (eqb (length_field s) (length s))) 1 _ p1.1 in
    let p3 = passed (not (eqb (version s) 1)) 2 _ p2.1 in
    let p4 = passed (counts_out_of_range s) 3 _ p3.1 in
    let p5 = passed (not (eqb (length_field s) (formula s))) 4 _ p4.1 in
    let p6 = passed (no_such_location s) 5 _ p5.1 in
    let p7 = passed (no_such_clock s) 6 _ p6.1 in
    let p8 = passed (limit_out_of_range s) 7 _ p7.1 in
    search (rules, tests)

-- ---- limits
record InRange (mayLack : Bool) (lo hi : ℕ) : Type 0 where
  pub lo≤ : lo ≤ scale
  pub hi≤ : (mayLack && eqb hi no_upper) ≡ false → hi ≤ scale

in_range : (mayLack : Bool) (lo hi : ℕ) → out_of_range mayLack lo hi ≡ false → InRange mayLack lo hi
in_range mayLack lo hi e = search (rules, tests)

all_in_range : (s : List ℕ) (mayLack : Bool) (at : ℕ) → out_of_range_at s mayLack at ≡ false → (x : ℕ) → 0 < x → x ≤ clocks s
    → InRange mayLack (lo_at s at x) (hi_at s at x)
unfolding out_of_range_at
all_in_range s mayLack at e zero h g = absurd (not-suc-le-zero h)
all_in_range s mayLack at e (suc x) h g =
    in_range mayLack _ _ (fails (λ x. out_of_range mayLack (lo_at s at (suc x)) (hi_at s at (suc x))) (clocks s) e x g)

present : {lo hi : ℕ} → InRange false lo hi → eqb hi no_upper ≡ false
present r = search (rules, tests)

-- ---- all of them
pub complete : (s : List ℕ) → 11 ≤ length s → counts_out_of_range s ≡ false → length s ≡ formula s → Complete s
complete s h e g = search (rules, tests)

module _ (s : List ℕ) (p : Passed s) where
  edge_ends : (i : ℕ) → i < edges s → misplaced (locations s) (from s i) (to s i) ≡ false
  edge_ends = fails _ (edges s) (neither (misplaced (locations s) (start s) (target s)) _ p.places).1

  few_resets : (i : ℕ) → i < edges s → reset_byte s i < 2 ^ clocks s
  few_resets i h = leb-false _ _ (fails (λ i. leb (2 ^ clocks s) (reset_byte s i)) (edges s) p.resets i h)

  limits : (invariant_out_of_range s ≡ false) × (guard_out_of_range s ≡ false)
  limits = neither (invariant_out_of_range s) _ p.limits

  invariant_fits : (l x : ℕ) → l < locations s → 0 < x → x ≤ clocks s → InRange false (lo_at s (invariant_at s l) x) (hi_at s (invariant_at s l) x)
  invariant_fits l x h = all_in_range s false (invariant_at s l) (fails _ (locations s) limits.0 l h) x

  guard_fits : (i x : ℕ) → i < edges s → 0 < x → x ≤ clocks s → InRange true (lo_at s (edge_at s i + 3) x) (hi_at s (edge_at s i + 3) x)
  guard_fits i x h = all_in_range s true (edge_at s i + 3) (fails _ (edges s) limits.1 i h) x

  passed_all : Accepted s
  unfolding resets_of invariant_of guard_of limits_at
  passed_all =
      record {
        complete = complete s p.head p.counts p.size;
        field = p.field;
        version≡ = p.version≡;
        start< = search (rules, tests);
        target< = search (rules, tests);
        from< = λ i h. let e = edge_ends i h in search (rules, tests);
        to< = λ i h. let e = edge_ends i h in search (rules, tests);
        resets< = few_resets;
        invariant_lo = λ l x h g k. (invariant_fits l x h g k).lo≤;
        invariant_hi = λ l x h g k. (invariant_fits l x h g k).hi≤ refl;
        invariant_present = λ l x h g k. present (invariant_fits l x h g k);
        guard_lo = λ i x h g k. (guard_fits i x h g k).lo≤;
        guard_hi = λ i x h g k. (guard_fits i x h g k).hi≤;
      }

pub accepted : (s : List ℕ) → refusal_of s ≡ 0 → Accepted s
accepted s e = passed_all s (passes s e)

-- no clock above n is reset
pub unreset : (s : List ℕ) → Accepted s → (i x : ℕ) → i < edges s → clocks s < x → resets_of s i x ≡ false
unfolding resets_of
unreset s a i x h g = no_bit (reset_byte s i) (clocks s) x (a.resets< i h) g

-- ---- and back: none of the tests turns down an accepted one
within : (mayLack : Bool) (lo hi : ℕ) → InRange mayLack lo hi → out_of_range mayLack lo hi ≡ false
within mayLack lo hi r = search (rules, tests)

module _ (s : List ℕ) (a : Accepted s) where
  limits-within : (mayLack : Bool) (at : ℕ) → ((x : ℕ) → 0 < x → x ≤ clocks s → InRange mayLack (lo_at s at x) (hi_at s at x)) →
      out_of_range_at s mayLack at ≡ false
  unfolding out_of_range_at
  limits-within mayLack at h = none _ (clocks s) (λ x g. within mayLack _ _ (h (suc x) (omega arith) g))

  counted : counts_out_of_range s ≡ false
  counted = search (rules, tests)

  edges_placed : some (edges s) (λ i. misplaced (locations s) (from s i) (to s i)) ≡ false
  edges_placed = none _ (edges s) (λ i h. let p = a.from< i h in let q = a.to< i h in search (rules, tests))

  placed : no_such_location s ≡ false
  placed = let e = edges_placed in search (rules, tests)

  ranged : limit_out_of_range s ≡ false
  unfolding invariant_of guard_of limits_at
  ranged =
      rw (
        none (λ l. out_of_range_at s false (invariant_at s l)) (locations s)
            (λ l h. limits-within false (invariant_at s l) (λ x g k. record { lo≤ = a.invariant_lo l x h g k; hi≤ = λ e. a.invariant_hi l x h g k })),
        none (λ i. out_of_range_at s true (edge_at s i + 3)) (edges s)
            (λ i h. limits-within true (edge_at s i + 3) (λ x g k. record { lo≤ = a.guard_lo i x h g k; hi≤ = λ e. a.guard_hi i x h g k e })),
      )

  refused_by_none : refusal_of s ≡ 0
  unfolding refusal_of
  refused_by_none =
      let c = a.complete in
      rw (
        le-ltb _ _ c.head,
        eq-eqb _ _ a.field,
        eq-eqb _ _ a.version≡,
        counted,
        eq-eqb (length_field s) (formula s) (a.field ∙ c.size),
        placed,
        none (λ i. leb (2 ^ clocks s) (reset_byte s i)) (edges s) (λ i h. lt-leb _ _ (a.resets< i h)),
        ranged,
      )

pub free : (s : List ℕ) → Accepted s ↔ (refusal_of s ≡ 0)
free s = (refused_by_none s, accepted s)
