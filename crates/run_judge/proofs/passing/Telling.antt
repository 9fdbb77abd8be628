-- One step: the judge's test and a run's step are the same.
-- Assumes nothing.
use Prim.Native.Nat.{ℕ, suc, ◌+◌, ◌≤◌, ◌<◌}
use mathlib.Core.Path.{◌≡◌, refl, sym, ap, subst}
use mathlib.Core.Bool.{Bool, true, false, cond}
use mathlib.Core.List.{List}
use native.Mathlib.Omega.{arith}
use borrow.Author.Tests.{ltb-false, leb-false, lt-leb, le-ltb, eqb-true, eq-eqb}
use lib.Dec.{ltb, leb, eqb}
use lib.IntN.{pos}
use Rattle.std.specs.Option.{is_some, unwrap_or}
use Rattle.std.specs.Prelude.{Option, Some, None}
use Rattle.runs.specs.Limits.{scale, Within}
use Rattle.runs.specs.Runs.{Stand, Step, wait, jump, after, Can}
use Rattle.runs.specs.Timed.{Valuation, ticks}
use Rattle.runs.proofs.Contradictions.{true_false}
use Rattle.runs.proofs.Valuations.{later_at}
use Rattle.automata.specs.Accepted.{Accepted}
use Rattle.automata.specs.Automata.{clocks, locations, edges, from, to, edge_at, invariant_at, limits_at, invariant_of, guard_of, resets_of}
use Rattle.automata.specs.Opened.{edge_of}
use Rattle.automata.specs.Semantics.{system_of}
use Rattle.automata.proofs.fields.Resets.{resets_at}
use Rattle.run_judge.specs.declared.state.State.{State}
use Rattle.run_judge.specs.Clocks.{meets_invariant, meets_guard, waited, reset_by, marked_in}
use Rattle.run_judge.specs.Moves.{arrived, wait_move, edge_move, jump_move}
use Rattle.run_judge.specs.Numbers.{capped}
use Rattle.run_judge.proofs.numbers.Numbers.{capped_same}
use Rattle.run_judge.proofs.steps.Readying.{present, on_scale}
use Rattle.run_judge.proofs.passing.Agreeing.{Agrees, wait_agrees, reset_agrees, within_means, means_within}

-- a move that is made passes its test
made_when : {A : Type 0} {m : Option A} {p : A} (t : Bool) → cond t m None ≡ Some p → (t ≡ true) × (m ≡ Some p)
made_when true e = (refl, e)
made_when false e = true_false (sym (ap is_some e))

made_unless : {A : Type 0} {m : Option A} {p : A} (t : Bool) → cond t None m ≡ Some p → (t ≡ false) × (m ≡ Some p)
made_unless true e = true_false (sym (ap is_some e))
made_unless false e = (refl, e)

module _ (b : List ℕ) (a : Accepted b) where
  n≤ : clocks b ≤ 8
  n≤ = a.complete.clocks≤

  abbrev stand : ℕ → Valuation → Stand Valuation
  stand l v = record { at = l; clocks = v }

  -- the clocks after edge i
  abbrev pub reset_of : ℕ → List ℕ → List ℕ
  reset_of i c = reset_by (marked_in (edge_of b i).resets) (clocks b) c

  -- a move to p is the step x
  pub record Made (l : ℕ) (v : Valuation) (p : State) (x : Step) : Type 0 where
    pub can : Can (system_of b) 1 0 (stand l v) x
    pub location : p.location ≡ (after (system_of b) (stand l v) x).at
    pub agrees : Agrees (clocks b) p.clocks (after (system_of b) (stand l v) x).clocks

  module _ (c : List ℕ) (v : Valuation) (y : Agrees (clocks b) c v) where
    -- ---- limits and resets
    pub invariant_means : (l : ℕ) → meets_invariant b l c ≡ true → Within 1 0 (clocks b) (invariant_of b l) (ticks v)
    unfolding invariant_of
    invariant_means l = within_means (clocks b) n≤ c v y b (invariant_at b l)

    pub means_invariant : (l : ℕ) → Within 1 0 (clocks b) (invariant_of b l) (ticks v) → meets_invariant b l c ≡ true
    unfolding invariant_of
    means_invariant l = means_within (clocks b) n≤ c v y b (invariant_at b l)

    guard_means : (i : ℕ) → meets_guard b i c ≡ true → Within 1 0 (clocks b) (guard_of b i) (ticks v)
    unfolding guard_of
    guard_means i = within_means (clocks b) n≤ c v y b (edge_at b i + 3)

    means_guard : (i : ℕ) → Within 1 0 (clocks b) (guard_of b i) (ticks v) → meets_guard b i c ≡ true
    unfolding guard_of
    means_guard i = means_within (clocks b) n≤ c v y b (edge_at b i + 3)

    pub waits_agree : (l t : ℕ) → Agrees (clocks b) (waited t (clocks b) c) (after (system_of b) (stand l v) (wait t)).clocks
    waits_agree l t = wait_agrees (clocks b) n≤ c v y t

    pub jumps_agree : (l i : ℕ) → Agrees (clocks b) (reset_of i c) (after (system_of b) (stand l v) (jump i)).clocks
    jumps_agree l i = reset_agrees (clocks b) n≤ c v y _ (resets_of b i) (λ x h. resets_at b i (suc x) (omega (arith, n≤)))

  -- ---- what is made is a step
  module _ (q : State) (v : Valuation) (y : Agrees (clocks b) q.clocks v) where
    abbrev l : ℕ
    l = q.location

    pub wait_tells : (t : ℕ) {p : State} → wait_move b q t ≡ Some p → (t ≤ scale) × Made l v p (wait t)
    unfolding wait_move arrived
    wait_tells t {p} e =
        let f = made_unless (ltb scale t) e in
        let g = made_when (meets_invariant b l (waited t (clocks b) q.clocks)) f.1 in
        let z = waits_agree q.clocks v y l t in
        let made : Made l v (record { location = l; clocks = waited t (clocks b) q.clocks }) (wait t) =
        record { can = invariant_means _ _ z l g.0; location = refl; agrees = z } in
        (ltb-false scale t f.0, subst (λ p. Made l v p (wait t)) (ap (λ o. unwrap_or o p) g.1) made)

    pub jump_tells : (i : ℕ) {p : State} → jump_move b q i ≡ Some p → (i < edges b) × Made l v p (jump i)
    unfolding jump_move edge_move arrived
    jump_tells i {p} e =
        let f = made_unless (leb (edges b) i) e in
        let g = made_when (eqb (from b i) l) f.1 in
        let h = made_when (meets_guard b i q.clocks) g.1 in
        let k = made_when (meets_invariant b (to b i) (reset_of i q.clocks)) h.1 in
        let there = leb-false (edges b) i f.0 in
        let z = jumps_agree q.clocks v y l i in
        let made : Made l v (record { location = to b i; clocks = reset_of i q.clocks }) (jump i) =
        record {
          can = (there, eqb-true (from b i) l g.0, guard_means q.clocks v y i h.0, invariant_means _ _ z (to b i) k.0);
          location = refl;
          agrees = z;
        } in
        (there, subst (λ p. Made l v p (jump i)) (ap (λ o. unwrap_or o p) k.1) made)

    -- ---- and a step is made: no wait of a run is above every limit, as every clock has an upper one
    wait_low : (t : ℕ) → l < locations b → Can (system_of b) 1 0 (stand l v) (wait t) → t ≤ scale
    unfolding invariant_of limits_at
    wait_low t h k =
        let some = a.complete.clocks≥ in
        omega (
          arith,
          (k 1 (omega arith) (omega arith)).most (present b a l 0 h some),
          on_scale b a l 0 h some,
          later_at t v 0 (omega (arith, y.count, some)),
        )

    pub wait_made : (t : ℕ) → l < locations b → Can (system_of b) 1 0 (stand l v) (wait t) →
        (capped (pos t) ≡ t) × (wait_move b q t ≡ Some (record { location = l; clocks = waited t (clocks b) q.clocks }))
    unfolding wait_move arrived
    wait_made t h k =
        let s = wait_low t h k in
        (capped_same t s, rw (le-ltb scale t s) (rw (means_invariant _ _ (waits_agree q.clocks v y l t) l k)))

    pub jump_made : (i : ℕ) → Can (system_of b) 1 0 (stand l v) (jump i) →
        (capped (pos i) ≡ i) × (jump_move b q i ≡ Some (record { location = to b i; clocks = reset_of i q.clocks }))
    unfolding jump_move edge_move arrived
    jump_made i k = (
      capped_same i (omega (arith, k.0, a.complete.edges≤)),
      rw (lt-leb (edges b) i k.0) (rw (eq-eqb (from b i) l k.1) (rw (means_guard q.clocks v y i k.2)
          (rw (means_invariant _ _ (jumps_agree q.clocks v y l i) (to b i) k.3)))),
    )
