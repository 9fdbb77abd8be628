-- One law for each way out of a wait and of a jump.
-- Assumes nothing.
use Prim.Native.Nat.{ℕ, suc, ◌≤◌, ◌<◌}
use mathlib.Core.Path.{◌≡◌, refl, sym, ap, ◌∙◌}
use mathlib.Core.Bool.{Bool, true, false, cond}
use mathlib.Core.List.{List, ◌++◌}
use native.Mathlib.Omega.{arith}
use borrow.Author.Tests.{lt-ltb, le-ltb, le-leb, lt-leb, eq-eqb, ne_eqb}
use lib.IntN.{ℤ}
use lib.ListN.{length, take, drop}
use Rattle.std.specs.Prelude.{⊤, Option, Some, None, MatchOption}
use Rattle.runs.specs.Limits.{scale}
use Rattle.automata.specs.Automata.{clocks, edges, from}
use Rattle.automata.specs.Constraints.{Constrains}
use Rattle.automata.specs.Opened.{edge_of}
use Rattle.automata.specs.declared.constraint.Constraint.{Constraint}
use Rattle.automata.specs.declared.fields.Edge.{Edge}
use Rattle.run_judge.specs.declared.state.State.{State}
use Rattle.run_judge.specs.Clocks.{within_at, meets_guard, waited, reset_by, marked_in}
use Rattle.run_judge.specs.Moves.{arrived, wait_move, edge_move, jump_move}
use Rattle.run_judge.specs.Numbers.{capped}
use Rattle.run_judge.proofs.clocks.Showing.{lent_waited, lent_reset}
use Rattle.run_judge.proofs.numbers.Numbers.{natural, natural_is, capped_beyond, capped_natural}

-- an invariant or a guard, as it is fetched
pub constrained : {b : List ℕ} {at : ℕ} (k : Constraint) → Constrains b at k → (c : List ℕ) {met : Bool} →
    met ≡ within_at k.bytes.now k.at c k.clocks → met ≡ within_at b at c (clocks b)
constrained k e c f = f ∙ (λ j. within_at (e.bytes≡ j) (e.at≡ j) c (e.clocks≡ j))

module _ (b : List ℕ) (q : State) (z : ℤ) where
  -- ---- a wait
  pub wait_none : {o : Option ℕ} → natural z ≡ o → MatchOption o ⊤ (λ t. scale < t) → wait_move b q (capped z) ≡ None
  unfolding wait_move
  wait_none e h = rw (lt-ltb scale (capped z) (capped_beyond z (suc scale) (omega arith) e h)) refl

  pub wait_is : {t : ℕ} → natural z ≡ Some t → t ≤ scale → {n : ℕ} {d : List ℕ} → n ≡ clocks b → n ≤ length q.clocks →
      d ≡ waited t (length (take n q.clocks)) (take n q.clocks) →
      wait_move b q (capped z) ≡ arrived b (record { location = q.location; clocks = d ++ drop n q.clocks })
  unfolding wait_move
  wait_is {t} e h en k ed = rw (capped_natural z e h) (rw (le-ltb scale t h) (rw (lent_waited _ q.clocks k t _ ed) (rw en refl)))

  -- ---- a jump
  module _ (few : edges b ≤ 256) where
    pub jump_none : {o : Option ℕ} → natural z ≡ o → MatchOption o ⊤ (λ i. edges b ≤ i) → jump_move b q (capped z) ≡ None
    unfolding jump_move
    jump_none e h = rw (le-leb (edges b) (capped z) (capped_beyond z (edges b) (omega (arith, few)) e h)) refl

    module _ {i : ℕ} (e : natural z ≡ Some i) (h : i < edges b) {g : Edge} (fetched : g ≡ edge_of b i) where
      is : capped z ≡ i
      is = capped_natural z e (omega (arith, h, few))

      pub jump_elsewhere : (g.from ≡ q.location → ⊥) → jump_move b q (capped z) ≡ None
      unfolding jump_move
      jump_elsewhere f =
          rw is (rw (lt-leb (edges b) i h) (rw (ne_eqb (from b i) q.location (λ p. f (ap (λ (x : Edge). x.from) fetched ∙ p))) refl))

      module _ (f : g.from ≡ q.location) {met : Bool} (guarded : met ≡ meets_guard b i q.clocks) where
        at_guard : jump_move b q (capped z)
            ≡ cond met (arrived b (record { location = g.to; clocks = reset_by (marked_in g.resets) (clocks b) q.clocks })) None
        unfolding jump_move edge_move
        at_guard =
            rw is (rw (lt-leb (edges b) i h) (rw (eq-eqb (from b i) q.location (sym (ap (λ (x : Edge). x.from) fetched) ∙ f)) (rw guarded
            (rw fetched refl))))

        pub jump_unguarded : met ≡ false → jump_move b q (capped z) ≡ None
        jump_unguarded m = rw m at at_guard

        pub jump_taken : met ≡ true → {n : ℕ} {d : List ℕ} → n ≡ clocks b → n ≤ length q.clocks →
            d ≡ reset_by (marked_in g.resets) (length (take n q.clocks)) (take n q.clocks) →
            jump_move b q (capped z) ≡ arrived b (record { location = g.to; clocks = d ++ drop n q.clocks })
        jump_taken m en k ed = rw (lent_reset _ q.clocks k _ _ ed) (rw en (rw m at at_guard))

-- ---- the ways out of a wait and of a jump
pub ruleset wait_ways = (natural_is, wait_none)

pub ruleset jump_ways = (natural_is, constrained, jump_none, jump_elsewhere, jump_unguarded, jump_taken)
