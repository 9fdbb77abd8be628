-- The loop over the stretches, and its ends.
-- Assumes nothing.
use Prim.Native.Nat.{ℕ, ◌<◌}
use mathlib.Core.Path.{◌≡◌, refl, sym, ◌∙◌}
use mathlib.Core.Bool.{Bool, false, cond}
use mathlib.Core.List.{List}
use borrow.Author.Tests.{eq-eqb, ne_eqb}
use denote.Ref.{Bor}
use lib.IntN.{ℤ}
use lib.ListN.{length, replicate}
use lib.Seq.{slice}
use Rattle.std.specs.Prelude.{Some, None}
use Rattle.automata.specs.Automata.{start}
use Rattle.run_judge.specs.declared.state.State.{State}
use Rattle.run_judge.specs.declared.steps.Ready.{Ready}
use Rattle.run_judge.specs.declared.stretches.Left.{Left}
use Rattle.run_judge.specs.Clocks.{meets_invariant}
use Rattle.run_judge.specs.Judging.{waits_from, begins, passes_to}
use Rattle.run_judge.specs.Moves.{arrived, first_move}
use Rattle.run_judge.specs.Steps.{Leads}
use Rattle.run_judge.specs.Stretches.{waits, Rest, Handed}

-- ---- what the numbers of a run come to: by their count, then by their first state
module _ (b : List ℕ) (r : List ℤ) (end : ℕ) where
  pub passes_none : end ≡ 0 → false ≡ passes_to b r end
  unfolding passes_to
  passes_none e = rw (eq-eqb end 0 e) refl

  pub passes_some : (end ≡ 0 → ⊥) → begins b (slice 1 end r) ≡ passes_to b r end
  unfolding passes_to
  passes_some h = rw (ne_eqb end 0 h) refl

pub started : (b : List ℕ) {t : Bool} → meets_invariant b (start b) (replicate 8 0) ≡ t →
    first_move b ≡ cond t (Some (record { location = start b; clocks = replicate 8 0 })) None
unfolding first_move arrived
started b e = rw e refl

module _ (b : List ℕ) (zs : List ℤ) where
  pub begins_none : first_move b ≡ None → begins b zs ≡ false
  unfolding begins
  begins_none e = rw (e, begins) refl

  pub begins_some : {q : State} → first_move b ≡ Some q → begins b zs ≡ waits_from b zs q
  unfolding begins
  begins_some e = rw (e, begins) refl

-- ---- the loop begins with the first state, if there is one
module _ (b : List ℕ) (zs : Bor (List ℤ)) where
  pub passes_out : Leads b (first_move b) None → false ≡ begins b zs.now
  passes_out e = sym (begins_none b zs.now e)

  pub passes-start : (p : Ready) → Leads b (first_move b) (Some p) → Rest b (begins b zs.now) (record { ready = p; numbers = zs })
  passes-start p e = record { automaton = e.0; same = rw e.0 (sym (begins_some b zs.now e.1)) }

-- ---- it goes on with what a stretch leaves, and is over where one has an answer
module _ {b : List ℕ} {t : Bool} (l : Left) (i : Rest b t l) (m : Left) where
  pub rest_next : Handed l (waits l) m None → Rest b t m
  rest_next s = record { automaton = s.0.automaton ∙ i.automaton; same = s.0.same ∙ i.same }

  pub rest_over : (u : Bool) → Handed l (waits l) m (Some u) → u ≡ t
  rest_over u s = s ∙ i.same

-- the measure: the numbers that are left
abbrev pub left : Left → ℕ
left l = length l.numbers.now

pub less : (l m : Left) (t : Bool) → Handed l t m None → left m < left l
less l m t s = s.1
