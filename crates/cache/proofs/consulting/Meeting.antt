-- What is asked of an automaton as drawn, by what writing its form answered: it is asked of what was written, or comes of the refusal.
-- Assumes nothing.
use Prim.Native.Nat.{ℕ, ◌≤◌}
use mathlib.Core.List.{List}
use mathlib.Core.Path.{◌≡◌, sym, ap, ◌∙◌}
use borrow.Author.Tests.{eq-eqb, ne_eqb}
use lib.ListN.{length, take}
use lib.Seq.{length-take-le}
use native.Mathlib.Omega.{arith}
use Rattle.std.specs.Prelude.{Result, Ok, Err}
use Rattle.automata.specs.Numbers.{number}
use Rattle.automata.specs.declared.refusals.Refusal.{Refusal}
use Rattle.canonical.specs.Writing.{form_refusal, of_form, form_answer, form_buffer}
use Rattle.canonical.proofs.Answers.{answer_says, form_fits, written_form}

module _ (b f : List ℕ) {w : Result ℕ Refusal} (e : w ≡ form_answer b (length f)) where
  pub form_within : {n m : ℕ} → w ≡ Ok n → m ≡ length f → n ≤ m
  form_within is k = let q = answer_says b (length f) (sym is ∙ e) in omega (arith, form_fits b (length f) q.0, q.1, k)

  pub form_taken : (n : ℕ) (f' : List ℕ) → w ≡ Ok n → length f' ≡ length f → n ≡ length (take n f')
  form_taken n f' is k = sym (length-take-le n f' (form_within is k))

  module _ {X : Type 0} (g : List ℕ → X) (h : ℕ → X) where
    pub of_written : {n : ℕ} {f' : List ℕ} → w ≡ Ok n → f' ≡ form_buffer b f → g (take n f') ≡ of_form b (length f) g h
    of_written {n} is after =
        let q = answer_says b (length f) (sym is ∙ e) in
        rw (eq-eqb (form_refusal b (length f)) 0 q.0) (ap g (ap (take n) after ∙ written_form b f n q.0 q.1))

    pub of_refused : {k : Refusal} → w ≡ Err k → h (number k) ≡ of_form b (length f) g h
    of_refused is = let q = answer_says b (length f) (sym is ∙ e) in rw (ne_eqb (form_refusal b (length f)) 0 q.0) (ap h q.1)
