-- The ways of writing a form: turned away at reading, turned away by 13, or written.
-- Assumes nothing.
use Prim.Native.Nat.{ℕ, ◌≤◌, ◌<◌}
use mathlib.Core.List.{List}
use mathlib.Core.Path.{◌≡◌, refl, sym, ap, ◌∙◌}
use borrow.Author.Tests.{eq-eqb, ne_eqb, lt-ltb, le-ltb}
use lib.ListN.{length}
use native.Mathlib.Omega.{arith}
use Rattle.std.specs.Prelude.{Result, Ok, Err}
use Rattle.encoding.specs.Placing.{placed}
use Rattle.automata.specs.Accepted.{Accepted}
use Rattle.automata.specs.Canonical.{canonical_of}
use Rattle.automata.specs.Numbers.{number, named}
use Rattle.automata.specs.Refusals.{refusal_of}
use Rattle.automata.specs.declared.refusals.Refusal.{Refusal}
use Rattle.automata.specs.declared.refusals.Refusal.TheVariants.{FormTooLong}
use Rattle.automata.proofs.accepting.Accepting.{free}
use Rattle.automata.proofs.accepting.Numbering.{above, named_number}
use Rattle.canonical.specs.Writing.{form_refusal, form_answer, form_buffer}

-- what is answered, and what the buffer is then
abbrev pub Writes : (b form : List ℕ) → Result ℕ Refusal → List ℕ → Type 0
Writes b form r now = (r ≡ form_answer b (length form)) × (now ≡ form_buffer b form)

module _ (b form : List ℕ) where
  -- by the number that turns away
  turned_away : (k : Refusal) → number k ≡ form_refusal b (length form) → Writes b form (Err k) form
  unfolding form_answer form_buffer
  turned_away k e =
      let n = ne_eqb (form_refusal b (length form)) 0 (λ q. absurd (omega (arith, e, above k))) in
      (rw n (ap Err (sym (named_number k) ∙ ap named e)), rw n)

  let_in : form_refusal b (length form) ≡ 0 → {total : ℕ} {now : List ℕ} → total ≡ length (canonical_of b) → now ≡ placed 0 (canonical_of b) form
      → Writes b form (Ok total) now
  unfolding form_answer form_buffer
  let_in e t p = let n = eq-eqb (form_refusal b (length form)) 0 e in (rw n (ap Ok t), rw n p)

  pub refused : (k : Refusal) → number k ≡ refusal_of b → Writes b form (Err k) form
  unfolding form_refusal
  refused k e = turned_away k (rw (ne_eqb (refusal_of b) 0 (λ q. absurd (omega (arith, e, above k)))) e)

  module _ (a : Accepted b) where
    pub short : {total : ℕ} → total ≡ length (canonical_of b) → length form < total → Writes b form (Err FormTooLong) form
    unfolding form_refusal
    short t h =
        turned_away FormTooLong (rw (eq-eqb (refusal_of b) 0 ((free b).0 a), lt-ltb (length form) (length (canonical_of b)) (omega arith)) refl)

    pub written : {total : ℕ} {now : List ℕ} → total ≡ length (canonical_of b) → total ≤ length form → now ≡ placed 0 (canonical_of b) form
        → Writes b form (Ok total) now
    unfolding form_refusal
    written t h p =
        let_in (rw (eq-eqb (refusal_of b) 0 ((free b).0 a), le-ltb (length form) (length (canonical_of b)) (omega arith)) refl) t p
