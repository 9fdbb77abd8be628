-- What comes of writing a form, by its two cases: written, or refused by a number.
-- Assumes nothing.
use Prim.Native.Nat.{ℕ, ◌≤◌}
use mathlib.Core.Bool.{Bool, true, false, cond}
use mathlib.Core.List.{List}
use mathlib.Core.Path.{◌≡◌, refl, sym, ap, ◌∙◌, subst}
use borrow.Author.Tests.{eqb-true, eqb-false, eq-eqb, ne_eqb, ltb-false}
use lib.Dec.{eqb, ltb}
use lib.ListN.{length, take, drop}
use lib.Seq.{take_at}
use native.Mathlib.Nat.{zero-add}
use native.Mathlib.Omega.{arith}
use Rattle.std.specs.Prelude.{Result, Ok, Err}
use Rattle.encoding.specs.Placing.{placed}
use Rattle.automata.specs.Canonical.{canonical_of}
use Rattle.automata.specs.Numbers.{number, named}
use Rattle.automata.specs.Refusals.{refusal_of}
use Rattle.automata.specs.declared.refusals.Refusal.{Refusal}
use Rattle.automata.proofs.accepting.Numbering.{named_refusal}
use Rattle.canonical.specs.Writing.{form_refusal, form_answer, form_buffer}

-- ---- the two cases
pub data Writing (b : List ℕ) (room : ℕ) : Type 0 where
  written : form_refusal b room ≡ 0 → Writing b room
  refused : (form_refusal b room ≡ 0 → ⊥) → Writing b room

pub writing : (b : List ℕ) (room : ℕ) → Writing b room
writing b room = go (eqb (form_refusal b room) 0) refl
  where
    go : (t : Bool) → eqb (form_refusal b room) 0 ≡ t → Writing b room
    go true e = written (eqb-true (form_refusal b room) 0 e)
    go false e = refused (eqb-false (form_refusal b room) 0 e)

-- ---- written: neither turned down at reading, nor by 13
module _ (b : List ℕ) (room : ℕ) (z : form_refusal b room ≡ 0) where
  pub form_free : refusal_of b ≡ 0
  unfolding form_refusal
  form_free = go (eqb (refusal_of b) 0) refl z
    where
      go : (t : Bool) → eqb (refusal_of b) 0 ≡ t → cond t (cond (ltb room (length (canonical_of b))) 13 0) (refusal_of b) ≡ 0 → refusal_of b ≡ 0
      go true e h = eqb-true (refusal_of b) 0 e
      go false e h = h

  pub form_fits : length (canonical_of b) ≤ room
  unfolding form_refusal
  form_fits =
      let free = eq-eqb (refusal_of b) 0 form_free in
      let passed = sym (ap (λ (t : Bool). cond t (cond (ltb room (length (canonical_of b))) 13 0) (refusal_of b)) free) ∙ z in
      go (ltb room (length (canonical_of b))) refl passed
    where
      go : (t : Bool) → ltb room (length (canonical_of b)) ≡ t → ◌≡◌ {A = ℕ} (cond t 13 0) 0 → length (canonical_of b) ≤ room
      go true e h = absurd (omega (arith, h))
      go false e h = ltb-false room (length (canonical_of b)) e

-- ---- a number that turns away is that of its refusal
pub number_refused : (b : List ℕ) (room : ℕ) → (form_refusal b room ≡ 0 → ⊥) → number (named (form_refusal b room)) ≡ form_refusal b room
unfolding form_refusal
number_refused b room n = go (eqb (refusal_of b) 0) refl (ltb room (length (canonical_of b))) n
  where
    go : (t : Bool) → eqb (refusal_of b) 0 ≡ t → (u : Bool) → (cond t (cond u 13 0) (refusal_of b) ≡ 0 → ⊥)
        → number (named (cond t (cond u 13 0) (refusal_of b))) ≡ cond t (cond u 13 0) (refusal_of b)
    go true e true m = refl
    go true e false m = absurd (m refl)
    go false e u m = named_refusal b (omega (arith, eqb-false (refusal_of b) 0 e))

-- ---- the answer says which
abbrev pub Says : List ℕ → ℕ → Result ℕ Refusal → Type 0
Says b room (Ok n) = (form_refusal b room ≡ 0) × (n ≡ length (canonical_of b))
Says b room (Err k) = (form_refusal b room ≡ 0 → ⊥) × (number k ≡ form_refusal b room)

pub answer_says : (b : List ℕ) (room : ℕ) {r : Result ℕ Refusal} → r ≡ form_answer b room → Says b room r
unfolding form_answer
answer_says b room {r} e = subst (Says b room) (sym e) (go (writing b room))
  where
    go : Writing b room → Says b room (form_answer b room)
    go (written z) = rw (form_answer, eq-eqb (form_refusal b room) 0 z) (z, refl)
    go (refused n) = rw (form_answer, ne_eqb (form_refusal b room) 0 n) (n, number_refused b room n)

-- ---- and what is read of the buffer is the form
pub written_form : (b s : List ℕ) (n : ℕ) → form_refusal b (length s) ≡ 0 → n ≡ length (canonical_of b) → take n (form_buffer b s) ≡ canonical_of b
unfolding form_buffer placed
written_form b s n z e =
    rw (eq-eqb (form_refusal b (length s)) 0 z) (simp zero-add (take_at (canonical_of b) (drop (length (canonical_of b)) s) n (sym e)))
