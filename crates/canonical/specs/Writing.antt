-- Document 02, Change 1: "A writer puts an accepted card's form into a lent buffer."
use Rattle.std.specs.Prelude.{ℕ, cond, List, eqb, ltb, length, Result, Ok, Err}
use Rattle.encoding.specs.Placing.{placed}
use Rattle.automata.specs.Canonical.{canonical_of}
use Rattle.automata.specs.Numbers.{named}
use Rattle.automata.specs.Refusals.{refusal_of}
use Rattle.automata.specs.declared.refusals.Refusal.{Refusal}

-- the number by which b is turned away from a buffer of `room` bytes, 0 for none: 1 to 8, then
-- "13, buffer too short for the ordered card, after 8"
unfoldable pub form_refusal : List ℕ → ℕ → ℕ
form_refusal b room = cond (eqb (refusal_of b) 0) (cond (ltb room (length (canonical_of b))) 13 0) (refusal_of b)

-- what comes of b's form, where it is written, else of that number
abbrev pub of_form : {X : Type 0} → List ℕ → ℕ → (List ℕ → X) → (ℕ → X) → X
of_form b room written refused = cond (eqb (form_refusal b room) 0) (written (canonical_of b)) (refused (form_refusal b room))

-- the form's length, or the refusal
unfoldable pub form_answer : List ℕ → ℕ → Result ℕ Refusal
form_answer b room = of_form b room (λ f. Ok (length f)) (λ k. Err (named k))

-- the buffer s: the form and "Bytes past it are unchanged"; or "buffer untouched"
unfoldable pub form_buffer : List ℕ → List ℕ → List ℕ
form_buffer b s = of_form b (length s) (λ f. placed 0 f s) (λ k. s)
