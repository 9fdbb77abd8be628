-- What is asked of an automaton as drawn, by its two cases: its form is written, and then all is that of the form; or it is refused.
-- Assumes nothing.
use Prim.Native.Nat.{ℕ}
use mathlib.Core.List.{List}
use mathlib.Core.Path.{◌≡◌, refl}
use borrow.Author.Tests.{eq-eqb, ne_eqb}
use lib.IntN.{ℤ}
use Rattle.automata.specs.Canonical.{canonical_of}
use Rattle.canonical.specs.Writing.{form_refusal}
use Rattle.std.specs.Prelude.{Err}
use Rattle.automata.specs.Numbers.{named}
use Rattle.cache.specs.Versions.{version1}
use Rattle.cache.specs.Consulting.{look_up_as, consult_answer_as, consult_cache_as, consult_store_as}
use Rattle.cache.specs.Drawn.{look_up_in, consult_answer, consult_cache, consult_store}

module _ (c b : List ℕ) (room : ℕ) where
  module _ (z : form_refusal b room ≡ 0) where
    pub looks_form : look_up_in c b room ≡ look_up_as version1 c (canonical_of b)
    unfolding look_up_in
    looks_form = rw (look_up_in, eq-eqb (form_refusal b room) 0 z) refl

    pub answers_form : (amount : ℕ) → consult_answer c b room amount ≡ consult_answer_as version1 c (canonical_of b) amount
    unfolding consult_answer
    answers_form amount = rw (consult_answer, eq-eqb (form_refusal b room) 0 z) refl

    pub leaves_form : (amount : ℕ) → consult_cache c b room amount ≡ consult_cache_as version1 c (canonical_of b) amount
    unfolding consult_cache
    leaves_form amount = rw (consult_cache, eq-eqb (form_refusal b room) 0 z) refl

    pub stores_form : (s : List ℤ) → consult_store c b room s ≡ consult_store_as version1 c (canonical_of b) s
    unfolding consult_store
    stores_form s = rw (consult_store, eq-eqb (form_refusal b room) 0 z) refl

  module _ (n : form_refusal b room ≡ 0 → ⊥) where
    pub looks_refused : look_up_in c b room ≡ Err (named (form_refusal b room))
    unfolding look_up_in
    looks_refused = rw (look_up_in, ne_eqb (form_refusal b room) 0 n) refl

    pub answers_refused : (amount : ℕ) → consult_answer c b room amount ≡ Err (named (form_refusal b room))
    unfolding consult_answer
    answers_refused amount = rw (consult_answer, ne_eqb (form_refusal b room) 0 n) refl

    pub leaves-refused : (amount : ℕ) → consult_cache c b room amount ≡ c
    unfolding consult_cache
    leaves-refused amount = rw (consult_cache, ne_eqb (form_refusal b room) 0 n) refl

    pub stores_refused : (s : List ℤ) → consult_store c b room s ≡ s
    unfolding consult_store
    stores_refused s = rw (consult_store, ne_eqb (form_refusal b room) 0 n) refl
