-- Worked examples: document 01's card A, consulted, and what is answered and left.
use Rattle.std.specs.Prelude.{ℕ, List, [], ◌∷◌, ◌++◌, ◌≡◌, replicate, Result, Ok, Err}
use Rattle.automata.specs.declared.refusals.Refusal.{Refusal}
use Rattle.automata.specs.declared.refusals.Refusal.TheVariants.{StoreFull, UnsoundCache, CacheFull, FormTooLong}
use Rattle.search.specs.declared.verdict.Answer.{Answer}
use Rattle.search.specs.declared.verdict.Holding.TheVariants.{Below}
use Rattle.search.specs.declared.verdict.Verdict.TheVariants.{Holds}
use Rattle.cache.specs.Drawn.{consult_answer, consult_cache}

-- `room` is the length of the buffer for the form, `amount` that of the store
pub record Example : Type 0 where
  pub cache : List ℕ
  pub automaton : List ℕ
  pub room : ℕ
  pub amount : ℕ
  pub answer : Result Answer Refusal
  pub after : List ℕ

-- "Card A is `00000026 01 01 02 00 01 0001 00000000 00000005 00000000 00000009 00 01 00 00000007 FFFFFFFF`"
abbrev pub automaton_a : List ℕ
automaton_a =
    0 ∷ 0 ∷ 0 ∷ 38 ∷ 1 ∷ 1 ∷ 2 ∷ 0 ∷ 1 ∷ 0 ∷ 1 ∷ 0 ∷ 0 ∷ 0 ∷ 0 ∷ 0 ∷ 0 ∷ 0 ∷ 5 ∷ 0 ∷ 0 ∷ 0 ∷ 0 ∷ 0 ∷ 0 ∷ 0 ∷ 9 ∷
    0 ∷ 1 ∷ 0 ∷ 0 ∷ 0 ∷ 0 ∷ 7 ∷ 255 ∷ 255 ∷ 255 ∷ 255 ∷ []

-- the same with its edge drawn twice: its form is card A
abbrev pub twice_a : List ℕ
twice_a =
    0 ∷ 0 ∷ 0 ∷ 49 ∷ 1 ∷ 1 ∷ 2 ∷ 0 ∷ 1 ∷ 0 ∷ 2 ∷ 0 ∷ 0 ∷ 0 ∷ 0 ∷ 0 ∷ 0 ∷ 0 ∷ 5 ∷ 0 ∷ 0 ∷ 0 ∷ 0 ∷ 0 ∷ 0 ∷ 0 ∷ 9 ∷
    0 ∷ 1 ∷ 0 ∷ 0 ∷ 0 ∷ 0 ∷ 7 ∷ 255 ∷ 255 ∷ 255 ∷ 255 ∷ 0 ∷ 1 ∷ 0 ∷ 0 ∷ 0 ∷ 0 ∷ 7 ∷ 255 ∷ 255 ∷ 255 ∷ 255 ∷ []

abbrev pub Right : Example → Type 0
Right x =
    (consult_answer x.cache x.automaton x.room x.amount ≡ x.answer)
    × (consult_cache x.cache x.automaton x.room x.amount ≡ x.after)

abbrev pub AllRight : List Example → Type 0
AllRight [] = Unit {0}
AllRight (x ∷ xs) = Right x × AllRight xs

-- an empty cache with so many bytes behind it
abbrev pub empty : ℕ → List ℕ
empty free = 0 ∷ 0 ∷ 0 ∷ 5 ∷ 1 ∷ replicate free 9

-- "holds 1/1, one zone": the record takes 17 + 38 bytes, the cache 60
abbrev record_a : List ℕ
record_a = 0 ∷ 0 ∷ 0 ∷ 55 ∷ 1 ∷ 0 ∷ 0 ∷ 0 ∷ 1 ∷ 0 ∷ 0 ∷ 0 ∷ 1 ∷ 0 ∷ 0 ∷ 0 ∷ 1 ∷ automaton_a

abbrev filed : ℕ → List ℕ
filed free = 0 ∷ 0 ∷ 0 ∷ 60 ∷ 1 ∷ (record_a ++ replicate free 9)

abbrev pub holds : Answer
holds = record { verdict = Holds (Below (record { n = 1; d = 1 })); zones = 1 }

-- another version, and the same record twice
abbrev other_version : List ℕ
other_version = 0 ∷ 0 ∷ 0 ∷ 5 ∷ 2 ∷ []

abbrev twice : List ℕ
twice = 0 ∷ 0 ∷ 0 ∷ 115 ∷ 1 ∷ (record_a ++ record_a)

-- the record of an automaton that draws its one edge twice
abbrev doubled : List ℕ
doubled = 0 ∷ 0 ∷ 0 ∷ 71 ∷ 1 ∷ (0 ∷ 0 ∷ 0 ∷ 66 ∷ 1 ∷ 0 ∷ 0 ∷ 0 ∷ 1 ∷ 0 ∷ 0 ∷ 0 ∷ 1 ∷ 0 ∷ 0 ∷ 0 ∷ 1 ∷ twice_a)

abbrev pub examples : List Example
examples =
    record { cache = empty 58; automaton = automaton_a; room = 38; amount = 11; answer = Ok holds; after = filed 3 }
    ∷ record { cache = empty 55; automaton = twice_a; room = 38; amount = 11; answer = Ok holds; after = filed 0 }
    ∷ record { cache = empty 58; automaton = automaton_a; room = 38; amount = 10; answer = Err StoreFull; after = empty 58 }
    ∷ record { cache = empty 54; automaton = automaton_a; room = 40; amount = 10; answer = Err CacheFull; after = empty 54 }
    ∷ record { cache = filed 0; automaton = automaton_a; room = 38; amount = 0; answer = Ok holds; after = filed 0 }
    ∷ record { cache = filed 0; automaton = twice_a; room = 38; amount = 0; answer = Ok holds; after = filed 0 }
    ∷ record { cache = other_version; automaton = automaton_a; room = 38; amount = 11; answer = Err UnsoundCache; after = other_version }
    ∷ record { cache = other_version; automaton = twice_a; room = 37; amount = 11; answer = Err FormTooLong; after = other_version }
    ∷ record { cache = twice; automaton = automaton_a; room = 38; amount = 11; answer = Err UnsoundCache; after = twice }
    ∷ record { cache = doubled; automaton = automaton_a; room = 38; amount = 11; answer = Err UnsoundCache; after = doubled }
    ∷ []
