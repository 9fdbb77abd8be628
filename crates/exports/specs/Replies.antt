-- Answers as numbers: what a call gives back, and what it leaves in the places that were lent to it.
use Rattle.std.specs.Prelude.{ℕ, Bool, cond, List, ◌∷◌, [], Option, Some, None, Result, Ok, Err, is_some}
use Rattle.automata.specs.Numbers.{number}
use Rattle.automata.specs.declared.refusals.Refusal.{Refusal}
use Rattle.automata.specs.declared.refusals.Refusal.TheVariants.{UnsoundCache}
use Rattle.search.specs.declared.verdict.Answer.{Answer}
use Rattle.search.specs.declared.verdict.Findings.{Findings}
use Rattle.search.specs.Verdicts.{numbers_of}

-- ---- what is told of findings: kind, n, d, zones, exact n, exact d, again, inside
unfoldable pub findings_numbers : Findings → List ℕ
findings_numbers x =
    (numbers_of x.answer.verdict).kind ∷ (numbers_of x.answer.verdict).n ∷ (numbers_of x.answer.verdict).d ∷ x.answer.zones
    ∷ x.exact.n ∷ x.exact.d ∷ x.dropped.again ∷ x.dropped.inside ∷ []

-- a record has no exact fraction and no counts, and neither has what a cache gives back: 0 in their places
abbrev pub filed : Answer → Findings
filed a = record { answer = a; exact = record { n = 0; d = 0 }; dropped = record { again = 0; inside = 0 } }

-- numbers written over what was there: as many as there is room for, and behind them what was there
unfoldable pub over : List ℕ → List ℕ → List ℕ
over [] old = old
over (x ∷ xs) [] = []
over (x ∷ xs) (y ∷ ys) = x ∷ over xs ys

-- ---- a lent place after a reply that was told: a refusal, whose number is the reply, leaves it as it was
abbrev pub after : {X P : Type 0} → (X → P → P) → Result X Refusal → P → P
after tell (Ok x) old = tell x old
after tell (Err k) old = old

-- what the bare search finds, with all that stands beside its verdict
unfoldable pub findings_told : Result Findings Refusal → List ℕ → List ℕ
findings_told = after (λ x. over (findings_numbers x))

-- an answer
unfoldable pub told : Result Answer Refusal → List ℕ → List ℕ
told = after (λ a. over (findings_numbers (filed a)))

-- a lookup: filed is 1 with the verdict's numbers, or 0 with the place as it was
unfoldable pub filed_told : Result (Option Answer) Refusal → ℕ → ℕ
filed_told = after (λ o old. cond (is_some o) 1 0)

abbrev pub answer_told : Option Answer → List ℕ → List ℕ
answer_told (Some a) old = over (findings_numbers (filed a)) old
answer_told None old = old

unfoldable pub lookup_told : Result (Option Answer) Refusal → List ℕ → List ℕ
lookup_told = after answer_told

-- a form's length
unfoldable pub number_told : Result ℕ Refusal → ℕ → ℕ
number_told = after (λ n old. n)

-- a judgement: 1 for yes and 0 for no
unfoldable pub passes_told : Result Bool Refusal → ℕ → ℕ
passes_told = after (λ yes old. cond yes 1 0)

-- ---- a cache: 0, or 11
unfoldable pub sound_number : Bool → ℕ
sound_number t = cond t 0 (number UnsoundCache)
