-- Document 02, Change 1: "Consulting writes this form first, and looks up, searches and files it." What is asked of a cache of version 1 is
-- asked of an automaton b as drawn, with a buffer of `room` bytes for its form: 1 to 8 and 13 first (`of_form`), the rest of the form.
use Rattle.std.specs.Prelude.{ℕ, List, ℤ, Option, Result, Err}
use Rattle.automata.specs.Numbers.{named}
use Rattle.automata.specs.declared.refusals.Refusal.{Refusal}
use Rattle.canonical.specs.Writing.{of_form}
use Rattle.search.specs.declared.verdict.Answer.{Answer}
use Rattle.cache.specs.Versions.{version1}
use Rattle.cache.specs.Consulting.{look_up_as, consult_answer_as, consult_cache_as, consult_store_as}

unfoldable pub look_up_in : List ℕ → List ℕ → ℕ → Result (Option Answer) Refusal
look_up_in c b room = of_form b room (λ f. look_up_as version1 c f) (λ k. Err (named k))

unfoldable pub consult_answer : List ℕ → List ℕ → (room amount : ℕ) → Result Answer Refusal
consult_answer c b room amount = of_form b room (λ f. consult_answer_as version1 c f amount) (λ k. Err (named k))

-- the cache and the store that are left
unfoldable pub consult_cache : List ℕ → List ℕ → (room amount : ℕ) → List ℕ
consult_cache c b room amount = of_form b room (λ f. consult_cache_as version1 c f amount) (λ k. c)

unfoldable pub consult_store : List ℕ → List ℕ → ℕ → List ℤ → List ℤ
consult_store c b room s = of_form b room (λ f. consult_store_as version1 c f s) (λ k. s)
