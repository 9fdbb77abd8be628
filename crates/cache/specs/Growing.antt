-- Caches that have grown, and what is promised of them, of automata as drawn.
use Rattle.std.specs.Prelude.{ℕ, ◌≤◌, true, List, ◌++◌, ◌≡◌, ℤ, length, take, Some, None, Result, Ok, Err}
use Rattle.automata.specs.Canonical.{canonical_of}
use Rattle.automata.specs.declared.refusals.Refusal.{Refusal}
use Rattle.automata.specs.declared.refusals.Refusal.TheVariants.{ErrorCountTooLarge, StoreFull}
use Rattle.canonical.specs.Writing.{form_refusal}
use Rattle.search.specs.declared.verdict.Answer.{Answer}
use Rattle.search.specs.Demands.{Robust}
use Rattle.search.specs.Given.{Lasting}
use Rattle.cache.specs.Layouts.{header_length}
use Rattle.cache.specs.Caches.{used_of, sound}
use Rattle.cache.specs.Consulting.{make_empty_cache}
use Rattle.cache.specs.Drawn.{look_up_in, consult_answer, consult_cache, consult_store}

-- "grown from empty only by consulting": of any automata, with any buffers and stores, in any number. Between two consultings the used bytes
-- may be lent again with others behind them. Consulting is as it is now: "records already filed keep theirs, and the shelf's agreement with the
-- search speaks of shelves grown since".
pub data Grown : List ℕ → Type 0 where
  emptied : (c : List ℕ) → header_length ≤ length c → Grown (make_empty_cache c)
  consulted : (c b : List ℕ) (room amount : ℕ) → Grown c → Grown (consult_cache c b room amount)
  lent_again : (c rest : List ℕ) → Grown c → Grown (take (used_of c) c ++ rest)

-- c' has come of c so
pub data Later (c : List ℕ) : List ℕ → Type 0 where
  same : Later c c
  after : (c' b : List ℕ) (room amount : ℕ) → Later c c' → Later c (consult_cache c' b room amount)
  lent-later : (c' rest : List ℕ) → Later c c' → Later c (take (used_of c') c' ++ rest)

-- the cache has filed this verdict: lookup and consulting of b give it back, and nothing is changed, whatever the store
pub record GivesBack (c b : List ℕ) (room : ℕ) (a : Answer) : Type 0 where
  pub looked : look_up_in c b room ≡ Ok (Some a)
  pub answer : (amount : ℕ) → consult_answer c b room amount ≡ Ok a
  pub cache : (amount : ℕ) → consult_cache c b room amount ≡ c
  pub store : (s : List ℤ) → consult_store c b room s ≡ s

-- and so it is of every automaton with the same form, in whatever order its edges are drawn, where a form is written at all
abbrev pub GivesBackAll : List ℕ → List ℕ → Answer → Type 0
GivesBackAll c b a =
    (x : List ℕ) (room : ℕ) → form_refusal x room ≡ 0 → canonical_of x ≡ canonical_of b → GivesBack c x room a

-- What consulting c for b promises beside the equations, c' and s' being the cache and the store that it leaves: a refusal leaves the cache as it
-- was, and but for 9 and 10 the store too; a sound cache stays sound; a verdict is given back by every cache that comes of this one. Demand 3
-- holds of an answer that was not filed, for b as drawn. On a grown cache it holds of every answer, and "the filed verdict is the search's, at
-- every store size that lets the search finish": of the search of its form.
pub record Carried (c b : List ℕ) (room : ℕ) (s : List ℤ) (r : Result Answer Refusal) (c' : List ℕ) (s' : List ℤ) : Type 0 where
  pub unchanged : (k : Refusal) → r ≡ Err k → c' ≡ c
  pub untouched : (k : Refusal) → r ≡ Err k → (k ≡ ErrorCountTooLarge → ⊥) → (k ≡ StoreFull → ⊥) → s' ≡ s
  pub stays : sound c ≡ true → sound c' ≡ true
  pub back : (a : Answer) → r ≡ Ok a → (c'' : List ℕ) → Later c' c'' → GivesBackAll c'' b a
  pub searched : look_up_in c b room ≡ Ok None → Robust b r
  pub robust : Grown c → Robust b r
  pub lasting : Grown c → (a : Answer) → r ≡ Ok a → Lasting (canonical_of b) r
