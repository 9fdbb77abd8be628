-- "Consulting: .. 11; if the card's bytes are there, the filed verdict, nothing changed; 12; then the search, 9 and 10 included; a new
-- record is written into the free tail of the lent shelf, the used length follows, other bytes stand." In any layout L, of a form b.
use Rattle.std.specs.Prelude.{ℕ, ◌+◌, ◌≤◌, Bool, false, not, cond, ◌&&◌, ◌||◌, List, [], ◌∷◌, ◌++◌, ◌≡◌, ltb, ℤ, length}
use Rattle.std.specs.Prelude.{Option, Some, None, Result, Ok, Err}
use Rattle.encoding.specs.Numbers.{be32}
use Rattle.automata.specs.declared.refusals.Refusal.{Refusal}
use Rattle.automata.specs.declared.refusals.Refusal.TheVariants.{UnsoundCache, CacheFull}
use Rattle.search.specs.declared.verdict.Answer.{Answer}
use Rattle.search.specs.Answers.{search_answer, search_store}
use Rattle.cache.specs.declared.layout.Layout.{Layout}
use Rattle.encoding.specs.Placing.{placed}
use Rattle.cache.specs.Layouts.{header_length, longest}
use Rattle.cache.specs.Versions.{version1}
use Rattle.cache.specs.Records.{answer_record}
use Rattle.cache.specs.Lookups.{look_up, is_absent}
use Rattle.cache.specs.Caches.{used_of, records_of, sound_as}

-- ---- "Making an empty shelf writes 5 bytes, or refuses with 12 if fewer are lent."
unfoldable pub make_empty_reply : List ℕ → Result (Unit {0}) Refusal
make_empty_reply c = cond (ltb (length c) header_length) (Err CacheFull) (Ok tt)

-- the header of a cache without records
unfoldable pub empty_header : Layout → List ℕ
empty_header L = be32 header_length ++ (L.version ∷ [])

unfoldable pub make_empty_as : Layout → List ℕ → List ℕ
make_empty_as L c = cond (ltb (length c) header_length) c (placed 0 (empty_header L) c)

abbrev pub make_empty_cache : List ℕ → List ℕ
make_empty_cache c = make_empty_as version1 c

-- ---- asking
unfoldable pub look_up_as : Layout → List ℕ → List ℕ → Result (Option Answer) Refusal
look_up_as L c b = cond (sound_as L c) (Ok (look_up L (records_of L c) b)) (Err UnsoundCache)

-- ---- filing
-- 12: "too few free bytes for the new record or header, or the new used length needs more than 4 bytes"
unfoldable pub full : List ℕ → ℕ → Bool
full c size = ltb (length c) (used_of c + size) || ltb longest (used_of c + size)

-- a record of so many bytes has room behind the used ones
pub record Room (c : List ℕ) (size : ℕ) : Type 0 where
  pub least : header_length ≤ used_of c
  pub lent : used_of c + size ≤ length c
  pub bytes : used_of c + size ≤ longest

-- the record r behind those that are there, and "the used length follows, other bytes stand"
unfoldable pub appended : List ℕ → List ℕ → List ℕ
appended c r = placed 0 (be32 (used_of c + length r)) (placed (used_of c) r c)

unfoldable pub filing : Layout → List ℕ → List ℕ → Result Answer Refusal → List ℕ
filing L c b (Ok a) = appended c (answer_record L a b)
filing L c b (Err k) = c

-- ---- consulting
-- of an automaton that is not filed: what comes of the search, or of 12 where there is no room
abbrev pub if_room : {X : Type 0} → Layout → List ℕ → List ℕ → X → X → X
if_room L c b searched twelve = cond (full c (L.head + length b)) twelve searched

-- what searching for b and filing its verdict leaves
pub record Searches (L : Layout) (c b : List ℕ) (s : List ℤ) (r : Result Answer Refusal) (c' : List ℕ) (s' : List ℤ) : Type 0 where
  pub answer : r ≡ if_room L c b (search_answer b (length s)) (Err CacheFull)
  pub cache : c' ≡ if_room L c b (filing L c b (search_answer b (length s))) c
  pub store : s' ≡ if_room L c b (search_store b s) s

-- the answer that a lookup gives, or `r` where the automaton is not there
unfoldable pub answer_to : Result (Option Answer) Refusal → Result Answer Refusal → Result Answer Refusal
answer_to (Ok (Some a)) r = Ok a
answer_to (Ok None) r = r
answer_to (Err k) r = Err k

unfoldable pub consult_answer_as : Layout → List ℕ → List ℕ → ℕ → Result Answer Refusal
consult_answer_as L c b amount = answer_to (look_up_as L c b) (if_room L c b (search_answer b amount) (Err CacheFull))

-- whether it comes to a search
unfoldable pub searched : Layout → List ℕ → List ℕ → Bool
searched L c b = elim (look_up_as L c b) [ Ok l ↦ is_absent l | Err k ↦ false ] && not (full c (L.head + length b))

-- the cache and the store that it leaves
unfoldable pub consult_cache_as : Layout → List ℕ → List ℕ → ℕ → List ℕ
consult_cache_as L c b amount = cond (searched L c b) (filing L c b (search_answer b amount)) c

unfoldable pub consult_store_as : Layout → List ℕ → List ℕ → List ℤ → List ℤ
consult_store_as L c b s = cond (searched L c b) (search_store b s) s
