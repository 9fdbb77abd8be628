-- Consulting by its branches, in any layout: the definitions stay shut elsewhere.
-- Assumes nothing.
use Prim.Native.Nat.{ℕ, ◌+◌}
use mathlib.Core.Bool.{Bool, true, false}
use mathlib.Core.List.{List, []}
use mathlib.Core.Path.{◌≡◌, refl}
use lib.IntN.{ℤ}
use lib.ListN.{length}
use native.Mathlib.Omega.{arith}
use Rattle.std.proofs.lemmas.Grind.{common_steps}
use Rattle.std.specs.Prelude.{Option, Some, None, Result, Ok, Err}
use Rattle.automata.specs.declared.refusals.Refusal.{Refusal}
use Rattle.automata.specs.declared.refusals.Refusal.TheVariants.{CacheFull}
use Rattle.search.specs.declared.verdict.Answer.{Answer}
use Rattle.search.specs.Answers.{search_answer, search_store}
use Rattle.cache.specs.declared.layout.Layout.{Layout}
use Rattle.cache.specs.Records.{answer_record}
use Rattle.cache.specs.Lookups.{look_up}
use Rattle.cache.specs.Caches.{records_of, sound_as}
use Rattle.cache.specs.Consulting.{look_up_as, full, appended, filing, answer_to, consult_answer_as, searched, consult_cache_as}
use Rattle.cache.specs.Consulting.{consult_store_as}

-- ---- a lookup that is not refused
pub record Asked (L : Layout) (c b : List ℕ) (l : Option Answer) : Type 0 where
  pub sound : sound_as L c ≡ true
  pub there : look_up L (records_of L c) b ≡ l

module _ (L : Layout) (c b : List ℕ) where
  pub asked : (l : Option Answer) → look_up_as L c b ≡ Ok l → Asked L c b l
  unfolding look_up_as
  asked l e = grind (arith, common_steps)

  pub answered : (l : Option Answer) → Asked L c b l → look_up_as L c b ≡ Ok l
  unfolding look_up_as
  answered l a = grind (arith, common_steps)

  -- ---- answer, cache and store, by what the lookup says
  -- nothing is searched for: the cache and the store stand
  abbrev pub Stands : Result Answer Refusal → Type 0
  Stands r = (amount : ℕ) (s : List ℤ) → (consult_answer_as L c b amount ≡ r) × (consult_cache_as L c b amount ≡ c) × (consult_store_as L c b s ≡ s)

  pub told_all : (a : Answer) → look_up_as L c b ≡ Ok (Some a) → Stands (Ok a)
  unfolding consult_answer_as consult_cache_as consult_store_as searched answer_to
  told_all a e amount s = grind (arith, common_steps)

  pub refused_all : (k : Refusal) → look_up_as L c b ≡ Err k → Stands (Err k)
  unfolding consult_answer_as consult_cache_as consult_store_as searched answer_to
  refused_all k e amount s = grind (arith, common_steps)

  module _ (e : look_up_as L c b ≡ Ok None) where
    full_all : full c (L.head + length b) ≡ true → Stands (Err CacheFull)
    unfolding consult_answer_as consult_cache_as consult_store_as searched answer_to
    full_all f amount s = grind (arith, common_steps)

    searched_all : full c (L.head + length b) ≡ false → (amount : ℕ) (s : List ℤ)
        → (consult_answer_as L c b amount ≡ search_answer b amount) × (consult_cache_as L c b amount ≡ filing L c b (search_answer b amount))
        × (consult_store_as L c b s ≡ search_store b s)
    unfolding consult_answer_as consult_cache_as consult_store_as searched answer_to
    searched_all f amount s = grind (arith, common_steps)

-- ---- the ways that a consulting goes, with its answer and the cache that it leaves
pub data Way (L : Layout) (c b : List ℕ) (amount : ℕ) : Result Answer Refusal → List ℕ → Type 0 where
  told : (a : Answer) → Asked L c b (Some a) → Stands L c b (Ok a) → Way L c b amount (Ok a) c
  turned_down : (k : Refusal) → Stands L c b (Err k) → Way L c b amount (Err k) c
  stopped : (k : Refusal) → Asked L c b None → search_answer b amount ≡ Err k → Way L c b amount (Err k) c
  filed : (a : Answer) → Asked L c b None → full c (L.head + length b) ≡ false → search_answer b amount ≡ Ok a
      → Way L c b amount (Ok a) (appended c (answer_record L a b))

module _ (L : Layout) (c b : List ℕ) (amount : ℕ) where
  abbrev Goes : Type 0
  Goes = Way L c b amount (consult_answer_as L c b amount) (consult_cache_as L c b amount)

  stands : {r : Result Answer Refusal} → Stands L c b r → Way L c b amount r c → Goes
  stands {r} h w = let q = h amount [] in rw (q.0, q.1) w

  way_searched : Asked L c b None → full c (L.head + length b) ≡ false → (r : Result Answer Refusal) → search_answer b amount ≡ r
      → Way L c b amount r (filing L c b r)
  unfolding filing
  way_searched s f (Ok a) e = filed a s f e
  way_searched s f (Err k) e = stopped k s e

  way_absent : look_up_as L c b ≡ Ok None → (t : Bool) → full c (L.head + length b) ≡ t → Goes
  way_absent e true f = let q = full_all L c b e f in stands q (turned_down CacheFull q)
  way_absent e false f =
      let q = searched_all L c b e f amount [] in
      rw (q.0, q.1) (way_searched (asked L c b None e) f (search_answer b amount) refl)

  pub way : Goes
  way = go (look_up_as L c b) refl
    where
      go : (l : Result (Option Answer) Refusal) → look_up_as L c b ≡ l → Goes
      go (Ok (Some a)) e = let q = told_all L c b a e in stands q (told a (asked L c b (Some a) e) q)
      go (Ok None) e = way_absent e (full c (L.head + length b)) refl
      go (Err k) e = let q = refused_all L c b k e in stands q (turned_down k q)
