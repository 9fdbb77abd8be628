-- Consulting files a verdict once, and gives it back ever after.
-- Assumes nothing.
use Prim.Native.Nat.{ℕ, ◌+◌, ◌≤◌}
use mathlib.Core.Bool.{true, false, cond}
use mathlib.Core.List.{List, [], ◌∷◌, ◌++◌}
use mathlib.Core.Logic.{⊎_elim}
use mathlib.Core.Path.{◌≡◌, refl, sym, ap, ◌∙◌, subst}
use lib.IntN.{ℤ}
use lib.ListN.{length, drop}
use native.Mathlib.Nat.{zero-add}
use native.Mathlib.Omega.{arith}
use Rattle.encoding.specs.Bytes.{same_bytes}
use Rattle.encoding.proofs.Equality.{equal_same}
use Rattle.automata.specs.Refusals.{refusal_of}
use Rattle.automata.specs.Canonical.{is_canonical}
use Rattle.std.specs.Prelude.{Some, None, Result, Ok, Err}
use Rattle.automata.specs.declared.refusals.Refusal.{Refusal}
use Rattle.automata.specs.declared.refusals.Refusal.TheVariants.{ErrorCountTooLarge, StoreFull}
use Rattle.search.specs.declared.verdict.Answer.{Answer}
use Rattle.search.specs.Given.{Given}
use Rattle.search.specs.Verdicts.{numbers_of}
use Rattle.search.specs.Answers.{search_answer}
use Rattle.search.proofs.answers.Given.{promised}
use Rattle.cache.specs.declared.layout.Layout.{Layout}
use Rattle.cache.specs.Layouts.{header_length, longest, Laid}
use Rattle.encoding.specs.Placing.{placed}
use Rattle.cache.specs.Records.{measured, answer_record}
use Rattle.cache.specs.Lookups.{look_up, is_absent}
use Rattle.cache.specs.Caches.{records_of, sound_as}
use Rattle.cache.specs.Consulting.{empty_header, make_empty_as, look_up_as, full, Room, appended, consult_answer_as, consult_cache_as}
use Rattle.cache.specs.Consulting.{consult_store_as}
use Rattle.cache.proofs.layouts.Written.{written_length, written_automaton, written-measured, given_fits, filed-back, record_sound}
use Rattle.cache.proofs.records.Splitting.{no_records}
use Rattle.cache.proofs.records.Looking.{look_append}
use Rattle.cache.proofs.caches.Sounding.{Sound, sound_facts}
use Rattle.cache.proofs.caches.Fronts.{front_records, front_sound, empty_front, empty_fine, appended_records, appended-sound}
use Rattle.cache.proofs.consulting.Asking.{empty-made, has_room}
use Rattle.cache.proofs.consulting.Ways.{Asked, answered, Way, told, turned_down, stopped, filed, way}

-- ---- refused: nothing is filed
pub refused_unchanged : (L : Layout) (c b : List ℕ) (amount : ℕ) (k : Refusal) → consult_answer_as L c b amount ≡ Err k
    → consult_cache_as L c b amount ≡ c
refused_unchanged L c b amount k = go (way L c b amount)
  where
    go : {r : Result Answer Refusal} {c' : List ℕ} → Way L c b amount r c' → r ≡ Err k → c' ≡ c
    go (told a s f) e = refl
    go (turned_down k f) e = refl
    go (stopped k s f) e = refl
    go (filed a s f g) e = cc e

-- and the store stands too, unless it is the search that gave up
given_refused : (b : List ℕ) (k : Refusal) → Given b (Err k) → refusal_of b ≡ 0 → (k ≡ ErrorCountTooLarge → ⊥) → (k ≡ StoreFull → ⊥) → ⊥
unfolding Given
given_refused b k g ok n9 n10 = ⊎_elim (λ h. absurd (omega (arith, h.0, h.1))) (λ h. ⊎_elim n9 n10 h.1) g

pub refused_store : (L : Layout) (c b : List ℕ) (s : List ℤ) (k : Refusal) → refusal_of b ≡ 0 → consult_answer_as L c b (length s) ≡ Err k
    → (k ≡ ErrorCountTooLarge → ⊥) → (k ≡ StoreFull → ⊥) → consult_store_as L c b s ≡ s
refused_store L c b s k ok = go (way L c b (length s))
  where
    go : {r : Result Answer Refusal} {c' : List ℕ} → Way L c b (length s) r c' → r ≡ Err k
        → (k ≡ ErrorCountTooLarge → ⊥) → (k ≡ StoreFull → ⊥) → consult_store_as L c b s ≡ s
    go (told a t f) e n9 n10 = (f 0 s).2
    go (turned_down j f) e n9 n10 = (f 0 s).2
    go (stopped j t f) e n9 n10 = absurd (given_refused b k (rw (f ∙ e) at (promised b (length s)).given) ok n9 n10)
    go (filed a t f g) e n9 n10 = cc e

-- ---- an empty cache
module _ (L : Layout) (c : List ℕ) (h : header_length ≤ length c) where
  abbrev rest : List ℕ
  rest = drop (length (empty_header L)) c

  empty_laid : make_empty_as L c ≡ empty_header L ++ rest
  unfolding placed
  empty_laid = sym (empty-made L c h).1 ∙ simp zero-add

  pub empty_records : records_of L (make_empty_as L c) ≡ []
  empty_records = ap (records_of L) empty_laid ∙ front_records (empty_front L) rest ∙ no_records L

  pub empty-sound : sound_as L (make_empty_as L c) ≡ true
  empty-sound = ap (sound_as L) empty_laid ∙ front_sound (empty_front L) rest (empty_fine L)

-- ---- the record of a verdict that the search gave
module _ {L : Layout} (laid : Laid L) (c b : List ℕ) (amount : ℕ) (a : Answer)
    (t : Asked L c b None) (f : full c (L.head + length b) ≡ false) (e : search_answer b amount ≡ Ok a) where
  abbrev new : List ℕ
  new = answer_record L a b

  given : Given b (Ok a)
  given = rw e at (promised b amount).given

  facts : Sound L c
  facts = sound_facts L c t.sound

  size : length new ≡ L.head + length b
  size = written_length laid _ _ b

  room : Room c (length new)
  room = has_room c (length new) facts.least (ap (full c) size ∙ f)

  short : L.head + length b ≤ longest
  short = omega (arith, room.bytes, size)

  measured_all : measured L new ≡ length new
  measured_all = written-measured laid _ _ b (given_fits b a given short)

  pub filed_records : records_of L (appended c new) ≡ records_of L c ++ (new ∷ [])
  filed_records = appended_records c new facts room laid measured_all (omega (arith, size, laid))

  pub filed-sound : is_canonical b ≡ true → sound_as L (appended c new) ≡ true
  filed-sound ok =
      appended-sound c new facts room laid measured_all (omega (arith, size, laid)) (record_sound laid b a given short ok)
      (rw (written_automaton laid _ _ b, t.there) refl)

  -- what is looked up there: what was there, else the new verdict of b
  pub filed_there : (x : List ℕ) → look_up L (records_of L (appended c new)) x
      ≡ cond (is_absent (look_up L (records_of L c) x)) (cond (same_bytes b x) (Some a) None) (look_up L (records_of L c) x)
  unfolding look_up
  filed_there x =
      let own = written_automaton laid (numbers_of a.verdict) a.zones b in
      rw (filed_records, look_append L (records_of L c) new x, own, filed-back laid b a given short) refl

pub sound_stays : {L : Layout} → Laid L → (c b : List ℕ) (amount : ℕ) → is_canonical b ≡ true → sound_as L c ≡ true
    → sound_as L (consult_cache_as L c b amount) ≡ true
sound_stays {L} laid c b amount ok h = go (way L c b amount)
  where
    go : {r : Result Answer Refusal} {c' : List ℕ} → Way L c b amount r c' → sound_as L c' ≡ true
    go (told a s f) = h
    go (turned_down k f) = h
    go (stopped k s f) = h
    go (filed a s f e) = filed-sound laid c b amount a s f e ok

-- ---- a record is written exactly where a verdict was reached that was not there
module _ {L : Layout} (laid : Laid L) (c b : List ℕ) (amount : ℕ) where
  -- the records that an answer to an automaton that is not there leaves
  abbrev Left : Result Answer Refusal → List (List ℕ) → Type 0
  Left (Ok a) rs = rs ≡ records_of L c ++ (answer_record L a b ∷ [])
  Left (Err k) rs = rs ≡ records_of L c

  left : look_up_as L c b ≡ Ok None → {r : Result Answer Refusal} {c' : List ℕ} → Way L c b amount r c' → Left r (records_of L c')
  left h (told a s f) = cc (answered L c b (Some a) s)
  left h (turned_down k f) = refl
  left h (stopped k s f) = refl
  left h (filed a s f e) = filed_records laid c b amount a s f e

  pub files : (a : Answer) → look_up_as L c b ≡ Ok None → consult_answer_as L c b amount ≡ Ok a
      → records_of L (consult_cache_as L c b amount) ≡ records_of L c ++ (answer_record L a b ∷ [])
  files a h e = subst (λ (r : Result Answer Refusal). Left r (records_of L (consult_cache_as L c b amount))) e (left h (way L c b amount))

  unmoved : (look_up_as L c b ≡ Ok None → ⊥) → {r : Result Answer Refusal} {c' : List ℕ} → Way L c b amount r c' → c' ≡ c
  unmoved n (told a s f) = refl
  unmoved n (turned_down k f) = refl
  unmoved n (stopped k s f) = refl
  unmoved n (filed a s f e) = absurd (n (answered L c b None s))

  pub files_nothing : (look_up_as L c b ≡ Ok None → ⊥) → consult_cache_as L c b amount ≡ c
  files_nothing n = unmoved n (way L c b amount)

-- ---- and it is given back
abbrev Known : Layout → List ℕ → List ℕ → Result Answer Refusal → Type 0
Known L c b (Ok a) = Asked L c b (Some a)
Known L c b (Err k) = Unit {0}

known_once : {L : Layout} → Laid L → (c b : List ℕ) (amount : ℕ) → is_canonical b ≡ true → {r : Result Answer Refusal} {c' : List ℕ}
    → Way L c b amount r c' → Known L c' b r
known_once laid c b amount ok (told a s f) = s
known_once laid c b amount ok (turned_down k f) = tt
known_once laid c b amount ok (stopped k s f) = tt
known_once laid c b amount ok (filed a s f e) = record {
  sound = filed-sound laid c b amount a s f e ok;
  there = filed_there laid c b amount a s f e b ∙ rw (s.there, equal_same b);
}

pub known_answer : {L : Layout} → Laid L → (c b : List ℕ) (amount : ℕ) → is_canonical b ≡ true → (a : Answer)
    → consult_answer_as L c b amount ≡ Ok a → Asked L (consult_cache_as L c b amount) b (Some a)
known_answer {L} laid c b amount ok a e =
    subst (Known L (consult_cache_as L c b amount) b) e (known_once laid c b amount ok (way L c b amount))

pub known_stays : {L : Layout} → Laid L → (c b x : List ℕ) (amount : ℕ) → is_canonical b ≡ true → (a : Answer)
    → Asked L c x (Some a) → {r : Result Answer Refusal} {c' : List ℕ} → Way L c b amount r c' → Asked L c' x (Some a)
known_stays laid c b x amount ok a h (told u s f) = h
known_stays laid c b x amount ok a h (turned_down k f) = h
known_stays laid c b x amount ok a h (stopped k s f) = h
known_stays laid c b x amount ok a h (filed u s f e) = record {
  sound = filed-sound laid c b amount u s f e ok;
  there = filed_there laid c b amount u s f e x ∙ rw h.there;
}
