-- A sound cache stays sound through every consulting, and a verdict that was answered is given back ever after, to every automaton of that
-- form. From here on all caches are of version 1.
-- Assumes nothing.
use Prim.Native.Nat.{ℕ}
use mathlib.Core.Bool.{true}
use mathlib.Core.List.{List, []}
use mathlib.Core.Path.{◌≡◌, refl, sym, ap, ◌∙◌, subst}
use native.Mathlib.Omega.{arith}
use Rattle.automata.specs.Canonical.{is_canonical, canonical_of}
use Rattle.automata.proofs.canonical.Theorems.{form_laws}
use Rattle.canonical.specs.Writing.{form_refusal}
use Rattle.canonical.proofs.Answers.{Writing, written, refused, writing, form_free}
use Rattle.std.specs.Prelude.{Some, Ok}
use Rattle.search.specs.declared.verdict.Answer.{Answer}
use Rattle.cache.specs.Layouts.{Laid}
use Rattle.cache.specs.Versions.{version1}
use Rattle.cache.specs.Caches.{sound}
use Rattle.cache.specs.Consulting.{look_up_as}
use Rattle.cache.specs.Drawn.{consult_answer, consult_cache}
use Rattle.cache.specs.Growing.{Grown, emptied, consulted, lent_again, Later, same, after, lent-later, GivesBackAll}
use Rattle.cache.proofs.caches.Fronts.{lent_records, lent-sound}
use Rattle.cache.proofs.consulting.Ways.{Asked, answered, told_all, way}
use Rattle.cache.proofs.consulting.Filing.{empty-sound, sound_stays, known_answer, known_stays}
use Rattle.cache.proofs.consulting.Drawn.{looks_form, answers_form, leaves_form, stores_form, answers_refused, leaves-refused}

pub laid : Laid version1
laid = record { kind_at = refl; n_at = refl; d_at = refl; zones_at = refl; head_ends = refl }

-- the form of an automaton is one that is filed
form_ok : (b : List ℕ) (room : ℕ) → form_refusal b room ≡ 0 → is_canonical (canonical_of b) ≡ true
unfolding is_canonical
form_ok b room z = let f = form_laws b (form_free b room z) in rw (is_canonical, f.accepted, f.rises) refl

pub consult_sound : (c b : List ℕ) (room amount : ℕ) → sound c ≡ true → sound (consult_cache c b room amount) ≡ true
consult_sound c b room amount h = go (writing b room)
  where
    go : Writing b room → sound (consult_cache c b room amount) ≡ true
    go (written z) = ap sound (leaves_form c b room z amount) ∙ sound_stays laid c (canonical_of b) amount (form_ok b room z) h
    go (refused n) = ap sound (leaves-refused c b room n amount) ∙ h

pub grown_sound : (c : List ℕ) → Grown c → sound c ≡ true
grown_sound _ (emptied c h) = empty-sound version1 c h
grown_sound _ (consulted c b room amount g) = consult_sound c b room amount (grown_sound c g)
grown_sound _ (lent_again c rest g) = lent-sound version1 c (grown_sound c g) rest

-- ---- what is filed of a form stays, and is given back
known_consulted : (c b x : List ℕ) (room amount : ℕ) (a : Answer) → Asked version1 c x (Some a)
    → Asked version1 (consult_cache c b room amount) x (Some a)
known_consulted c b x room amount a h = go (writing b room)
  where
    Known : List ℕ → Type 0
    Known y = Asked version1 y x (Some a)

    go : Writing b room → Known (consult_cache c b room amount)
    go (written z) = subst Known (sym (leaves_form c b room z amount))
        (known_stays laid c (canonical_of b) x amount (form_ok b room z) a h (way version1 c (canonical_of b) amount))
    go (refused n) = subst Known (sym (leaves-refused c b room n amount)) h

known_later : (c x : List ℕ) (a : Answer) → Asked version1 c x (Some a) → {c' : List ℕ} → Later c c'
    → Asked version1 c' x (Some a)
known_later c x a h same = h
known_later c x a h (after c' b room amount l) = known_consulted c' b x room amount a (known_later c x a h l)
known_later c x a h (lent-later c' rest l) =
    let k = known_later c x a h l in
    record { sound = lent-sound version1 c' k.sound rest; there = rw (lent_records version1 c' k.sound rest) k.there }

-- by every automaton of that form
known_back : (c b : List ℕ) (a : Answer) → Asked version1 c (canonical_of b) (Some a) → GivesBackAll c b a
known_back c b a h x room z e =
    let there : look_up_as version1 c (canonical_of x) ≡ Ok (Some a) =
    ap (look_up_as version1 c) e ∙ answered version1 c (canonical_of b) (Some a) h in
    let stands = told_all version1 c (canonical_of x) a there in
    record {
      looked = looks_form c x room z ∙ there;
      answer = λ m. answers_form c x room z m ∙ (stands m []).0;
      cache = λ m. leaves_form c x room z m ∙ (stands m []).1;
      store = λ s. stores_form c x room z s ∙ (stands 0 s).2;
    }

-- an automaton that is answered with a verdict has its form filed
known_found : (c b : List ℕ) (room amount : ℕ) (a : Answer) → consult_answer c b room amount ≡ Ok a
    → Asked version1 (consult_cache c b room amount) (canonical_of b) (Some a)
known_found c b room amount a e = go (writing b room)
  where
    go : Writing b room → Asked version1 (consult_cache c b room amount) (canonical_of b) (Some a)
    go (written z) = subst (λ (y : List ℕ). Asked version1 y (canonical_of b) (Some a)) (sym (leaves_form c b room z amount))
        (known_answer laid c (canonical_of b) amount (form_ok b room z) a (sym (answers_form c b room z amount) ∙ e))
    go (refused n) = let z : ◌≡◌ {A = ℕ} 0 1 = cc (sym (answers_refused c b room n amount) ∙ e) in absurd (omega arith)

pub given_back : (c b : List ℕ) (room amount : ℕ) (a : Answer) → consult_answer c b room amount ≡ Ok a
    → (c' : List ℕ) → Later (consult_cache c b room amount) c' → GivesBackAll c' b a
given_back c b room amount a e c' l =
    known_back c' b a (known_later (consult_cache c b room amount) (canonical_of b) a (known_found c b room amount a e) l)
