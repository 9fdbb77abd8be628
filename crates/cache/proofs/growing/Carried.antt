-- What consulting promises beside its equations, of an automaton as drawn.
-- Assumes nothing.
use Prim.Native.Nat.{ℕ}
use mathlib.Core.List.{List}
use mathlib.Core.Path.{◌≡◌, sym, ◌∙◌, subst}
use lib.IntN.{ℤ}
use lib.ListN.{length}
use Rattle.automata.specs.Canonical.{canonical_of}
use Rattle.automata.specs.Refusals.{refusal_of}
use Rattle.automata.proofs.canonical.Theorems.{form_laws}
use Rattle.canonical.specs.Writing.{form_refusal}
use Rattle.canonical.proofs.Answers.{Writing, written, refused, writing, form_free}
use Rattle.std.specs.Prelude.{None, Result, Ok, Err}
use Rattle.automata.specs.declared.refusals.Refusal.{Refusal}
use Rattle.automata.specs.declared.refusals.Refusal.TheVariants.{ErrorCountTooLarge, StoreFull}
use Rattle.search.specs.declared.verdict.Answer.{Answer}
use Rattle.search.specs.declared.verdict.Verdict.{Verdict}
use Rattle.search.specs.declared.verdict.Verdict.TheVariants.{Reached, Holds}
use Rattle.search.specs.Demands.{Robust, RobustVerdict}
use Rattle.search.specs.Given.{Lasting}
use Rattle.cache.specs.Versions.{version1}
use Rattle.cache.specs.Consulting.{consult_answer_as}
use Rattle.cache.specs.Drawn.{look_up_in, consult_answer, consult_cache, consult_store}
use Rattle.cache.specs.Growing.{Grown, Carried}
use Rattle.cache.proofs.consulting.Ways.{way}
use Rattle.cache.proofs.consulting.Filing.{refused_unchanged, refused_store}
use Rattle.cache.proofs.consulting.Drawn.{looks_form, answers_form, leaves_form, stores_form}
use Rattle.cache.proofs.consulting.Drawn.{looks_refused, answers_refused, leaves-refused, stores_refused}
use Rattle.cache.proofs.growing.Back.{consult_sound, given_back}
use Rattle.cache.proofs.growing.Kept.{absent_robust, way_robust, Lasts, way_lasting}

-- demand 3 of a form is demand 3 of the automaton as drawn
verdict_drawn : (b : List ℕ) → refusal_of b ≡ 0 → (v : Verdict) → RobustVerdict (canonical_of b) v → RobustVerdict b v
unfolding RobustVerdict
verdict_drawn b h (Holds l) p = λ s e one below hit. p s e one below (((form_laws b h).reaches s e).0 hit)
verdict_drawn b h Reached p = ((form_laws b h).reaches 1 0).1 p

robust_drawn : (b : List ℕ) → refusal_of b ≡ 0 → (r : Result Answer Refusal) → Robust (canonical_of b) r → Robust b r
unfolding Robust
robust_drawn b h (Ok a) p = verdict_drawn b h a.verdict p
robust_drawn b h (Err k) p = tt

-- ---- what consulting promises
module _ (c b : List ℕ) (room amount : ℕ) where
  abbrev answer : Result Answer Refusal
  answer = consult_answer c b room amount

  unchanged : (k : Refusal) → answer ≡ Err k → consult_cache c b room amount ≡ c
  unchanged k e = go (writing b room)
    where
      go : Writing b room → consult_cache c b room amount ≡ c
      go (written z) = leaves_form c b room z amount
          ∙ refused_unchanged version1 c (canonical_of b) amount k (sym (answers_form c b room z amount) ∙ e)
      go (refused n) = leaves-refused c b room n amount

  robust_form : (z : form_refusal b room ≡ 0) → Robust (canonical_of b) (consult_answer_as version1 c (canonical_of b) amount) → Robust b answer
  robust_form z p =
      subst (Robust b) (sym (answers_form c b room z amount))
      (robust_drawn b (form_free b room z) (consult_answer_as version1 c (canonical_of b) amount) p)

  searched : look_up_in c b room ≡ Ok None → Robust b answer
  searched e = go (writing b room)
    where
      go : Writing b room → Robust b answer
      go (written z) = robust_form z
          (absent_robust c (canonical_of b) amount (sym (looks_form c b room z) ∙ e) (way version1 c (canonical_of b) amount))
      go (refused n) = cc (sym (looks_refused c b room n) ∙ e)

  robust : Grown c → Robust b answer
  unfolding Robust
  robust g = go (writing b room)
    where
      go : Writing b room → Robust b answer
      go (written z) = robust_form z (way_robust c (canonical_of b) amount g (way version1 c (canonical_of b) amount))
      go (refused n) = subst (Robust b) (sym (answers_refused c b room n amount)) tt

  lasting : Grown c → (a : Answer) → answer ≡ Ok a → Lasting (canonical_of b) answer
  lasting g a e = go (writing b room)
    where
      go : Writing b room → Lasting (canonical_of b) answer
      go (written z) =
          let f = sym (answers_form c b room z amount) ∙ e in
          subst (Lasting (canonical_of b)) (sym e)
          (subst (Lasts c (canonical_of b) amount g) f (way_lasting c (canonical_of b) amount g (way version1 c (canonical_of b) amount)))
      go (refused n) = cc (sym (answers_refused c b room n amount) ∙ e)

pub carried : (c b : List ℕ) (room : ℕ) (s : List ℤ)
    → Carried c b room s (consult_answer c b room (length s)) (consult_cache c b room (length s)) (consult_store c b room s)
carried c b room s = record {
  unchanged = unchanged c b room (length s);
  untouched = λ k e n9 n10. go k e n9 n10 (writing b room);
  stays = consult_sound c b room (length s);
  back = given_back c b room (length s);
  searched = searched c b room (length s);
  robust = robust c b room (length s);
  lasting = lasting c b room (length s);
}
  where
    go : (k : Refusal) → consult_answer c b room (length s) ≡ Err k → (k ≡ ErrorCountTooLarge → ⊥) → (k ≡ StoreFull → ⊥) → Writing b room
        → consult_store c b room s ≡ s
    go k e n9 n10 (written z) = stores_form c b room z s
        ∙ refused_store version1 c (canonical_of b) s k (form_laws b (form_free b room z)).accepted
        (sym (answers_form c b room z (length s)) ∙ e) n9 n10
    go k e n9 n10 (refused n) = stores_refused c b room n s

pub carried_by : (c b : List ℕ) (room : ℕ) (s : List ℤ) {r : Result Answer Refusal} {c' : List ℕ} {s' : List ℤ}
    → r ≡ consult_answer c b room (length s) → c' ≡ consult_cache c b room (length s) → s' ≡ consult_store c b room s → Carried c b room s r c' s'
carried_by c b room s answer cache store = rw (answer, cache, store) (carried c b room s)
