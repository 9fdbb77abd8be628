-- Document 02, Change 1, of an automaton that is not turned down: its form, its runs, and where two have one form.
-- Assumes nothing.
use Prim.Native.Nat.{ℕ}
use mathlib.Core.Bool.{Bool, true, false, true≢false, ◌&&◌}
use mathlib.Core.List.{List, ◌++◌}
use mathlib.Core.Logic.{◌↔◌}
use mathlib.Core.Path.{◌≡◌, refl, sym, ◌∙◌}
use borrow.Author.Tests.{eqb-true}
use lib.Dec.{eqb}
use lib.Seq.{take_at}
use Rattle.runs.specs.Renumbering.{Renumbers}
use Rattle.runs.proofs.Renumbering.{reaches_same, runs_as}
use Rattle.automata.specs.Accepted.{Accepted}
use Rattle.automata.specs.Automata.{length_field}
use Rattle.automata.specs.Refusals.{refusal_of}
use Rattle.automata.specs.Semantics.{system_of}
use Rattle.automata.specs.Canonical.{in_order, is_canonical, canonical_of, to_form, to_drawn}
use Rattle.automata.specs.Forms.{OwnForm, Bytes, FormLaws}
use Rattle.automata.proofs.accepting.Accepting.{accepted, free}
use Rattle.automata.proofs.canonical.Renumbering.{alike_renumbers}
use Rattle.automata.proofs.canonical.Shape.{form_length_lem, form_field}
use Rattle.automata.proofs.canonical.Numbering.{numbered_there, numbered-back, form_alike, drawn_alike}
use Rattle.automata.proofs.canonical.Acceptance.{own_length, form_accepted}
use Rattle.automata.proofs.canonical.Again.{forms_same, again}
use Rattle.automata.proofs.canonical.Deciding.{rises, decided}

module _ (b : List ℕ) (a : Accepted b) where
  to_form_lem : Renumbers (system_of b) (system_of (canonical_of b)) (to_form b) (λ v. v)
  to_form_lem = alike_renumbers b (canonical_of b) (to_form b) (form_alike b a.complete) a.start< a.to<

  to-drawn : Renumbers (system_of (canonical_of b)) (system_of b) (to_drawn b) (λ v. v)
  to-drawn =
      let f = form_accepted b a in
      alike_renumbers (canonical_of b) b (to_drawn b) (drawn_alike b a.complete) f.start< f.to<

-- ---- all that the document asks of the form
pub form_laws : (b : List ℕ) → refusal_of b ≡ 0 → FormLaws b
form_laws b h =
    let a = accepted b h in
    let w = a.complete in
    let drawn-as = system_of b in
    let form-as = system_of (canonical_of b) in
    record {
      accepted = (free (canonical_of b)).0 (form_accepted b a);
      own_length = own_length b w;
      stands = λ more. take_at (canonical_of b) more (length_field (canonical_of b ++ more)) (form_length_lem b w ∙ sym (form_field b w more));
      edges_there = numbered_there b w;
      edges-back = numbered-back b w;
      there = runs_as drawn-as form-as (to_form b) (λ v. v) (to_form_lem b a);
      back = runs_as form-as drawn-as (to_drawn b) (λ v. v) (to-drawn b a);
      reaches = λ s e. (
        reaches_same drawn-as form-as (to_form b) (λ v. v) (to_form_lem b a) s e,
        reaches_same form-as drawn-as (to_drawn b) (λ v. v) (to-drawn b a) s e,
      );
      rises = rises b a;
      again = again b w;
      decided = decided b a;
      alike = λ c k s. forms_same b c a (accepted c k) s;
    }

-- "in any other order or with a repeat": what `is_canonical` tests, of bytes
pub own_form : (b : List ℕ) → Bytes b → is_canonical b ≡ true ↔ OwnForm b
unfolding is_canonical
own_form b y = (there, back)
  where
    there : is_canonical b ≡ true → OwnForm b
    there h = go (eqb (refusal_of b) 0) refl h
      where
        go : (t : Bool) → eqb (refusal_of b) 0 ≡ t → (t && in_order b) ≡ true → OwnForm b
        go true e g = let z = eqb-true (refusal_of b) 0 e in (z, ((form_laws b z).decided y).0 g)
        go false e g = absurd (true≢false (sym g))

    back : OwnForm b → is_canonical b ≡ true
    back o = rw (is_canonical, o.0) (((form_laws b o.0).decided y).1 o.1)
