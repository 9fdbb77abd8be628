-- What holds of every answer, and that it depends on the store's length through 10 alone: the laws that a cache of verdicts needs.
-- Assumes nothing.
use Prim.Native.Nat.{ℕ, suc, ◌<◌, ◌≤◌}
use mathlib.Core.Path.{◌≡◌, refl, sym, ap, ◌∙◌, subst}
use mathlib.Core.List.{List}
use mathlib.Core.Logic.{◌⊎◌, inl, inr, ⊎_elim}
use lib.ListN.{length}
use Rattle.std.specs.Prelude.{Result, Err}
use native.Mathlib.Nat.{eq-zero-or-pos}
use native.Mathlib.Omega.{arith}
use Rattle.zones.specs.declared.fraction.Fraction.{Fraction}
use Rattle.zones.specs.declared.pair.Pair.{Pair}
use Rattle.zones.specs.Fractions.{lowest_terms}
use Rattle.zones.specs.Ranges.{Fits32}
use Rattle.zones.proofs.fractions.Lowest.{lowest_positive, lowest_coprime, lowest_n_le, lowest_d_le}
use Rattle.search.specs.declared.verdict.Findings.{Findings}
use Rattle.automata.specs.Accepted.{Accepted}
use Rattle.automata.specs.Automata.{clocks}
use Rattle.automata.specs.Numbers.{named}
use Rattle.automata.specs.Refusals.{refusal_of}
use Rattle.automata.specs.declared.refusals.Refusal.{Refusal}
use Rattle.automata.specs.declared.refusals.Refusal.TheVariants.{ErrorCountTooLarge, StoreFull}
use Rattle.automata.proofs.accepting.Numbering.{named_refusal}
use Rattle.search.specs.Exploring.{SoundState}
use Rattle.search.specs.Instance.{Fractions, ZoneNode, ZoneState, zones_of, search_of}
use Rattle.search.specs.Given.{Terms, Lowest, Given, Under, Beside, Lasting, LastingFindings}
use Rattle.search.specs.Promised.{Promised}
use Rattle.reachability.specs.Search as reachability
use Rattle.reachability.specs.Search.{empty, zone, Outcome, going, ended, reached, refused, first_node, child, offer}
use Rattle.automata.specs.Semantics.{system_of}
use Rattle.search.specs.Store.{most_slots, capacity_of}
use Rattle.search.specs.Verdicts.{fraction_of, holding_of}
use Rattle.search.specs.Answers.{findings_of, dropped_in, state_findings, state_of, search_findings, answer_in, search_answer}
use Rattle.automata.proofs.accepting.Accepting.{accepted, refusal_small}
use Rattle.reachability.proofs.Capacity.{finished_same, larger_same}
use Rattle.reachability.proofs.Keeps.{search_keeps, search_room}
use Rattle.search.proofs.answers.Answers.{found_accepted, found-refused, by_refusal}
use Rattle.search.proofs.answers.Demands.{exact_positive, safe_positive, given_ordered, given_fraction, robust, kept_exact}
use Rattle.search.proofs.answers.Demands.{kept_contains, ordered}
use Rattle.search.proofs.answers.Adding.{adds_up}
use Rattle.reachability.proofs.Judged.{dropping_going, Judged, was_target, was_inside, was_big, was_kept, was_full, judged}
use Rattle.search.proofs.exploration.Sounding.{begin_sound}
use Rattle.search.proofs.exploration.Stores.{capacity_small, capacity_more}
use Rattle.search.proofs.exploration.Taking.{steady_sound}

-- ---- the state in which a search ends
pub final_sound : (b : List ℕ) → Accepted b → (c : ℕ) → SoundState b c (search_of b c)
final_sound b a c = search_keeps (system_of b) (zones_of b) c (steady_sound b a c) (begin_sound b a c)

-- ---- how it ends: it goes on to the end, or reaches the target, or is refused by 9 or by 10
abbrev Known : Outcome → Type 0
Known going = Unit {0}
Known (ended (reached c)) = Unit {0}
Known (ended (refused k)) = (k ≡ 9) ⊎ (k ≡ 10)

named_known : (k : ℕ) → Known (ended (refused k)) → (named k ≡ ErrorCountTooLarge) ⊎ (named k ≡ StoreFull)
named_known k = ⊎_elim (λ e. inl (ap named e)) (λ e. inr (ap named e))

module _ (b : List ℕ) (c : ℕ) where
  judged_known : {q : ZoneState} {k : ZoneNode} {f : Fractions} {q' : ZoneState} → Judged (system_of b) (zones_of b) c q k f q' → Known q'.outcome
  judged_known (was_target e) = tt
  judged_known (was_inside y e g) = rw dropping_going tt
  judged_known (was_big e g h) = inl refl
  judged_known (was_kept e g h i) = tt
  judged_known (was_full e g h i) = inr refl

  offer_known : (q : ZoneState) (n : List Pair → ZoneNode) (r : reachability.Result (List Pair) Fractions) →
      Known (offer (system_of b) (zones_of b) c q n r).outcome
  unfolding offer
  offer_known q n (empty f) = tt
  offer_known q n (zone z f) = judged_known (judged (system_of b) (zones_of b) c q (n z) f)

  final_known : Known (search_of b c).outcome
  final_known =
      search_keeps (system_of b) (zones_of b) c {P = λ q. Known q.outcome}
      (record { edge = λ q j k i e n l f h. offer_known q (child (system_of b) j k i) _ }) (offer_known _ (first_node (system_of b)) _)

-- ---- the numbers of the answer
module _ (b : List ℕ) (ok : refusal_of b ≡ 0) (amount : ℕ) where
  abbrev c : ℕ
  c = capacity_of (suc (clocks b)) amount

  few : length (state_of b amount).kept ≤ most_slots
  few = omega (arith, search_room (system_of b) (zones_of b) c, capacity_small (suc (clocks b)) amount)

  -- a running fraction in lowest terms
  lowest : (f : Fraction) → 0 < f.n → Fits32 f → Terms (lowest_terms f)
  lowest f h w = record {
    least = lowest_positive f h;
    n< = omega (arith, lowest_n_le f, w.n);
    d< = omega (arith, lowest_d_le f, w.d);
    lowest = lowest_coprime f h;
  }

  safe_terms : Terms (fraction_of (holding_of (lowest_terms (state_of b amount).frac.safe)))
  safe_terms =
      let f = (state_of b amount).frac.safe in
      let h = safe_positive b c ok in
      subst Terms (sym (given_fraction f h)) (lowest f h (final_sound b (accepted b ok) c).safe)

  exact_terms : Terms (lowest_terms (state_of b amount).frac.exact)
  exact_terms = lowest (state_of b amount).frac.exact (exact_positive b c ok) (final_sound b (accepted b ok) c).exact

  abbrev found : Result Findings Refusal
  found =
      findings_of (state_of b amount).outcome (state_of b amount).frac (length (state_of b amount).kept) (dropped_in (state_of b amount))

  state_given : Given b (answer_in (state_findings (state_of b amount)))
  unfolding state_findings findings_of answer_in Given Lowest
  state_given = go (state_of b amount).outcome refl
    where
      go : (x : Outcome) → (state_of b amount).outcome ≡ x → Given b (answer_in found)
      go going e = rw e ((safe_terms, ap holding_of (sym (given_fraction (state_of b amount).frac.safe (safe_positive b c ok)))), few)
      go (ended (reached c)) e = rw e (tt, few)
      go (ended (refused k)) e = rw e (inr (ok, named_known k (subst Known e (final_known b c))))

  state_beside : Beside (state_findings (state_of b amount))
  unfolding state_findings findings_of Beside Under
  state_beside = go (state_of b amount).outcome refl
    where
      go : (x : Outcome) → (state_of b amount).outcome ≡ x → Beside found
      go going e = rw e (exact_terms, given_ordered b c ok)
      go (ended (reached c)) e = rw e (exact_terms, tt)
      go (ended (refused k)) e = rw e tt

given : (b : List ℕ) (amount : ℕ) → Given b (search_answer b amount)
unfolding answer_in Given
given b amount =
    by_refusal b amount (λ r. Given b (answer_in r)) (λ e. state_given b e amount)
    (λ p. let e = named_refusal b p in inl (e, rw e p, rw e (refusal_small b)))

beside : (b : List ℕ) (amount : ℕ) → Beside (search_findings b amount)
unfolding Beside
beside b amount = by_refusal b amount Beside (λ e. state_beside b e amount) (λ p. tt)

-- ---- two searches of the same bytes that do not end in 10 are one: outcome, fractions and kept zones
abbrev Full : List ℕ → ℕ → Type 0
Full b amount = (state_of b amount).outcome ≡ ended (refused 10)

finishes_once : (b : List ℕ) (amount amount' : ℕ) → (Full b amount → ⊥) → (Full b amount' → ⊥) → state_of b amount' ≡ state_of b amount
finishes_once b amount amount' = finished_same (system_of b) (zones_of b) (capacity_of (suc (clocks b)) amount) (capacity_of (suc (clocks b)) amount')

-- a longer store alters nothing but a 10
pub longer_same : (b : List ℕ) (amount amount' : ℕ) → amount ≤ amount' → (Full b amount → ⊥) → state_of b amount' ≡ state_of b amount
longer_same b amount amount' h =
    larger_same (system_of b) (zones_of b) (capacity_of (suc (clocks b)) amount) (capacity_of (suc (clocks b)) amount')
    (capacity_more (suc (clocks b)) amount amount' h)

-- ---- so what is found is the same at every length that lets the search finish
full_findings : (b : List ℕ) (amount : ℕ) → Full b amount → state_findings (state_of b amount) ≡ Err StoreFull
unfolding state_findings findings_of
full_findings b amount e = rw (state_findings, e) refl

finds_once : (b : List ℕ) (amount : ℕ) → LastingFindings b (search_findings b amount)
unfolding LastingFindings
finds_once b amount h amount' g = ⊎_elim
    (λ e.
    let at = found_accepted b e in
    at amount'
    ∙ ap state_findings
    (finishes_once b amount amount' (λ k. h (at amount ∙ full_findings b amount k)) (λ k. g (at amount' ∙ full_findings b amount' k)))
    ∙ sym (at amount))
    (λ p. found-refused b p amount' ∙ sym (found-refused b p amount))
    (eq-zero-or-pos (refusal_of b))

-- and so is the answer
answer-refused : (r : Result Findings Refusal) (k : Refusal) → r ≡ Err k → answer_in r ≡ Err k
unfolding answer_in
answer-refused r k e = rw e refl

pub lasting : (b : List ℕ) (amount : ℕ) → Lasting b (search_answer b amount)
unfolding Lasting LastingFindings
lasting b amount h amount' g =
    ap answer_in (finds_once b amount (λ e. h (answer-refused _ StoreFull e)) amount' (λ e. g (answer-refused _ StoreFull e)))

-- ---- the whole promise, of the definition
pub promised : (b : List ℕ) (amount : ℕ) → Promised b amount (search_findings b amount)
promised b amount = record {
  robust = robust b amount;
  exact = kept_exact b amount;
  contains = kept_contains b amount;
  ordered = ordered b amount;
  given = given b amount;
  beside = beside b amount;
  adds_up = adds_up b amount;
  lasting = finds_once b amount;
}
