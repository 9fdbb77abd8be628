-- What the search finds, from where the code's search stopped.
-- Assumes nothing.
use Prim.Native.Nat.{ℕ, suc, ◌≤◌, ◌<◌}
use mathlib.Core.Path.{◌≡◌, refl, sym, ap, ◌∙◌}
use mathlib.Core.List.{List}
use mathlib.Core.Logic.{⊎_elim}
use borrow.Author.Tests.{eq-eqb, ne_eqb}
use lib.IntN.{ℤ}
use lib.ListN.{length}
use Rattle.std.specs.Prelude.{Result, Ok, Err}
use native.Mathlib.Nat.{eq-zero-or-pos}
use native.Mathlib.Omega.{arith}
use Rattle.zones.specs.declared.fraction.Fraction.{Fraction}
use Rattle.search.specs.declared.outcome.Dropped.{Dropped}
use Rattle.search.specs.Outcomes.{SearchTurn as Turn}
use Rattle.search.specs.declared.verdict.Findings.{Findings}
use Rattle.search.specs.declared.verdict.Holding.{Holding}
use Rattle.search.specs.declared.verdict.Verdict.TheVariants.{Holds}
use Rattle.search.specs.declared.verdict.Verdict.TheVariants as verdict
use Rattle.search.specs.declared.outcome.Outcome.{Outcome}
use Rattle.search.specs.declared.outcome.Outcome.TheVariants.{Going, Reached}
use Rattle.search.specs.declared.outcome.Outcome.TheVariants as outcome
use Rattle.slots.specs.declared.slot.Origin.{Origin}
use Rattle.automata.specs.Automata.{clocks}
use Rattle.automata.specs.Numbers.{number, named}
use Rattle.automata.specs.Refusals.{refusal_of}
use Rattle.automata.specs.declared.refusals.Refusal.{Refusal}
use Rattle.automata.proofs.accepting.Numbering.{above, named_number}
use Rattle.search.specs.Exploring.{Shown}
use Rattle.search.specs.Outcomes.{outcome_of}
use Rattle.search.specs.Instance.{Fractions, fractions_of, zones_of}
use Rattle.automata.specs.Semantics.{system_of}
use Rattle.search.specs.Store.{most_slots, capacity_of}
use Rattle.search.specs.Verdicts.{holding_of}
use Rattle.zones.specs.Fractions.{lowest_terms}
use Rattle.search.specs.Answers.{found_of, findings_of, turn_findings, state_findings, state_of, search_findings, search_store}
use Rattle.reachability.proofs.Keeps.{search_room}
use Rattle.search.proofs.exploration.Stores.{capacity_small}

-- ---- what is found, by the outcome x with which the search stopped
module _ {x : Outcome Refusal} (exact safe : Fraction) (zones : ℕ) (d : Dropped) where
  pub finds_holding : x ≡ Going → {h : Holding} {y : Findings} → h ≡ holding_of (lowest_terms safe) → y ≡ found_of (Holds h) exact zones d →
      Ok y ≡ findings_of (outcome_of x) (fractions_of exact safe) zones d
  unfolding outcome_of findings_of
  finds_holding e f g = rw e (ap Ok (g ∙ (λ i. found_of (Holds (f i)) exact zones d)))

  pub finds_reached : {o : Origin} → x ≡ Reached o → {y : Findings} → y ≡ found_of verdict.Reached exact zones d →
      Ok y ≡ findings_of (outcome_of x) (fractions_of exact safe) zones d
  unfolding outcome_of findings_of
  finds_reached e g = rw e (ap Ok g)

  pub finds_refused : {k : Refusal} → x ≡ outcome.Refused k → Err k ≡ findings_of (outcome_of x) (fractions_of exact safe) zones d
  unfolding outcome_of findings_of
  finds_refused {k = k} e = rw e (ap Err (sym (named_number k)))

-- refused by the table, a turn of the code has found what the definition has
pub turn_found : (x : Outcome Refusal) (f : Fractions) (zones : ℕ) (d : Dropped) → turn_findings x f zones d ≡ findings_of (outcome_of x) f zones d
unfolding turn_findings
turn_found Going f zones d = finds_holding f.exact f.safe zones d refl refl refl
turn_found (Reached o) f zones d = finds_reached f.exact f.safe zones d refl refl
turn_found (outcome.Refused k) f zones d = finds_refused f.exact f.safe zones d refl

-- ---- what is found, by whether the bytes are refused
module _ (b : List ℕ) where
  pub found_accepted : refusal_of b ≡ 0 → (amount : ℕ) → search_findings b amount ≡ state_findings (state_of b amount)
  unfolding search_findings
  found_accepted e amount = rw (search_findings, eq-eqb (refusal_of b) 0 e) refl

  pub found-refused : 0 < refusal_of b → (amount : ℕ) → search_findings b amount ≡ Err (named (refusal_of b))
  unfolding search_findings
  found-refused p amount = rw (search_findings, ne_eqb (refusal_of b) 0 (λ e. absurd (omega arith))) refl

  pub by_refusal : (amount : ℕ) (P : Result Findings Refusal → Type 0) → (refusal_of b ≡ 0 → P (state_findings (state_of b amount))) →
      (0 < refusal_of b → P (Err (named (refusal_of b)))) → P (search_findings b amount)
  by_refusal amount P f g = ⊎_elim (λ e. rw (found_accepted e amount) (f e)) (λ p. rw (found-refused p amount) (g p)) (eq-zero-or-pos (refusal_of b))

-- ---- refused at reading
pub refused_store : (b : List ℕ) → (refusal_of b ≡ 0 → ⊥) → (s : List ℤ) → s ≡ search_store b s
unfolding search_store
refused_store b h s = rw (search_store, ne_eqb (refusal_of b) 0 h) refl

module _ (b : List ℕ) (k : Refusal) (e : number k ≡ refusal_of b) where
  pub not_accepted : refusal_of b ≡ 0 → ⊥
  not_accepted z = omega (arith, e, above k)

  pub refused_findings : (amount : ℕ) → Err k ≡ search_findings b amount
  refused_findings amount =
      ap Err (sym (named_number k) ∙ ap named e) ∙ sym (found-refused b (omega (arith, e, above k)) amount)

-- ---- searched
module _ (b : List ℕ) (ok : refusal_of b ≡ 0) (s s' : List ℤ) (t : Turn) (h : Shown (suc (clocks b)) s (state_of b (length s)) s' t) where
  pub count_small : t.count ≤ most_slots
  count_small =
      let c = capacity_of (suc (clocks b)) (length s) in
      omega (arith, h.number, search_room (system_of b) (zones_of b) c, capacity_small (suc (clocks b)) (length s))

  pub searched_findings : {r : Result Findings Refusal} → r ≡ findings_of (outcome_of t.outcome) (fractions_of t.exact t.safe) t.count t.dropped →
      r ≡ search_findings b (length s)
  unfolding state_findings
  searched_findings e =
      e
      ∙ (λ i. findings_of (h.outcome i) (fractions_of (h.exact i) (h.safe i)) (h.number i) (record { again = h.again i; inside = h.inside i }))
      ∙ sym (found_accepted b ok (length s))

  pub searched_store : s' ≡ search_store b s
  unfolding search_store
  searched_store = rw (search_store, eq-eqb (refusal_of b) 0 ok) h.store
