-- What holds of every answer that is given out, beside the demands.
use Rattle.std.specs.Prelude.{ℕ, ◌+◌, ◌≤◌, ◌<◌, List, ◌⊎◌, ◌≡◌, Result, Ok, Err}
use Rattle.zones.specs.declared.fraction.Fraction.{Fraction}
use Rattle.zones.specs.declared.pair.Pair.{Pair}
use Rattle.zones.specs.Fractions.{AtMost, gcd_of}
use Rattle.search.specs.declared.outcome.Dropped.{Dropped}
use Rattle.search.specs.declared.verdict.Answer.{Answer}
use Rattle.search.specs.declared.verdict.Findings.{Findings}
use Rattle.search.specs.declared.verdict.Verdict.{Verdict}
use Rattle.search.specs.declared.verdict.Verdict.TheVariants.{Reached, Holds}
use Rattle.automata.specs.Numbers.{number}
use Rattle.automata.specs.Refusals.{refusal_of}
use Rattle.automata.specs.declared.refusals.Refusal.{Refusal}
use Rattle.automata.specs.declared.refusals.Refusal.TheVariants.{ErrorCountTooLarge, StoreFull}
use Rattle.automata.specs.Semantics.{system_of}
use Rattle.reachability.specs.Accounts.{one, one_if_empty, one_if_live, entered}
use Rattle.reachability.specs.Search as reachability
use Rattle.search.specs.Instance.{Fractions, zones_of}
use Rattle.search.specs.Store.{most_slots}
use Rattle.search.specs.Verdicts.{fraction_of, holding_of}
use Rattle.search.specs.Answers.{state_of, search_findings, search_answer}

-- ---- its numbers: n is at least 1, n/d is in lowest terms, and a record's "4 bytes n, 4 bytes d, 4 bytes zone count" suffice
pub record Terms (f : Fraction) : Type 0 where
  pub least : 1 ≤ f.n
  pub n< : f.n < 4294967296
  pub d< : f.d < 4294967296
  pub lowest : gcd_of f.n f.d ≡ 1

-- and a limit of 1/0 is given as no limit. A refusal is the reader's, 1 to 8, or the search's, 9 or 10.
unfoldable pub Lowest : Verdict → Type 0
Lowest (Holds h) = Terms (fraction_of h) × (h ≡ holding_of (fraction_of h))
Lowest Reached = Unit {0}

unfoldable pub Given : List ℕ → Result Answer Refusal → Type 0
Given b (Ok a) = Lowest a.verdict × (a.zones ≤ most_slots)
Given b (Err k) =
    ((number k ≡ refusal_of b) × (1 ≤ number k) × (number k ≤ 8)) ⊎ ((refusal_of b ≡ 0) × ((k ≡ ErrorCountTooLarge) ⊎ (k ≡ StoreFull)))

-- ---- what stands beside a verdict: the exact fraction, given out as the verdict's is, and not above it
unfoldable pub Under : Fraction → Verdict → Type 0
Under exact (Holds h) = AtMost exact (fraction_of h)
Under exact Reached = Unit {0}

unfoldable pub Beside : Result Findings Refusal → Type 0
Beside (Ok x) = Terms x.exact × Under x.exact x.answer.verdict
Beside (Err k) = Unit {0}

-- ---- document 02, Change 5, added up, where the automaton holds: the zones kept and those dropped, as again and as inside, are those that have
-- entered and are not empty; with the empty ones they are all that have entered. `count` says what each counts for
abbrev pub entered_by : List ℕ → (reachability.Result (List Pair) Fractions → ℕ) → ℕ → ℕ
entered_by b count amount = entered (system_of b) (zones_of b) (zones_of b).top count (state_of b amount).kept

unfoldable pub Summed : List ℕ → ℕ → ℕ → Dropped → Verdict → Type 0
Summed b amount zones d (Holds h) =
    (zones + d.again + d.inside ≡ entered_by b one_if_live amount) ×
    (zones + d.again + d.inside + entered_by b one_if_empty amount ≡ entered_by b one amount)
Summed b amount zones d Reached = Unit {0}

unfoldable pub AddsUp : List ℕ → ℕ → Result Findings Refusal → Type 0
AddsUp b amount (Ok x) = Summed b amount x.answer.zones x.dropped x.answer.verdict
AddsUp b amount (Err k) = Unit {0}

-- ---- it is the answer "at every store size that lets the search finish", and so is all that the search finds
unfoldable pub Lasting : List ℕ → Result Answer Refusal → Type 0
Lasting b r = (r ≡ Err StoreFull → ⊥) → (amount : ℕ) → (search_answer b amount ≡ Err StoreFull → ⊥) → search_answer b amount ≡ r

unfoldable pub LastingFindings : List ℕ → Result Findings Refusal → Type 0
LastingFindings b r =
    (r ≡ Err StoreFull → ⊥) → (amount : ℕ) → (search_findings b amount ≡ Err StoreFull → ⊥) → search_findings b amount ≡ r
