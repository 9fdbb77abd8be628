-- What the search finds, from where it stopped, and the store that it leaves.
use Rattle.std.specs.Prelude.{ℕ, suc, cond, List, eqb, ℤ, length, Result, Ok, Err}
use Rattle.automata.specs.Automata.{clocks}
use Rattle.automata.specs.Numbers.{named}
use Rattle.automata.specs.Refusals.{refusal_of}
use Rattle.automata.specs.declared.refusals.Refusal.{Refusal}
use Rattle.reachability.specs.Search.{Outcome, going, ended, reached, refused}
use Rattle.zones.specs.declared.fraction.Fraction.{Fraction}
use Rattle.zones.specs.Fractions.{lowest_terms}
use Rattle.search.specs.declared.outcome.Dropped.{Dropped}
use Rattle.search.specs.declared.outcome.Outcome as told
use Rattle.search.specs.declared.outcome.Outcome.TheVariants as stopped
use Rattle.search.specs.declared.verdict.Answer.{Answer}
use Rattle.search.specs.declared.verdict.Findings.{Findings}
use Rattle.search.specs.declared.verdict.Verdict.{Verdict}
use Rattle.search.specs.declared.verdict.Verdict.TheVariants.{Reached, Holds}
use Rattle.search.specs.Instance.{Fractions, ZoneState, search_of}
use Rattle.search.specs.Store.{store_of, capacity_of}
use Rattle.search.specs.Verdicts.{holding_of}

-- "The verdict, the shelf and the printed line carry the safe fraction, and the bare search gives the exact one beside each verdict". Each "is
-- given out in lowest terms". So do the counts of dropped zones: "The shelf doesn't carry them."
abbrev pub found_of : Verdict → Fraction → ℕ → Dropped → Findings
found_of v exact zones dropped = record { answer = record { verdict = v; zones = zones }; exact = lowest_terms exact; dropped = dropped }

-- what is found where it went to its end
abbrev pub holding_found : Fractions → ℕ → Dropped → Findings
holding_found f zones d = found_of (Holds (holding_of (lowest_terms f.safe))) f.exact zones d

unfoldable pub findings_of : Outcome → Fractions → ℕ → Dropped → Result Findings Refusal
findings_of going f zones d = Ok (holding_found f zones d)
findings_of (ended (reached c)) f zones d = Ok (found_of Reached f.exact zones d)
findings_of (ended (refused k)) f zones d = Err (named k)

-- the same of where the code stopped, refused by whatever it may be: where that is a refusal of the table, it is `findings_of`
unfoldable pub turn_findings : {R : Type 0} → told.Outcome R → Fractions → ℕ → Dropped → Result Findings R
turn_findings stopped.Going f zones d = Ok (holding_found f zones d)
turn_findings (stopped.Reached o) f zones d = Ok (found_of Reached f.exact zones d)
turn_findings (stopped.Refused k) f zones d = Err k

abbrev pub dropped_in : ZoneState → Dropped
dropped_in q = record { again = q.again; inside = q.inside }

unfoldable pub state_findings : ZoneState → Result Findings Refusal
state_findings q = findings_of q.outcome q.frac (length q.kept) (dropped_in q)

-- the search of the bytes b in a store of `amount` numbers: its last state, and what it finds
abbrev pub state_of : List ℕ → ℕ → ZoneState
state_of b amount = search_of b (capacity_of (suc (clocks b)) amount)

unfoldable pub search_findings : List ℕ → ℕ → Result Findings Refusal
search_findings b amount = cond (eqb (refusal_of b) 0) (state_findings (state_of b amount)) (Err (named (refusal_of b)))

-- the answer alone: a verdict with the number of zones kept, or a refusal
unfoldable pub answer_in : Result Findings Refusal → Result Answer Refusal
answer_in (Ok x) = Ok x.answer
answer_in (Err k) = Err k

abbrev pub search_answer : List ℕ → ℕ → Result Answer Refusal
search_answer b amount = answer_in (search_findings b amount)

-- the store that it leaves
unfoldable pub search_store : List ℕ → List ℤ → List ℤ
search_store b s = cond (eqb (refusal_of b) 0) (store_of (suc (clocks b)) (state_of b (length s)).kept s) s
