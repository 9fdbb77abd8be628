-- Demands 2 and 3, each one proposition about the search of an automaton's bytes.
use Rattle.std.specs.Prelude.{ℕ, ◌≤◌, List, ◌≡◌, Result, Ok, Err}
use Rattle.runs.specs.Runs.{Reaches}
use Rattle.automata.specs.Refusals.{refusal_of}
use Rattle.automata.specs.declared.refusals.Refusal.{Refusal}
use Rattle.automata.specs.Semantics.{system_of}
use Rattle.reachability.specs.Meaning.{SameSet, Contains}
use Rattle.reachability.specs.Search.{Nth}
use Rattle.zones.specs.Fractions.{AtMost}
use Rattle.zones.specs.Values.{Below}
use Rattle.search.specs.declared.verdict.Answer.{Answer}
use Rattle.search.specs.declared.verdict.Verdict.{Verdict}
use Rattle.search.specs.declared.verdict.Verdict.TheVariants.{Reached, Holds}
use Rattle.search.specs.Answers.{state_of}
use Rattle.search.specs.Instance.{ZoneNode, meaning_of}
use Rattle.search.specs.Verdicts.{fraction_of}

-- ---- demand 3, of an answer: its fraction is the safe one
-- holds up to n/d: no run in ticks of 1/s stands in the forbidden location when every limit is loosened by e ticks, for all e × d < n × s.
-- reached: a run in whole time units with no loosening stands there
unfoldable pub RobustVerdict : List ℕ → Verdict → Type 0
RobustVerdict b (Holds h) = (s e : ℕ) → 1 ≤ s → Below s e (fraction_of h) → Reaches (system_of b) s e → ⊥
RobustVerdict b Reached = Reaches (system_of b) 1 0

unfoldable pub Robust : List ℕ → Result Answer Refusal → Type 0
Robust b (Ok a) = RobustVerdict b a.verdict
Robust b (Err k) = Unit {0}

-- ---- demand 2, of the search in a store of `amount` numbers, however it ended
-- at every error below the exact fraction, a kept zone and the exact set of states along its own edges are one set
abbrev pub KeptExact : List ℕ → ℕ → Type 0
KeptExact b amount =
    refusal_of b ≡ 0 → (s e : ℕ) → 1 ≤ s → Below s e (state_of b amount).frac.exact →
    (j : ℕ) (k : ZoneNode) → Nth (state_of b amount).kept j k → SameSet (system_of b) (meaning_of b) s e k

-- at every error whatever, a kept zone contains that set
abbrev pub KeptContains : List ℕ → ℕ → Type 0
KeptContains b amount =
    refusal_of b ≡ 0 → (s e : ℕ) → 1 ≤ s →
    (j : ℕ) (k : ZoneNode) → Nth (state_of b amount).kept j k → Contains (system_of b) (meaning_of b) s e k

-- document 02's words: "between the two, a kept zone contains the exact set"
abbrev pub KeptBetween : List ℕ → ℕ → Type 0
KeptBetween b amount =
    refusal_of b ≡ 0 → (s e : ℕ) → 1 ≤ s → (Below s e (state_of b amount).frac.exact → ⊥) → Below s e (state_of b amount).frac.safe →
    (j : ℕ) (k : ZoneNode) → Nth (state_of b amount).kept j k → Contains (system_of b) (meaning_of b) s e k

-- ---- the exact fraction is never above the safe one, however the search ended
abbrev pub Ordered : List ℕ → ℕ → Type 0
Ordered b amount = refusal_of b ≡ 0 → AtMost (state_of b amount).frac.exact (state_of b amount).frac.safe
