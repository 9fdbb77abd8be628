-- A timed automaton, and the runs that it allows. A valuation is the list of the clocks' ticks of 1/s, clock 1 first; the error is e ticks.
use Rattle.std.specs.Prelude.{ℕ, zero, suc, ◌+◌, Bool, cond, List, [], ◌∷◌, get_or, replicate}
use Rattle.runs.specs.Limits.{Limits, Within}
use Rattle.runs.specs.Runs.{System}

-- edges and locations are counted from 0, clocks from 1; `resets i x`: edge i resets clock x
pub record TimedAutomaton : Type 0 where
  pub clocks : ℕ
  pub edges : ℕ
  pub from : ℕ → ℕ
  pub to : ℕ → ℕ
  pub start : ℕ
  pub target : ℕ
  pub resets : ℕ → ℕ → Bool
  pub guard : ℕ → Limits
  pub invariant : ℕ → Limits

abbrev pub Valuation : Type 0
Valuation = List ℕ

-- the ticks of clock x, counted from 1; 0 stands for 0
abbrev pub ticks : Valuation → ℕ → ℕ
ticks v zero = 0
ticks v (suc x) = get_or v x 0

-- the valuation of c clocks in which clock x has u x ticks
unfoldable pub listed : ℕ → (ℕ → ℕ) → Valuation
listed zero u = []
listed (suc c) u = u 1 ∷ listed c (λ x. u (suc x))

-- "A wait adds the same whole number of ticks, 0 or more, to all clocks"
unfoldable pub later : ℕ → Valuation → Valuation
later t [] = []
later t (y ∷ v) = (y + t) ∷ later t v

-- "then the reset clocks are put to 0": those of R, from clock x on
unfoldable pub zeroed : (ℕ → Bool) → ℕ → Valuation → Valuation
zeroed R x [] = []
zeroed R x (y ∷ v) = cond (R x) 0 y ∷ zeroed R (suc x) v

-- "A run starts at the start location with all clocks 0."
-- "the loosened guard must hold first"; "Every state .. satisfies its location's loosened invariant."
abbrev pub system_for : TimedAutomaton → System
system_for a =
    record {
      edges = a.edges;
      from = a.from;
      to = a.to;
      start = a.start;
      target = a.target;
      Val = Valuation;
      origin = replicate a.clocks 0;
      pass = later;
      reset = λ i. zeroed (a.resets i) 1;
      guard = λ s e i v. Within s e a.clocks (a.guard i) (ticks v);
      inv = λ s e l v. Within s e a.clocks (a.invariant l) (ticks v);
    }
