-- The clocks of a state in whole time units with no loosening: eight numbers, clock 1 first, of which those of the automaton count.
use Rattle.std.specs.Prelude.{ℕ, zero, suc, ◌+◌, ◌≤◌, ◌<◌, ◌≡◌, Bool, true, false, cond, List, ltb, leb, eqb, length, get_or, set}
use Rattle.runs.specs.Limits.{scale}
use Rattle.automata.specs.Automata.{clocks, locations, invariant_at, edge_at, lo_at, hi_at, no_upper}

-- a clock at y is within lo and hi
unfoldable pub holds : ℕ → ℕ → ℕ → Bool
holds lo hi y = cond (ltb y lo) false (cond (eqb hi no_upper) true (leb y hi))

-- each of the first k clocks is within its limits at `at`
unfoldable pub within_at : List ℕ → ℕ → List ℕ → ℕ → Bool
within_at b at c zero = true
within_at b at c (suc k) = cond (holds (lo_at b at (suc k)) (hi_at b at (suc k)) (get_or c k 0)) (within_at b at c k) false

abbrev pub meets_invariant : List ℕ → ℕ → List ℕ → Bool
meets_invariant b l c = within_at b (invariant_at b l) c (clocks b)

abbrev pub meets_guard : List ℕ → ℕ → List ℕ → Bool
meets_guard b i c = within_at b (edge_at b i + 3) c (clocks b)

-- the first k clocks after a wait
unfoldable pub waited : ℕ → ℕ → List ℕ → List ℕ
waited t zero c = c
waited t (suc k) c = set (waited t k c) k (get_or c k 0 + t)

-- the first k clocks after a reset of those of R, which counts from 0
unfoldable pub reset_by : (ℕ → Bool) → ℕ → List ℕ → List ℕ
reset_by R zero c = c
reset_by R (suc k) c = cond (R k) (set (reset_by R k c) k 0) (reset_by R k c)

-- whether clock x + 1 is marked; marks stand by clock from 1
abbrev pub marked_in : List Bool → ℕ → Bool
marked_in marks x = get_or marks (suc x) false

-- ---- states from which the sums of a step fit
pub record LowClocks (c : List ℕ) : Type 0 where
  pub size : length c ≡ 8
  pub low : (x : ℕ) → x < 8 → get_or c x 0 ≤ scale

pub record CanStep (b : List ℕ) (l : ℕ) (c : List ℕ) : Type 0 where
  pub location : l < locations b
  pub clocks : LowClocks c

-- the same of the first n clocks alone, of clocks that are lent for a wait, and of those of a state behind the first n
abbrev pub LowFirst : ℕ → List ℕ → Type 0
LowFirst n c = (x : ℕ) → x < n → get_or c x 0 ≤ scale

abbrev pub LowLent : List ℕ → Type 0
LowLent c = LowFirst (length c) c

abbrev pub LowBehind : ℕ → List ℕ → Type 0
LowBehind n c = (x : ℕ) → n ≤ x → x < 8 → get_or c x 0 ≤ scale
