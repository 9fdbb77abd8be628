-- The set of a zone at an error e/s, and how waits, jumps and limits go from valuation to valuation, as document 01's "Runs" has them.
-- A valuation gives each clock, by its index from 1, its ticks; index 0 stands for 0. There are n indices, and c clocks.
use Rattle.std.specs.Prelude.{ℕ, suc, ◌+◌, ◌≤◌, ◌<◌, ◌≡◌, Bool, ℤ}
use Rattle.zones.specs.declared.zone.Work.{Work}
use Rattle.zones.specs.Integers.{up, down}
use Rattle.runs.specs.Limits.{Limits, Within}
use Rattle.zones.specs.Zones.{entry, home}
use Rattle.zones.specs.Values.{value_of}

-- x − y ≤ z, in naturals, so that omega reads it as it stands (`gap_read` and `gap_make` of proofs/sets/Squares)
pub record Gap (z : ℤ) (x y : ℕ) : Type 0 where
  pub gap : x + down z ≤ up z + y

-- a square of integers, and its valuations among n indices
abbrev pub Square : Type 0
Square = ℕ → ℕ → ℤ

pub record In (n : ℕ) (D : Square) (v : ℕ → ℕ) : Type 0 where
  pub start : v 0 ≡ 0
  pub gaps : (a b : ℕ) → a < n → b < n → Gap (D a b) (v a) (v b)

-- a zone's values at an error, and its set
abbrev pub square_of : ℕ → ℕ → Work → Square
square_of s e w = λ a b. value_of s e (entry w a b)

abbrev pub Has : ℕ → ℕ → ℕ → Work → (ℕ → ℕ) → Type 0
Has s e c w v = In (suc c) (square_of s e w) v

-- "the reset clocks are put to 0": v' is v with R put to 0
abbrev pub Put : ℕ → (ℕ → Bool) → (ℕ → ℕ) → (ℕ → ℕ) → Type 0
Put n R v v' = (a : ℕ) → a < n → v' a ≡ v (home R a)

-- "A wait adds the same whole number of ticks, 0 or more, to all clocks": v' is v after t
pub record Waits (n t : ℕ) (v v' : ℕ → ℕ) : Type 0 where
  pub start : v' 0 ≡ 0
  pub later : (x : ℕ) → 0 < x → x < n → v' x ≡ v x + t

-- v' is reached from u in a location with the invariant I, by arriving and a wait
pub record Enters (s e c : ℕ) (I : Limits) (u v' : ℕ → ℕ) : Type 0 where
  pub wait : ℕ
  pub arrived : Within s e c I u
  pub waited : Waits (suc c) wait u v'
  pub still : Within s e c I v'

-- v' is reached from v along an edge with the guard G that resets R, into a location with the invariant I
pub record Follows (s e c : ℕ) (G : Limits) (R : ℕ → Bool) (I : Limits) (v v' : ℕ → ℕ) : Type 0 where
  pub after : ℕ → ℕ
  pub guard : Within s e c G v
  pub put : Put (suc c) R v after
  pub enters : Enters s e c I after v'
