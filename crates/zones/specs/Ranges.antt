-- How large the numbers get, with the bounds as parameters: document 01's and those of a later scale differ only in `scale`, `counts` and `widest`.
-- C bounds |m| and P the error counts, N and D the fraction. There are n indices, and c clocks.
use Rattle.std.specs.Prelude.{ℕ, suc, ◌*◌, ◌≤◌, ◌<◌, ◌^◌, ◌≡◌, false, List, length, pos, nat_abs, ◌≤ℤ◌, Option, IfSome}
use Rattle.zones.specs.declared.fraction.Fraction.{Fraction}
use Rattle.zones.specs.declared.pair.Pair.{Pair}
use Rattle.zones.specs.declared.zone.Bounds.{Bounds}
use Rattle.zones.specs.declared.zone.Work.{Work}
use Rattle.zones.specs.Integers.{up, down}
use Rattle.std.specs.Option.{unwrap_or}
use Rattle.zones.specs.Fractions.{no_limit}
use Rattle.zones.specs.Pairs.{zero_pair}
use Rattle.runs.specs.Limits.{Limits, scale}
use Rattle.zones.specs.Zones.{pair_at, entry}

-- "an error count above 65,535" is not kept
abbrev pub counts : ℕ
counts = 65535

-- |m| ≤ C and p ≤ P
pub record Bounded (C P : ℕ) (a : Pair) : Type 0 where
  pub m : nat_abs a.m ≤ C
  pub p : a.p ≤ P

-- n ≤ N and d ≤ D
pub record Narrow (N D : ℕ) (f : Fraction) : Type 0 where
  pub n : f.n ≤ N
  pub d : f.d ≤ D

-- pairs whose sums and differences fit 64 bits, and fractions whose products do
abbrev pub Small : Pair → Type 0
Small = Bounded (2 ^ 60) (2 ^ 60)

abbrev pub widest : ℕ
widest = 4294967295

abbrev pub Fits32 : Fraction → Type 0
Fits32 = Narrow widest widest

-- ---- inside a reduction: a sum of at most K entries of the square that it began with, and no larger than one
pub record Spread (C P K : ℕ) (a : Pair) : Type 0 where
  pub high : up a.m ≤ C
  pub deep : down a.m ≤ K * C
  pub p : a.p ≤ K * P

-- a reduction of nine indices that begins with |m| ≤ C and p ≤ P has thresholds up to 19 C / 1 and 1 / 18 P: these are within N and D
pub record Suffices (N D C P : ℕ) : Type 0 where
  pub n : 19 * C ≤ N
  pub d : 18 * P ≤ D
  pub one : 0 < C
  pub count : 0 < P

-- ---- between the operations of a step: what every zone has, so that after a reduction |m| ≤ C again
pub record Ranged (C P n : ℕ) (w : Work) : Type 0 where
  pub size : length w.zone ≡ 81
  pub bounded : (a b : ℕ) → a < n → b < n → Bounded C P (entry w a b)
  pub diagonal : (a : ℕ) → a < n → entry w a a ≡ zero_pair
  pub low : (b : ℕ) → b < n → (entry w 0 b).m ≤ℤ pos 0

-- with the running fraction
pub record InRange (N D C P n : ℕ) (w : Work) : Type 0 where
  pub ranged : Ranged C P n w
  pub narrow : Narrow N D w.fraction

-- with document 01's numbers, and error counts up to P
abbrev pub Sized : ℕ → ℕ → Work → Type 0
Sized P n w = InRange widest widest scale P n w

-- limits of c clocks on the scale C
pub record OnScale (C c : ℕ) (L : Limits) : Type 0 where
  pub lo : (x : ℕ) → 0 < x → x < suc c → L.lo x ≤ C
  pub hi : (x : ℕ) → 0 < x → x < suc c → L.absent x ≡ false → L.hi x ≤ C

-- ---- what the code asks. The third reduction of a step begins with error counts of up to 100 times a kept zone's
abbrev pub step_counts : ℕ
step_counts = 100 * counts

-- a reduction among n indices
pub record Ready (w : Work) (n : ℕ) : Type 0 where
  pub n≤ : n ≤ 9
  pub bounded : (a b : ℕ) → a < n → b < n → Bounded scale step_counts (entry w a b)
  pub fraction : Fits32 w.fraction
  pub diagonal : (a : ℕ) → a < n → pos 0 ≤ℤ (entry w a a).m

-- one round of it, by the middle index k
pub record RoundReady (w : Work) (n k : ℕ) : Type 0 where
  pub n≤ : n ≤ 9
  pub k< : k < n
  pub spread : (a b : ℕ) → a < n → b < n → Spread scale step_counts 9 (entry w a b)
  pub fraction : Fits32 w.fraction
  pub diagonal : pos 0 ≤ℤ (entry w k k).m

-- a pair of the diagonal after a round, and what the diagonal has shown before it
pub record DiagonalReady (s : Option Fraction) (q : Pair) : Type 0 where
  pub safe : Fits32 (unwrap_or s no_limit)
  pub spread : Spread scale step_counts 18 q

-- a clock's limits to be met
pub record LimitsReady (b : Bounds) (lo : ℕ) (hi : Option ℕ) : Type 0 where
  pub upper : Bounded scale step_counts b.upper
  pub lower : Bounded scale step_counts b.lower
  pub fraction : Fits32 b.fraction
  pub lo≤ : lo ≤ scale
  pub hi≤ : IfSome hi (λ h. h ≤ scale)

-- the error counts after a step's last reduction
abbrev pub last_counts : ℕ
last_counts = 1000 * counts

-- a pair of such a zone that was chosen, beside that of a kept one
pub record ChoiceReady (a b : Pair) : Type 0 where
  pub chosen : Bounded scale last_counts a
  pub other : Bounded scale last_counts b
  pub order : a.m ≤ℤ b.m

abbrev pub AllBounded : ℕ → ℕ → ℕ → List Pair → Type 0
AllBounded C P n z = (a b : ℕ) → a < n → b < n → Bounded C P (pair_at z a b)
