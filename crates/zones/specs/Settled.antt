-- Which comparisons of a reduction can be left out. A reduced zone that is not empty is settled: it satisfies the triangle rule for pairs
-- and, at every error below the running fraction, for values. This is what ties the running fraction to the zone.
-- There are n indices: 0 and the clocks.
use Rattle.std.specs.Prelude.{ℕ, ◌<◌, ◌≤◌, ◌≡◌, false, length, ◌≤ℤ◌}
use Rattle.zones.specs.declared.zone.Work.{Work}
use Rattle.zones.specs.Pairs.{zero_pair, sum_of, is_less}
use Rattle.zones.specs.Reductions.{non_empty, reduce_steps}
use Rattle.zones.specs.Zones.{entry}
use Rattle.zones.specs.Values.{value_of, Below}
use Rattle.zones.specs.Sets.{square_of}
use Rattle.zones.specs.Moves.{Way}

pub record Settled (n : ℕ) (w : Work) : Type 0 where
  pub size : length w.zone ≡ 81
  pub diagonal : (a : ℕ) → a < n → entry w a a ≡ zero_pair
  pub pairs : (k a b : ℕ) → k < n → a < n → b < n → is_less (sum_of (entry w a k) (entry w k b)) (entry w a b) ≡ false
  pub values : (s e : ℕ) → 0 < s → Below s e w.fraction → (k a b : ℕ) → k < n → a < n → b < n →
      Way (square_of s e w a b) (square_of s e w a k) (square_of s e w k b)

-- v is w with column 0 raised: "put each (clock, 0) to (hi, 1)"
pub record Raised (n : ℕ) (w v : Work) : Type 0 where
  pub size : length v.zone ≡ 81
  pub same : (a b : ℕ) → a < n → b < n → 0 < b → entry v a b ≡ entry w a b
  pub zero : entry v 0 0 ≡ entry w 0 0
  pub above : (a : ℕ) → a < n → is_less (entry v a 0) (entry w a 0) ≡ false
  pub before : (s e : ℕ) → 0 < s → Below s e v.fraction → Below s e w.fraction
  pub values : (s e : ℕ) → 0 < s → Below s e v.fraction → (a : ℕ) → a < n → value_of s e (entry w a 0) ≤ℤ value_of s e (entry v a 0)

-- what the reduction of column 0 alone asks
pub record Lifted (n : ℕ) (v : Work) : Type 0 where
  pub some : 0 < n
  pub base : Work
  pub settled : Settled n base
  pub raised : Raised n base v

-- the middle indices before `first` leave the zone as it is
pub record Begun (n first : ℕ) (w : Work) : Type 0 where
  pub most : first ≤ n
  pub same : reduce_steps n first w ≡ non_empty w
