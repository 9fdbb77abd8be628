-- What it is for an operation on zones to stand for a step of valuations S. The two inclusions stand apart.
-- There are n indices, and c clocks.
use Rattle.zones.specs.Reductions.{is_empty, safe_of}
use Rattle.std.specs.Prelude.{ℕ, suc, ◌+◌, ◌≤◌, ◌<◌, ◌≡◌, false, length, ℤ, pos, ◌≤ℤ◌}
use Rattle.zones.specs.declared.reduction.Reduced.{Reduced}
use Rattle.zones.specs.declared.zone.Work.{Work}
use Rattle.zones.specs.Integers.{up, down}
use Rattle.zones.specs.Pairs.{zero_pair}
use Rattle.zones.specs.Zones.{entry}
use Rattle.zones.specs.Values.{Below}
use Rattle.zones.specs.Sets.{Square, square_of, Has}

-- x ≤ y + z, in naturals
pub record Way (x y z : ℤ) : Type 0 where
  pub way : up x + (down y + down z) ≤ (up y + up z) + down x

-- a square of integers that is reduced: no way through a third index is shorter
pub record Closed (n : ℕ) (D : Square) : Type 0 where
  pub diagonal : (a : ℕ) → a < n → D a a ≡ pos 0
  pub triangle : (a b c : ℕ) → a < n → b < n → c < n → Way (D a b) (D a c) (D c b)
  pub low : (a : ℕ) → a < n → D 0 a ≤ℤ pos 0

-- no clock is below 0
abbrev pub Low : ℕ → Square → Type 0
Low n D = (a : ℕ) → a < n → D 0 a ≤ℤ pos 0

-- what every zone has on the way, at any error
pub record Shaped (c : ℕ) (w : Work) : Type 0 where
  pub size : length w.zone ≡ 81
  pub diagonal : (a : ℕ) → a < suc c → entry w a a ≡ zero_pair

-- Into the zone: every state that S gives from a state of w is in r, whatever the thresholds. Below what lowers the safe fraction r is then not
-- declared empty; and what is below the running fraction is below that.
-- The running fraction only falls, and no numerator is 0
pub record Includes (s e c : ℕ) (S : (ℕ → ℕ) → (ℕ → ℕ) → Type 0) (w : Work) (r : Reduced) : Type 0 where
  pub before : Below s e r.work.fraction → Below s e w.fraction
  pub proper : 0 < w.fraction.n → 0 < r.work.fraction.n
  pub shaped : is_empty r ≡ false → Shaped c r.work
  pub into : is_empty r ≡ false → (v v' : ℕ → ℕ) → Has s e c w v → S v v' → Has s e c r.work v'
  pub live : Below s e (safe_of r) → (v v' : ℕ → ℕ) → Has s e c w v → S v v' → is_empty r ≡ false
  pub tighter : Below s e r.work.fraction → Below s e (safe_of r)
  pub some : 0 < (safe_of r).n

-- Out of the zone: below the running fraction every state of r is one that S gives from a state of w, and r is reduced
pub record Exact (s e c : ℕ) (S : (ℕ → ℕ) → (ℕ → ℕ) → Type 0) (w : Work) (r : Reduced) : Type 0 where
  pub closed : is_empty r ≡ false → Below s e r.work.fraction → Closed (suc c) (square_of s e r.work)
  pub from : is_empty r ≡ false → Below s e r.work.fraction → (v' : ℕ → ℕ) → Has s e c r.work v' → (v : ℕ → ℕ) × Has s e c w v × S v v'
