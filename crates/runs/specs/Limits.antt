-- "A limit lo ≤ clock ≤ hi is loosened to lo × s − e ≤ clock ≤ hi × s + e."
use Rattle.std.specs.Prelude.{ℕ, suc, ◌+◌, ◌*◌, ◌≤◌, ◌<◌, ◌≡◌, Bool, false}

-- "lo and hi run from 0 to 1,000,000."
abbrev pub scale : ℕ
scale = 1000000

-- the limits of a location or an edge, by clock from 1: "A guard's hi may be FFFFFFFF, meaning no upper limit"
pub record Limits : Type 0 where
  pub lo : ℕ → ℕ
  pub hi : ℕ → ℕ
  pub absent : ℕ → Bool

-- clock x, at y ticks of 1/s, keeps its limit loosened by e ticks. "Clocks never fall below 0": y is a natural number
pub record Holds (s e : ℕ) (L : Limits) (x y : ℕ) : Type 0 where
  pub least : L.lo x * s ≤ y + e
  pub most : L.absent x ≡ false → y ≤ L.hi x * s + e

-- each of c clocks does, by the valuation v
abbrev pub Within : ℕ → ℕ → ℕ → Limits → (ℕ → ℕ) → Type 0
Within s e c L v = (x : ℕ) → 0 < x → x < suc c → Holds s e L x (v x)
