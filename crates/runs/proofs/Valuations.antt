-- Waits and resets of a valuation, by clocks; a valuation from its clocks.
-- Assumes nothing.
use Prim.Native.Nat.{ℕ, zero, suc, ◌+◌, ◌<◌}
use mathlib.Core.Path.{◌≡◌, refl, sym, ap, ◌∙◌}
use mathlib.Core.Bool.{Bool, cond}
use mathlib.Core.List.{[], ◌∷◌}
use lib.ListN.{length, get_or, replicate, get_or-replicate}
use lib.Seq.{ext_get_or}
use native.Mathlib.Omega.{arith}
use native.Mathlib.Nat.{add-zero, add_assoc, not-suc-le-zero}
use Rattle.runs.specs.Timed.{Valuation, ticks, listed, later, zeroed}

-- ---- waits add up
pub later_none : (v : Valuation) → later 0 v ≡ v
unfolding later
later_none [] = refl
later_none (y ∷ v) = λ i. add-zero y i ∷ later_none v i

pub later_more : (t u : ℕ) (v : Valuation) → later u (later t v) ≡ later (t + u) v
unfolding later
later_more t u [] = refl
later_more t u (y ∷ v) = λ i. add_assoc y t u i ∷ later_more t u v i

-- ---- by clocks
pub later-length : (t : ℕ) (v : Valuation) → length (later t v) ≡ length v
unfolding later
later-length t [] = refl
later-length t (y ∷ v) = ap suc (later-length t v)

pub later_at : (t : ℕ) (v : Valuation) (x : ℕ) → x < length v → get_or (later t v) x 0 ≡ get_or v x 0 + t
unfolding later
later_at t [] x h = absurd (not-suc-le-zero h)
later_at t (y ∷ v) zero h = refl
later_at t (y ∷ v) (suc x) h = later_at t v x (omega arith)

pub zeroed-length : (R : ℕ → Bool) (x : ℕ) (v : Valuation) → length (zeroed R x v) ≡ length v
unfolding zeroed
zeroed-length R x [] = refl
zeroed-length R x (y ∷ v) = ap suc (zeroed-length R (suc x) v)

pub zeroed_at : (R : ℕ → Bool) (k : ℕ) (v : Valuation) (x : ℕ) → x < length v → get_or (zeroed R k v) x 0 ≡ cond (R (k + x)) 0 (get_or v x 0)
unfolding zeroed
zeroed_at R k [] x h = absurd (not-suc-le-zero h)
zeroed_at R k (y ∷ v) zero h = let e : k ≡ k + 0 = omega arith in ap (λ (j : ℕ). cond (R j) 0 y) e
zeroed_at R k (y ∷ v) (suc x) h =
    let e : suc k + x ≡ k + suc x = omega arith in
    zeroed_at R (suc k) v x (omega arith) ∙ ap (λ (j : ℕ). cond (R j) 0 (get_or v x 0)) e

-- ---- a valuation from its clocks, and that they say which it is
pub listed-length : (c : ℕ) (u : ℕ → ℕ) → length (listed c u) ≡ c
unfolding listed
listed-length zero u = refl
listed-length (suc c) u = ap suc (listed-length c (λ x. u (suc x)))

listed_at : (c : ℕ) (u : ℕ → ℕ) (x : ℕ) → x < c → get_or (listed c u) x 0 ≡ u (suc x)
unfolding listed
listed_at zero u x h = absurd (not-suc-le-zero h)
listed_at (suc c) u zero h = refl
listed_at (suc c) u (suc x) h = listed_at c (λ x. u (suc x)) x (omega arith)

pub ticks-listed : (c : ℕ) (u : ℕ → ℕ) → u 0 ≡ 0 → (a : ℕ) → a < suc c → ticks (listed c u) a ≡ u a
ticks-listed c u z zero h = sym z
ticks-listed c u z (suc x) h = listed_at c u x (omega arith)

pub same_ticks : (c : ℕ) (v u : Valuation) → length v ≡ c → length u ≡ c → ((x : ℕ) → 0 < x → x < suc c → ticks v x ≡ ticks u x) → v ≡ u
same_ticks c v u e f h = ext_get_or 0 v u (e ∙ sym f) (λ i hi. h (suc i) (omega arith) (omega arith))

pub origin_ticks : (c a : ℕ) → a < suc c → ticks (replicate c 0) a ≡ 0
origin_ticks c zero h = refl
origin_ticks c (suc x) h = get_or-replicate c x 0 0 (omega arith)
