-- One turn of each loop, and the whole by the number of clocks.
-- Assumes nothing.
use Prim.Native.Nat.{ℕ, zero, suc, ◌+◌, ◌-◌, ◌≤◌, min, max}
use mathlib.Core.Path.{◌≡◌, ◌∙◌}
use mathlib.Core.Bool.{Bool, true, false}
use mathlib.Core.List.{List}
use lib.ListN.{set}
use native.Mathlib.Numerals.{add-one}
use native.Mathlib.Omega.{arith}
use Rattle.zones.specs.declared.pair.Pair.{Pair}
use Rattle.zones.specs.Integers.{down}
use Rattle.zones.specs.Zones.{pair_at}
use Rattle.witness.specs.Witnesses.{clocks_of, less_bound, plus_bound, places_of, wait_to, earlier_of, least_to}
use Rattle.witness.specs.Witnesses.{valuation_before, back_of, landing_of}

one_less : (c : ℕ) → suc c - 1 ≡ c
one_less c = omega arith

-- index x, after those before it
pub wait_next : (v : List ℕ) (a : List Pair) (x : ℕ) → 1 ≤ x →
    wait_to v a (x + 1 - 1) ≡ max (wait_to v a (x - 1)) (less_bound (clocks_of v x) (pair_at a x 0).m)
unfolding wait_to
wait_next v a zero h = absurd (omega arith)
wait_next v a (suc k) h = rw (add-one, one_less (suc k), one_less k)

pub valuation_next : (f : ℕ → ℕ) (x : ℕ) {l : List ℕ} {y : ℕ} → 1 ≤ x → l ≡ places_of f (x - 1) → y ≡ f x → set l x y ≡ places_of f (x + 1 - 1)
unfolding places_of
valuation_next f zero h e g = absurd (omega arith)
valuation_next f (suc k) h e g = rw (add-one, one_less (suc k)) (λ i. set ((rw one_less at e) i) (suc k) (g i))

module _ (u : List ℕ) (g : List Pair) (R : ℕ → Bool) (x : ℕ) where
  pub least_next : (b : ℕ) {t s r : ℕ} → 1 ≤ b → t ≡ least_to u g R x (b - 1) → R b ≡ false → s ≡ plus_bound (clocks_of u b) (pair_at g x b).m →
      r ≡ min t s → r ≡ least_to u g R x (b + 1 - 1)
  unfolding least_to
  least_next zero h e k f q = absurd (omega arith)
  least_next (suc b) h e k f q = rw (add-one, one_less (suc b)) (rw k (rw one_less at (q ∙ (λ i. min (e i) (f i)))))

  pub least_skips : (b : ℕ) {t : ℕ} → 1 ≤ b → t ≡ least_to u g R x (b - 1) → R b ≡ true → t ≡ least_to u g R x (b + 1 - 1)
  unfolding least_to
  least_skips zero h e k = absurd (omega arith)
  least_skips (suc b) h e k = rw (add-one, one_less (suc b)) (rw k (rw one_less at e))

-- ---- c clocks
pub landing_of_lem : (a : List Pair) (c : ℕ) → landing_of a (suc c) ≡ places_of (λ x. down (pair_at a 0 x).m) c
landing_of_lem a c = rw (one_less c)

pub back_of_lem : (v : List ℕ) (a g : List Pair) (R : ℕ → Bool) (c : ℕ) →
    back_of v a g R (suc c) ≡ record { wait = wait_to v a c; valuation = valuation_before (earlier_of v (wait_to v a c) c) g R c }
unfolding back_of
back_of_lem v a g R c = rw (one_less c)
