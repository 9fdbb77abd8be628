-- The numbers of a step back are on the scale of its squares, by arithmetic alone.
-- Assumes nothing.
use Prim.Native.Nat.{ℕ, zero, suc, ◌-◌, ◌*◌, ◌≤◌, min}
use mathlib.Core.Bool.{Bool, true, false, cond}
use mathlib.Core.List.{List}
use mathlib.Core.Path.{◌≡◌}
use native.Mathlib.Omega.{arith}
use Rattle.zones.specs.declared.pair.Pair.{Pair}
use Rattle.zones.specs.Integers.{up, down}
use Rattle.zones.specs.Zones.{pair_at}
use Rattle.zones.proofs.pairs.Integers.{abs_law}
use Rattle.witness.specs.Witnesses.{clocks_of, plus_bound, places_of, wait_to, least_to}
use Rattle.witness.specs.Sizes.{AllUpTo, Spans}
use Rattle.witness.proofs.Valuations.{valuation_most}

wait-most : (C n : ℕ) (v : List ℕ) (a : List Pair) → AllUpTo C v → Spans C n a → (k : ℕ) → k ≤ n - 1 → wait_to v a k ≤ 2 * C
unfolding wait_to
wait-most C n v a m s zero h = omega arith
wait-most C n v a m s (suc k) h =
    omega (
      arith,
      wait-most C n v a m s k (omega arith),
      m (suc k),
      s (suc k) 0 (omega arith) (omega arith),
      abs_law (pair_at a (suc k) 0).m,
    )

-- the way through 0 is among those of which it is the least
least_most : (u : List ℕ) (g : List Pair) (R : ℕ → Bool) (x k : ℕ) → least_to u g R x k ≤ up (pair_at g x 0).m
unfolding least_to
least_most u g R x zero = omega arith
least_most u g R x (suc k) = go (least_most u g R x k) (R (suc k))
  where
    go : least_to u g R x k ≤ up (pair_at g x 0).m → (t : Bool) →
        cond t (least_to u g R x k) (min (least_to u g R x k) (plus_bound (clocks_of u (suc k)) (pair_at g x (suc k)).m)) ≤ up (pair_at g x 0).m
    go h true = h
    go h false = omega arith

module _ (C : ℕ) where
  pub wait_most : (v : List ℕ) (n : ℕ) (z : List Pair) (k : ℕ) {t : ℕ} → AllUpTo C v → Spans C n z → k ≤ n - 1 → t ≡ wait_to v z k → t ≤ 2 * C
  wait_most v n z k m s h e = rw e (wait-most C n v z m s k h)

  pub earlier_most : (v : List ℕ) (t k : ℕ) {l : List ℕ} → AllUpTo C v → k ≤ 8 → l ≡ places_of (λ x. clocks_of v x - t) k → AllUpTo C l
  earlier_most v t k m h e = rw e (valuation_most (λ x. clocks_of v x - t) C k h (λ x px hx. omega (arith, m x)))

  module _ (n : ℕ) (z : List Pair) (s : Spans C n z) (k : ℕ) (hk : k ≤ n - 1) (h : k ≤ 8) where
    pub landing_most : {l : List ℕ} → l ≡ places_of (λ x. down (pair_at z 0 x).m) k → AllUpTo C l
    landing_most e =
        rw e (valuation_most (λ x. down (pair_at z 0 x).m) C k h
        (λ x px hx. omega (arith, s 0 x (omega arith) (omega arith), abs_law (pair_at z 0 x).m)))

    pub before_most : (u : List ℕ) (R : ℕ → Bool) {l : List ℕ} → l ≡ places_of (λ x. least_to u z R x (n - 1)) k → AllUpTo C l
    before_most u R e =
        rw e (valuation_most (λ x. least_to u z R x (n - 1)) C k h
        (λ x px hx. omega (arith, least_most u z R x (n - 1), s x 0 (omega arith) (omega arith), abs_law (pair_at z x 0).m)))
