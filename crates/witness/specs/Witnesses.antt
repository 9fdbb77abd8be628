-- The step back along an edge, in whole time units with no loosening (s = 1, e = 0), where a pair's value is its m. Of the zone before the edge,
-- g is what met the guard and was reduced, and a is g reset, which met the invariant and was reduced. From a valuation v that an arrival in a and a
-- wait leave: the wait, and a valuation before the edge.
-- A valuation has nine places: 0, each clock's ticks by its index from 1, then 0. There are c clocks, and `size` indices, which is one more.
use Rattle.std.specs.Prelude.{ℕ, zero, suc, ◌+◌, ◌-◌, min, max, Bool, cond, List, ℤ, get_or, set, replicate}
use Rattle.zones.specs.declared.pair.Pair.{Pair}
use Rattle.zones.specs.Integers.{up, down}
use Rattle.zones.specs.Zones.{pair_at}

-- the clocks of a valuation, by index
abbrev pub clocks_of : List ℕ → ℕ → ℕ
clocks_of s x = get_or s x 0

-- x − z and x + z, or 0 where that is negative
abbrev pub less_bound : ℕ → ℤ → ℕ
less_bound x z = (x + down z) - up z

abbrev pub plus_bound : ℕ → ℤ → ℕ
plus_bound x z = (x + up z) - down z

-- the valuation with each of the first k clocks x at f x
unfoldable pub places_of : (ℕ → ℕ) → ℕ → List ℕ
places_of f zero = replicate 9 0
places_of f (suc x) = set (places_of f x) (suc x) (f (suc x))

-- the wait t = max(0, max over the first k clocks x of v x − a(x, 0)): the shortest that leaves no clock above its bound in a
unfoldable pub wait_to : List ℕ → List Pair → ℕ → ℕ
wait_to v a zero = 0
wait_to v a (suc x) = max (wait_to v a x) (less_bound (clocks_of v (suc x)) (pair_at a (suc x) 0).m)

-- the valuation u = v − t on arrival
abbrev pub earlier_of : List ℕ → ℕ → ℕ → List ℕ
earlier_of v t c = places_of (λ x. clocks_of v x - t) c

-- clock x before the reset of R: the least of u b + g(x, b) over b = 0 and the first k clocks b that are not reset
unfoldable pub least_to : List ℕ → List Pair → (ℕ → Bool) → ℕ → ℕ → ℕ
least_to u g R x zero = plus_bound 0 (pair_at g x 0).m
least_to u g R x (suc b) = cond (R (suc b)) (least_to u g R x b) (min (least_to u g R x b) (plus_bound (clocks_of u (suc b)) (pair_at g x (suc b)).m))

abbrev pub valuation_before : List ℕ → List Pair → (ℕ → Bool) → ℕ → List ℕ
valuation_before u g R c = places_of (λ x. least_to u g R x c) c

-- the whole step back from v: the wait before it, and the valuation before the jump that the wait follows
pub record StepBack : Type 0 where
  pub wait : ℕ
  pub valuation : List ℕ

unfoldable pub back_of : List ℕ → List Pair → List Pair → (ℕ → Bool) → ℕ → StepBack
back_of v a g R size =
    let t = wait_to v a (size - 1) in
    record { wait = t; valuation = valuation_before (earlier_of v t (size - 1)) g R (size - 1) }

-- a valuation to begin with: v x = −a(0, x), each clock at its least
abbrev pub landing_of : List Pair → ℕ → List ℕ
landing_of a size = places_of (λ x. down (pair_at a 0 x).m) (size - 1)
