-- The benchmark's zone is ready to be reduced.
-- Assumes nothing.
use Prim.Native.Nat.{ℕ, zero, suc, ◌+◌, ◌*◌, ◌/◌, ◌%◌, ◌<◌, ◌≤◌}
use mathlib.Core.Path.{◌≡◌, ◌∙◌}
use mathlib.Core.Bool.{Bool, true, false, cond}
use lib.Dec.{eqb}
use lib.IntN.{pos}
use lib.Signed.{◌≤ℤ◌}
use lib.ListN.{length, get_or, set, length-set, length-replicate}
use lib.Seq.{get_or-set_same, get_or-set_other}
use native.Mathlib.Omega.{arith}
use native.Mathlib.Decide.{ℕ_discrete}
use Rattle.zones.specs.declared.pair.Pair.{Pair}
use Rattle.zones.specs.declared.zone.Work.{Work}
use Rattle.zones.proofs.pairs.Integers.{le_make}
use Rattle.zones.specs.Pairs.{zero_pair}
use Rattle.zones.specs.Zones.{pair_at, entry, first_work}
use Rattle.zones.specs.Ranges.{Bounded, Fits32, Ready, step_counts}
use Rattle.runs.specs.Limits.{scale}
use Rattle.zones_bench.specs.Bench.{bench_pair, bench_places, bench_square, bench_work}

-- ---- one entry
-- what every entry is: it can be reduced
record Plain (q : Pair) : Type 0 where
  pub bounded : Bounded scale step_counts q
  pub nonneg : pos 0 ≤ℤ q.m

plain : (m p : ℕ) → m ≤ scale → p ≤ step_counts → Plain (record { m = pos m; p = p })
plain m p hm hp = record { bounded = record { m = hm; p = hp }; nonneg = le_make (pos 0) (pos m) (omega arith) }

cond_plain : (t : Bool) (a b : Pair) → Plain a → Plain b → Plain (cond t a b)
cond_plain true a b h k = h
cond_plain false a b h k = k

pair_plain : (k : ℕ) → k < 81 → Plain (bench_pair k)
unfolding bench_pair
pair_plain k h =
    cond_plain (eqb (k / 9) (k % 9)) _ _ (plain 0 0 (omega arith) (omega arith))
    (plain ((17 * (k / 9) + 13 * (k % 9)) % 31 + 1) ((13 * (k / 9) + 3 * (k % 9)) % 29) (omega arith) (omega arith))

-- ---- the square
pub places_size : (k : ℕ) → length (bench_places k) ≡ 81
unfolding bench_places first_work
places_size zero = length-replicate 81 zero_pair
places_size (suc k) = length-set (bench_places k) k (bench_pair k) ∙ places_size k

pub places_at : (k j : ℕ) → k ≤ 81 → j < k → get_or (bench_places k) j zero_pair ≡ bench_pair j
unfolding bench_places
places_at zero j hk hj = let z : ⊥ = omega arith in absurd z
places_at (suc k) j hk hj = go (ℕ_discrete j k) (places_at k j (omega arith))
  where
    go : Dec (j ≡ k) → (j < k → get_or (bench_places k) j zero_pair ≡ bench_pair j)
        → get_or (set (bench_places k) k (bench_pair k)) j zero_pair ≡ bench_pair j
    go (yes e) f = rw e (get_or-set_same (bench_places k) k (bench_pair k) zero_pair (omega (arith, places_size k)))
    go (no n) f = get_or-set_other (bench_places k) k j (bench_pair k) zero_pair n ∙ f (omega arith)

-- ---- the zone with its varied entry
abbrev vary : ℕ → Pair
vary t = record { m = pos (t % 64); p = t % 16 }

work_plain : (t j : ℕ) → j < 81 → Plain (get_or (bench_work t).zone j zero_pair)
unfolding bench_work
work_plain t j h = go (ℕ_discrete j 9)
  where
    go : Dec (j ≡ 9) → Plain (get_or (set bench_square 9 (vary t)) j zero_pair)
    go (yes e) =
        rw (e, get_or-set_same bench_square 9 (vary t) zero_pair (omega (arith, places_size 81)))
        (plain (t % 64) (t % 16) (omega arith) (omega arith))
    go (no f) = rw (get_or-set_other bench_square 9 j (vary t) zero_pair f, places_at 81 j (omega arith) h) (pair_plain j h)

work_narrow : (t : ℕ) → Fits32 (bench_work t).fraction
unfolding bench_work
work_narrow t = record { n = omega arith; d = omega arith }

pub work_ready : (t n : ℕ) → n ≤ 9 → Ready (bench_work t) n
unfolding pair_at
work_ready t n h =
    record {
      n≤ = h;
      bounded = λ a b ha hb. (work_plain t (a * 9 + b) (omega arith)).bounded;
      fraction = work_narrow t;
      diagonal = λ a ha. (work_plain t (a * 9 + a) (omega arith)).nonneg;
    }

-- ---- the code's steps
pub first_row : (w : Work) (b : ℕ) → get_or w.zone b zero_pair ≡ entry w 0 b
unfolding pair_at
first_row w b = let e : 0 * 9 + b ≡ b = omega arith in rw e
