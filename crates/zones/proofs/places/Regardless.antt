-- The square that each operation leaves, and whether it is empty, do not depend on the running fraction.
-- Assumes nothing.
use Rattle.zones.proofs.reductions.Progress.{leaves, seen_in, seen_empty}
use Rattle.zones.specs.Reductions.{is_empty}
use Prim.Native.Nat.{ℕ, zero, suc, ◌+◌, ◌*◌}
use mathlib.Core.Path.{◌∙◌, ◌≡◌, refl, sym, subst}
use mathlib.Core.Bool.{Bool, true, false, cond}
use mathlib.Core.List.{List}
use lib.IntN.{pos}
use lib.ListN.{set}
use lib.Signed.{lt_z}
use Rattle.zones.specs.declared.fraction.Fraction.{Fraction}
use Rattle.zones.specs.declared.pair.Pair.{Pair}
use Rattle.zones.specs.declared.reduction.Reduced.{Reduced}
use Rattle.zones.specs.declared.zone.Work.{Work}
use Rattle.runs.specs.Limits.{Limits}
use Rattle.zones.specs.Pairs.{at_most, smaller_of, sum_of}
use Rattle.zones.specs.Zones.{pair_at, lower_at, meet_upper, meet_clock, meet_limits, raise_limits, reset_places, reset_of}
use Rattle.zones.specs.Reductions.{relaxed, row_steps, round_steps, empty_in, after_middle, reduce_steps}
use Rattle.zones.specs.Successors.{and_then, meet_of, enter_of, follow_of}

-- ---- works with the same square, whatever their fractions
record Same (w v : Work) : Type 0 where
  zone : w.zone ≡ v.zone

lower_same : (i j : ℕ) {p q : Pair} {w v : Work} → p ≡ q → Same w v → Same (lower_at i j p w) (lower_at i j q v)
unfolding lower_at
lower_same i j e s = record { zone = λ t. set (s.zone t) (i * 9 + j) (smaller_of (pair_at (s.zone t) i j) (e t)).pair }

row_same : (k i j : ℕ) {w v : Work} → Same w v → Same (row_steps k i j w) (row_steps k i j v)
unfolding row_steps relaxed
row_same k i zero s = s
row_same k i (suc j) s = let h = row_same k i j s in lower_same i j (λ t. sum_of (pair_at (h.zone t) i k) (pair_at (h.zone t) k j)) h

round_same : (n k i : ℕ) {w v : Work} → Same w v → Same (round_steps n k i w) (round_steps n k i v)
unfolding round_steps
round_same n k zero s = s
round_same n k (suc i) s = row_same k i n (round_same n k i s)

clock_same : (x lo hi : ℕ) (absent : Bool) {w v : Work} → Same w v → Same (meet_clock x lo hi absent w) (meet_clock x lo hi absent v)
unfolding meet_clock meet_upper
clock_same x lo hi true s = lower_same 0 x refl s
clock_same x lo hi false s = lower_same 0 x refl (lower_same x 0 refl s)

limits_same : (L : Limits) (x : ℕ) {w v : Work} → Same w v → Same (meet_limits L x w) (meet_limits L x v)
unfolding meet_limits
limits_same L zero s = s
limits_same L (suc x) s = clock_same (suc x) (L.lo (suc x)) (L.hi (suc x)) (L.absent (suc x)) (limits_same L x s)

raise_same : (L : Limits) (x : ℕ) {w v : Work} → Same w v → Same (raise_limits L x w) (raise_limits L x v)
unfolding raise_limits
raise_same L zero s = s
raise_same L (suc x) s = record { zone = λ t. set ((raise_same L x s).zone t) (suc x * 9 + 0) (at_most (L.hi (suc x))) }

reset_same : (n : ℕ) (R : ℕ → Bool) {w v : Work} → Same w v → Same (reset_of n R w) (reset_of n R v)
unfolding reset_of
reset_same n R s = record { zone = λ t. reset_places R (s.zone t) (n * 9) (s.zone t) }

empty_same : (n : ℕ) {w v : Work} → Same w v → empty_in n w ≡ empty_in n v
unfolding empty_in
empty_same zero s = refl
empty_same (suc i) s = λ t. cond (lt_z (pair_at (s.zone t) i i).m (pos 0)) true (empty_same i s t)

-- ---- results that are alike but for their fractions
record Alike (r t : Reduced) : Type 0 where
  empty : is_empty r ≡ is_empty t
  work : Same r.work t.work

then_alike : {r t : Reduced} (f : Work → Reduced) → ((w v : Work) → Same w v → Alike (f w) (f v)) → Alike r t → Alike (and_then r f) (and_then t f)
unfolding and_then
then_alike {r} {t} f k a = subst (λ (b : Bool). Alike (cond b r (f r.work)) (and_then t f)) (sym a.empty) (go (is_empty t))
  where
    go : (b : Bool) → Alike (cond b r (f r.work)) (cond b t (f t.work))
    go true = a
    go false = k r.work t.work a.work

reduce_alike : (n k : ℕ) {w v : Work} → Same w v → Alike (reduce_steps n k w) (reduce_steps n k v)
unfolding reduce_steps after_middle and_then
reduce_alike n zero s = record { empty = refl; work = s }
reduce_alike n (suc k) s = then_alike (λ w. let u = round_steps n k n w in leaves u (seen_in n u))
    (λ w v e. let h = round_same n k n e in record { empty = seen_empty n _ ∙ empty_same n h ∙ sym (seen_empty n _); work = h }) (reduce_alike n k s)

meet_alike : (c : ℕ) (L : Limits) {w v : Work} → Same w v → Alike (meet_of c L w) (meet_of c L v)
unfolding meet_of
meet_alike c L s = reduce_alike (suc c) (suc c) (limits_same L c s)

enter_alike : (c : ℕ) (I : Limits) {w v : Work} → Same w v → Alike (enter_of c I w) (enter_of c I v)
unfolding enter_of
enter_alike c I s = then_alike _ (λ w v e. reduce_alike (suc c) (suc c) (raise_same I c e)) (meet_alike c I s)

pub follow_regardless : (c : ℕ) (G : Limits) (R : ℕ → Bool) (I : Limits) (z : List Pair) (f g : Fraction) →
    is_empty (follow_of c G R I (record { zone = z; fraction = f })) ≡ is_empty (follow_of c G R I (record { zone = z; fraction = g }))
unfolding follow_of
follow_regardless c G R I z f g =
    let s : Same (record { zone = z; fraction = f }) (record { zone = z; fraction = g }) = record { zone = refl } in
    (then_alike _ (λ w v e. enter_alike c I (reset_same (suc c) R e)) (meet_alike c G s)).empty
