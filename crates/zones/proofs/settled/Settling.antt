-- Which zones are settled: what a reduction leaves, what a reset makes of a settled one, the first one, and a settled one on which limits
-- were met that lower no entry.
-- Assumes nothing.
use Rattle.zones.specs.Reductions.{is_empty}
use Prim.Native.Nat.{ℕ, suc, ◌<◌, ◌≤◌}
use mathlib.Core.Path.{◌≡◌, refl, sym, ◌∙◌, subst}
use mathlib.Core.Bool.{Bool, false}
use mathlib.Core.List.{List}
use native.Mathlib.Omega.{arith}
use Rattle.zones.specs.declared.pair.Pair.{Pair}
use Rattle.zones.specs.declared.zone.Work.{Work}
use Rattle.zones.proofs.pairs.Integers.{int}
use Rattle.zones.specs.Pairs.{zero_pair, sum_of, is_less}
use Rattle.runs.specs.Limits.{Limits}
use Rattle.zones.specs.Zones.{entry, first_work, home, meet_limits, reset_of}
use Rattle.zones.specs.Reductions.{reduce_steps}
use Rattle.zones.specs.Values.{Below}
use Rattle.zones.specs.Moves.{Shaped}
use Rattle.zones.specs.Settled.{Settled}
use Rattle.zones.proofs.sets.Closing.{reduce_through, reduce_shaped}
use Rattle.zones.proofs.reductions.Closure.{Triangle, reduce_triangle}
use Rattle.zones.proofs.sets.Meeting.{met_falls}
use Rattle.zones.proofs.places.Places.{first_at, first_size, home_below, reset_by_lem}
use Rattle.zones.proofs.reductions.Progress.{Alive, zero_alive}
use Rattle.zones.proofs.settled.Settled.{settled_later}
use Rattle.zones.proofs.fractions.Thresholds.{zero_value}

-- ---- a reduced zone that is not empty
module _ (c : ℕ) (n≤ : suc c ≤ 9) (w : Work) (g : Shaped c w) (live : is_empty (reduce_steps (suc c) (suc c) w) ≡ false) where
  alive : Alive (suc c) w
  alive = zero_alive (suc c) w g.size g.diagonal

  pub reduced_settled : Settled (suc c) (reduce_steps (suc c) (suc c) w).work
  unfolding Triangle
  reduced_settled =
      let s = reduce_shaped 1 0 (omega arith) c n≤ w g live in
      record {
        size = s.size;
        diagonal = s.diagonal;
        pairs = λ k a b hk ha hb. (reduce_triangle (suc c) w n≤ alive (suc c) (omega arith) live k a b hk ha hb).kept;
        values = λ s e s> t k a b hk ha hb. reduce_through s e s> (suc c) n≤ w alive live t k hk a b ha hb;
      }

-- ---- a reset
pub reset_settled : (n : ℕ) → n ≤ 9 → (R : ℕ → Bool) (w : Work) → Settled n w → Settled n (reset_of n R w)
reset_settled n n≤ R w h =
    let r = reset_by_lem n n≤ R w h.size in
    let hb : (a : ℕ) → a < n → home R a < n = home_below R n in
    record {
      size = r.size;
      diagonal = λ a ha. r.at a a ha (omega arith) ∙ h.diagonal (home R a) (hb a ha);
      pairs = λ k a b hk ha hx. rw (r.at a k ha (omega arith), r.at k b hk (omega arith), r.at a b ha (omega arith))
          (h.pairs (home R k) (home R a) (home R b) (hb k hk) (hb a ha) (hb b hx));
      values = λ s e s> t k a b hk ha hx. rw (r.at a k ha (omega arith), r.at k b hk (omega arith), r.at a b ha (omega arith))
          (h.values s e s> (subst (Below s e) r.fraction t) (home R k) (home R a) (home R b) (hb k hk) (hb a ha) (hb b hx));
    }

-- ---- the first zone
none : is_less (sum_of zero_pair zero_pair) zero_pair ≡ false
unfolding is_less sum_of
none = refl

pub first_settled : (n : ℕ) → n ≤ 9 → Settled n first_work
first_settled n n≤ =
    let z : (a b : ℕ) → a < n → b < n → entry first_work a b ≡ zero_pair = λ a b ha hb. first_at a b (omega arith) (omega arith) in
    record {
      size = first_size;
      diagonal = λ a ha. z a a ha ha;
      pairs = λ k a b hk ha hb. rw (z a k ha hk, z k b hk hb, z a b ha hb) none;
      values = λ s e s> t k a b hk ha hb. rw (z a k ha hk, z k b hk hb, z a b ha hb) (omega (arith, int, zero_value s e));
    }

-- ---- limits that lower no entry
pub limits_settled : (c : ℕ) → suc c ≤ 9 → (L : Limits) (w : Work) → Settled (suc c) w → (meet_limits L c w).zone ≡ w.zone →
    Settled (suc c) (meet_limits L c w)
limits_settled c n≤ L w h e =
    subst (λ (z : List Pair). Settled (suc c) (record { zone = z; fraction = (meet_limits L c w).fraction })) (sym e)
    (settled_later (suc c) w h (meet_limits L c w).fraction (λ s e s>. (met_falls s e s> (suc c) n≤ L w h.size c (omega arith)).before))
