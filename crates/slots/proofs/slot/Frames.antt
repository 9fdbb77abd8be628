-- The frame of (0, 0) outside a zone's rows and columns is kept by every operation.
-- Assumes nothing.
use Prim.Native.Nat.{ℕ, zero, suc, ◌+◌, ◌*◌, ◌/◌, ◌%◌, ◌<◌, ◌≤◌}
use mathlib.Core.Path.{◌≡◌, ◌∙◌}
use mathlib.Core.Bool.{Bool, false}
use mathlib.Core.List.{List}
use lib.ListN.{length, get_or, set, get_or-replicate}
use lib.Seq.{get_or-set_same, get_or-set_other, set_out}
use native.Mathlib.Decide.{ℕ_discrete, dec_lt}
use native.Mathlib.Omega.{arith}
use Rattle.runs.specs.Limits.{Limits}
use Rattle.zones.specs.declared.pair.Pair.{Pair}
use Rattle.zones.specs.declared.zone.Work.{Work}
use Rattle.zones.specs.Containment.{place_of}
use Rattle.zones.specs.Pairs.{zero_pair, at_most, smaller_of}
use Rattle.zones.specs.Reductions.{reduce_of}
use Rattle.zones.specs.Zones.{pair_at, entry, first_work, lower_at, meet_limits, raise_limits, home, reset_places, reset_of}
use Rattle.zones.proofs.sets.Meeting.{met_ind}
use Rattle.zones.proofs.places.Places.{home_stays, home_below}
use Rattle.zones.proofs.sets.Steps.{reduce_ind}
use Rattle.slots.specs.Slots.{Framed}

module _ (n : ℕ) where
  -- what may be set: a place that counts, or (0, 0)
  framed_set : (z : List Pair) (i : ℕ) (q : Pair) → (i < 81 → (i < n * 9 → i % 9 < n → ⊥) → q ≡ zero_pair) → Framed n z → Framed n (set z i q)
  framed_set z i q g f = record { frame = λ k hk o. at k hk o (ℕ_discrete k i) (dec_lt i (length z)) }
    where
      at : (k : ℕ) → k < 81 → (k < n * 9 → k % 9 < n → ⊥) → Dec (k ≡ i) → Dec (i < length z) → place_of (set z i q) k ≡ zero_pair
      at k hk o (no e) d = get_or-set_other z i k q zero_pair e ∙ f.frame k hk o
      at k hk o (yes e) (yes d) = rw e (get_or-set_same z i q zero_pair d ∙ g (rw e at hk) (rw e at o))
      at k hk o (yes e) (no d) = rw (set_out z i q (omega arith)) (f.frame k hk o)

  pub framed_first : Framed n first_work.zone
  unfolding first_work
  framed_first = record { frame = λ k hk o. get_or-replicate 81 k zero_pair zero_pair hk }

  module _ (n≤ : n ≤ 9) where
    -- an entry (i, j) of the zone is set
    framed_entry : (z : List Pair) (i j : ℕ) (q : Pair) → i < n → j < n → Framed n z → Framed n (set z (i * 9 + j) q)
    framed_entry z i j q hi hj =
        let e : (i * 9 + j) % 9 ≡ j = omega arith in
        framed_set z (i * 9 + j) q (λ h o. absurd (o (omega arith) (omega arith)))

    framed_lower : (w : Work) (i j : ℕ) (q : Pair) → i < n → j < n → Framed n w.zone → Framed n (lower_at i j q w).zone
    unfolding lower_at
    framed_lower w i j q hi hj = framed_entry w.zone i j (smaller_of (entry w i j) q).pair hi hj

    pub framed_meet : (L : Limits) (c : ℕ) (w : Work) → c < n → Framed n w.zone → length w.zone ≡ 81 → Framed n (meet_limits L c w).zone
    framed_meet L c w hc f size =
        (met_ind n L (λ v. Framed n v.zone) (λ x px hx o v s. framed_lower v x 0 _ hx (omega arith))
        (λ x px hx v s. framed_lower v 0 x _ (omega arith) hx) w size f c hc).1

    pub framed_reduce : (w : Work) → Framed n w.zone → length w.zone ≡ 81 → Framed n (reduce_of n w).work.zone
    framed_reduce w f size = (reduce_ind n (λ v. Framed n v.zone) (λ k i j hk hi hj v s. framed_lower v i j _ hi hj) w size f).1

    pub framed_raise : (L : Limits) (c : ℕ) (w : Work) → c < n → Framed n w.zone → Framed n (raise_limits L c w).zone
    unfolding raise_limits
    framed_raise L zero w hc f = f
    framed_raise L (suc x) w hc f =
        framed_entry (raise_limits L x w).zone (suc x) 0 (at_most (L.hi (suc x))) hc (omega arith) (framed_raise L x w (omega arith) f)

    -- a place outside the columns takes its home's entry, which is outside them too
    module _ (R : ℕ → Bool) (none : (b : ℕ) → n ≤ b → R b ≡ false) where
      home_outside : (y : List Pair) (k : ℕ) → Framed n y → k < n * 9 → (k < n * 9 → k % 9 < n → ⊥) →
          pair_at y (home R (k / 9)) (home R (k % 9)) ≡ zero_pair
      unfolding pair_at
      home_outside y k f hk o = out (dec_lt (k % 9) n)
        where
          row : home R (k / 9) < n
          row = home_below R n (k / 9) (omega arith)

          out : Dec (k % 9 < n) → get_or y (home R (k / 9) * 9 + home R (k % 9)) zero_pair ≡ zero_pair
          out (yes c) = absurd (o hk c)
          out (no c) =
              let b : n ≤ k % 9 = omega arith in
              let e : (home R (k / 9) * 9 + k % 9) % 9 ≡ k % 9 = omega arith in
              rw (home_stays R (k % 9) (none (k % 9) b)) (f.frame (home R (k / 9) * 9 + k % 9) (omega (arith, row)) (λ p q. c (omega arith)))

      framed_places : (y z : List Pair) → Framed n y → Framed n z → (k : ℕ) → k ≤ n * 9 → Framed n (reset_places R y k z)
      unfolding reset_places
      framed_places y z f g zero h = g
      framed_places y z f g (suc k) h =
          framed_set (reset_places R y k z) k (pair_at y (home R (k / 9)) (home R (k % 9)))
          (λ a o. home_outside y k f h o) (framed_places y z f g k (omega arith))

      pub framed_reset : (w : Work) → Framed n w.zone → Framed n (reset_of n R w).zone
      unfolding reset_of
      framed_reset w f = framed_places w.zone w.zone f f (n * 9) (omega arith)
