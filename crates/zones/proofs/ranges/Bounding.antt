-- How large the numbers get through the three reductions of one step. With |m| ≤ C and p ≤ P before, a zone that is not empty has |m| ≤ C
-- after each reduction, and p at most ten times what it was; and each threshold is within N and D.
-- Assumes nothing.
use Rattle.zones.specs.Reductions.{safe_of}
use Rattle.zones.specs.Reductions.{is_empty}
use Prim.Native.Nat.{ℕ, suc, ◌*◌, ◌<◌, ◌≤◌}
use mathlib.Core.Path.{◌≡◌, refl, ◌∙◌}
use mathlib.Core.Bool.{Bool, false}
use mathlib.Core.Logic.{inl}
use lib.ListN.{length}
use lib.IntN.{pos, neg_ℤ, nat_abs}
use lib.Signed.{◌≤ℤ◌}
use native.Mathlib.Omega.{arith}
use native.Mathlib.Decide.{dec_lt}
use Rattle.zones.specs.declared.pair.Pair.{Pair}
use Rattle.zones.specs.declared.zone.Work.{Work}
use Rattle.zones.proofs.pairs.Integers.{int, abs_law, neg_law}
use Rattle.zones.specs.Pairs.{zero_pair, at_most, at_least}
use Rattle.runs.specs.Limits.{Limits, scale}
use Rattle.std.specs.Prelude.{true, cond, None, Some, IfSome}
use Rattle.zones.specs.Zones.{upper_of, entry, home, first_work, lower_at, meet_limits, raise_limits, reset_of}
use Rattle.zones.specs.Reductions.{reduce_of}
use Rattle.zones.specs.Ranges.{Bounded, Narrow, Suffices, Ranged, InRange, OnScale, Sized, Ready, LimitsReady, Fits32, step_counts, widest}
use Rattle.zones.proofs.pairs.Choices.{not_less_shows, smaller_cases}
use Rattle.zones.proofs.reductions.Closure.{reduce_triangle, reduced_size}
use Rattle.zones.proofs.sets.Diagonals.{sign_zero}
use Rattle.zones.proofs.sets.Meeting.{met_ind}
use Rattle.zones.proofs.pairs.Order.{◌≼◌, ≼_refl, ≼_trans, smaller_left}
use Rattle.zones.proofs.places.Places.{first_at, first_size, lower_size, lower_place, RaisedBy, raised_by, reset_by_lem, home-zero, home_below}
use Rattle.zones.proofs.reductions.Progress.{Alive, zero_alive, along}
use Rattle.zones.proofs.ranges.Ranges.{lowered_narrow, smaller_bounded, both_narrow, bounded_spread, reduce_narrow, reduce_safe}
use Rattle.zones.proofs.ranges.Size.{spread_more, reduce_spread}
use Rattle.zones.proofs.sets.Steps.{reduce_ind, reduce_size, reduce_signs}

-- what is no larger has no larger m
pub ≼-m : (a b : Pair) → a ≼ b → a.m ≤ℤ b.m
≼-m a b h = (not_less_shows a b h.kept).0

-- ---- the first zone
pub first_ranged : (C P n : ℕ) → n ≤ 9 → Ranged C P n first_work
first_ranged C P n h = record {
  size = first_size;
  bounded = λ a b ha hb. rw (first_at a b (omega arith) (omega arith)) (record { m = omega arith; p = omega arith });
  diagonal = λ a ha. first_at a a (omega arith) (omega arith);
  low = λ b hb. rw (first_at 0 b (omega arith) (omega arith)) (omega (arith, int));
}

-- ---- one entry off the diagonal is lowered
module _ (N D C P n : ℕ) (enough : Suffices N D C P) (n≤ : n ≤ 9) where
  lower_ranged : (i j : ℕ) (q : Pair) → i < n → j < n → (i ≡ j → ⊥) → Bounded C P q → (i ≡ 0 → q.m ≤ℤ pos 0) → (w : Work) → InRange N D C P n w →
      InRange N D C P n (lower_at i j q w)
  unfolding lower_at
  lower_ranged i j q hi hj f b z w r =
      let g = r.ranged in
      let place = lower_place w i j q g.size (omega arith) (omega arith) in
      record {
        ranged = record {
          size = lower_size w i j q g.size;
          bounded =
              λ a c ha hc. place (λ x y p. Bounded C P p) (smaller_bounded C P (entry w i j) q (g.bounded i j hi hj) b) a c (omega arith)
              (g.bounded a c ha hc);
          diagonal = λ a ha. place (λ x y p. x ≡ y → p ≡ zero_pair) (λ e. absurd (f e)) a a (omega arith) (λ e. g.diagonal a ha) refl;
          low = λ c hc. place (λ x y p. x ≡ 0 → p.m ≤ℤ pos 0)
              (λ e. let l = g.low j hj in smaller_cases (entry w i j) q (λ c. c.pair.m ≤ℤ pos 0) (λ t. z e) (λ t. rw e l)) 0 c (omega arith)
              (λ e. g.low c hc) refl;
        };
        narrow = lowered_narrow N D _ _ r.narrow (both_narrow N D C P enough (entry w i j) q (g.bounded i j hi hj) b);
      }

  -- ---- limits are met
  module _ (c : ℕ) (c< : c < n) (L : Limits) (o : OnScale C c L) where
    pub meet_ranged : (w : Work) → InRange N D C P n w → (x : ℕ) → x ≤ c → InRange N D C P n (meet_limits L x w)
    meet_ranged w r x hx =
        (met_ind (suc c) L (InRange N D C P n)
        (λ y py hy p v z q. lower_ranged y 0 (at_most (L.hi y)) (omega arith) (omega arith) (λ e. omega arith) (most y py hy p)
        (λ e. absurd (omega arith)) v q)
        (λ y py hy v z q. lower_ranged 0 y (at_least (L.lo y)) (omega arith) (omega arith) (λ e. omega arith) (least y py hy)
        (λ e. omega (arith, int, neg_law (pos (L.lo y)))) v q)
        w r.ranged.size r x (omega arith)).1
      where
        most : (y : ℕ) → 0 < y → y < suc c → L.absent y ≡ false → Bounded C P (at_most (L.hi y))
        most y py hy p = record { m = omega (arith, abs_law (pos (L.hi y)), o.hi y py hy p); p = enough.count }

        least : (y : ℕ) → 0 < y → y < suc c → Bounded C P (at_least (L.lo y))
        least y py hy = record { m = omega (arith, abs_law (neg_ℤ (pos (L.lo y))), neg_law (pos (L.lo y)), o.lo y py hy); p = enough.count }

  -- ---- clocks are reset
  pub reset_ranged : 0 < n → (R : ℕ → Bool) (w : Work) → InRange N D C P n w → InRange N D C P n (reset_of n R w)
  unfolding reset_of
  reset_ranged n> R w r =
      let g = r.ranged in
      let t = reset_by_lem n n≤ R w g.size in
      record {
        ranged = record {
          size = t.size;
          bounded = λ a b ha hb. rw (t.at a b ha (omega arith)) (g.bounded (home R a) (home R b) (home_below R n a ha) (home_below R n b hb));
          diagonal = λ a ha. t.at a a ha (omega arith) ∙ g.diagonal (home R a) (home_below R n a ha);
          low = λ b hb. rw (t.at 0 b n> (omega arith), home-zero R) (g.low (home R b) (home_below R n b hb));
        };
        narrow = r.narrow;
      }

  -- ---- each (clock, 0) is put to (hi, 1)
  pub raise_ranged : (c : ℕ) → c < n → (L : Limits) → ((x : ℕ) → 0 < x → x < suc c → L.hi x ≤ C) → (w : Work) → InRange N D C P n w →
      InRange N D C P n (raise_limits L c w)
  raise_ranged c c< L o w r =
      let g = r.ranged in
      let t = raised_by L w g.size c (omega arith) in
      record {
        ranged = record {
          size = t.size;
          bounded = λ a b ha hb. bounded t a b ha hb (dec_lt 0 b) (dec_lt 0 a) (dec_lt a (suc c));
          diagonal = λ a ha. t.rest a a (omega arith) (λ p q. p) ∙ g.diagonal a ha;
          low = λ b hb. rw (t.rest 0 b (omega arith) (λ p q. absurd (omega arith))) (g.low b hb);
        };
        narrow = rw t.fraction r.narrow;
      }
    where
      most : (x : ℕ) → 0 < x → x < suc c → Bounded C P (at_most (L.hi x))
      most x px hx = record { m = omega (arith, abs_law (pos (L.hi x)), o x px hx); p = enough.count }

      bounded : RaisedBy c L w (raise_limits L c w) → (a b : ℕ) → a < n → b < n → Dec (0 < b) → Dec (0 < a) → Dec (a < suc c) →
          Bounded C P (entry (raise_limits L c w) a b)
      bounded t a b ha hb (no z) (yes p) (yes q) = let e : b ≡ 0 = omega arith in rw (e, t.column a p q) (most a p q)
      bounded t a b ha hb (yes z) p q = rw (t.rest a b (omega arith) (λ x y. z)) (r.ranged.bounded a b ha hb)
      bounded t a b ha hb (no z) (no p) q = rw (t.rest a b (omega arith) (λ x y. absurd (p x))) (r.ranged.bounded a b ha hb)
      bounded t a b ha hb (no z) (yes p) (no q) = rw (t.rest a b (omega arith) (λ x y. absurd (q y))) (r.ranged.bounded a b ha hb)

-- ---- a reduction
-- entries only fall, and the diagonal of one that is not empty is (0, 0)
module _ (n : ℕ) (n≤ : n ≤ 9) (w : Work) (size : length w.zone ≡ 81) where
  pub reduce_falls : (a b : ℕ) → a < n → b < n → entry (reduce_of n w).work a b ≼ entry w a b
  reduce_falls =
      (reduce_ind n (λ v. (a b : ℕ) → a < n → b < n → entry v a b ≼ entry w a b)
      (λ k i j hk hi hj v z q a b ha hb. lower_place v i j _ z (omega arith) (omega arith) (λ x y p. x < n → y < n → p ≼ entry w x y)
      (λ hx hy. ≼_trans (smaller_left (entry v i j) _) (q i j hi hj)) a b (omega arith) (λ hx hy. q a b ha hb) ha hb) w size
      (λ a b ha hb. ≼_refl (entry w a b))).1

module _ (N D C P n : ℕ) (enough : Suffices N D C P) (n≤ : n ≤ 9) (n> : 0 < n) (w : Work) (r : InRange N D C P n w) where
  alive : Alive n w
  alive = zero_alive n w r.ranged.size r.ranged.diagonal

  -- the fraction stays in range, where the zone became empty too
  pub reduced_narrow : Narrow N D (reduce_of n w).work.fraction
  reduced_narrow = reduce_narrow N D C P enough n w n≤ alive r.ranged.bounded r.narrow n (omega arith)

  -- and so is what the safe one is lowered by
  pub reduced_safe : Narrow N D (safe_of (reduce_of n w))
  reduced_safe = reduce_safe N D C P enough n w n≤ alive r.ranged.bounded n (omega arith)

  pub reduced_ranged : is_empty (reduce_of n w) ≡ false → Ranged C (10 * P) n (reduce_of n w).work
  reduced_ranged live = record {
    size = reduce_size 1 0 (omega arith) n n≤ w r.ranged.size;
    bounded = λ a b ha hb. record { m = small a b ha hb; p = few a b ha hb };
    diagonal = zero;
    low = λ b hb. let l = ≼-m _ _ (reduce_falls n n≤ w r.ranged.size 0 b n> hb) in let k = r.ranged.low b hb in omega (arith, int);
  }
    where
      still : Alive n (reduce_of n w).work
      still = (along n w n≤ alive (λ k v. Unit {0}) tt (λ k v k< a b d q. tt) n (omega arith) live).0

      zero : (a : ℕ) → a < n → entry (reduce_of n w).work a a ≡ zero_pair
      zero a ha = sign_zero 1 0 (omega arith) (reduce_of n w).work.fraction (entry (reduce_of n w).work a a)
          (reduce_signs 1 0 (omega arith) n n≤ w r.ranged.size (λ b hb. inl (r.ranged.diagonal b hb)) a ha) (still.diagonal a ha)

      top : (a : ℕ) → a < n → (entry (reduce_of n w).work a 0).m ≤ℤ pos C
      top a ha =
          let l = ≼-m _ _ (reduce_falls n n≤ w r.ranged.size a 0 ha n>) in
          let h = (r.ranged.bounded a 0 ha n>).m in
          omega (arith, int, abs_law (entry w a 0).m)

      left : (b : ℕ) → b < n → (entry (reduce_of n w).work 0 b).m ≤ℤ pos 0
      left b hb = let l = ≼-m _ _ (reduce_falls n n≤ w r.ranged.size 0 b n> hb) in let k = r.ranged.low b hb in omega (arith, int)

      small : (a b : ℕ) → a < n → b < n → nat_abs (entry (reduce_of n w).work a b).m ≤ C
      small = reduced_size n C (reduce_of n w).work n> (reduce_triangle n w n≤ alive n (omega arith) live) still.diagonal top left

      few : (a b : ℕ) → a < n → b < n → (entry (reduce_of n w).work a b).p ≤ 10 * P
      few a b ha hb =
          let s = reduce_spread C P n w n≤ alive (λ i j hi hj. bounded_spread C P (r.ranged.bounded i j hi hj)) n (omega arith) live a b ha hb in
          (spread_more C P s (omega arith)).p

-- ---- document 01's numbers: error counts of up to 100 times a kept zone's before a reduction
fewer_suffice : (P : ℕ) → 0 < P → P ≤ step_counts → Suffices widest widest scale P
fewer_suffice P h k = record { n = omega arith; d = omega arith; one = omega arith; count = h }

pub sized_more : (P Q n : ℕ) (w : Work) → P ≤ Q → Sized P n w → Sized Q n w
sized_more P Q n w h r = record {
  ranged =
      record {
        size = r.ranged.size;
        bounded = λ a b ha hb. record { m = (r.ranged.bounded a b ha hb).m; p = omega (arith, (r.ranged.bounded a b ha hb).p) };
        diagonal = r.ranged.diagonal;
        low = r.ranged.low;
      };
  narrow = r.narrow;
}

pub first_sized : (P n : ℕ) → n ≤ 9 → Sized P n first_work
unfolding first_work
first_sized P n h = record { ranged = first_ranged scale P n h; narrow = record { n = omega arith; d = omega arith } }

module _ (P n : ℕ) (P> : 0 < P) (P≤ : P ≤ step_counts) (n≤ : n ≤ 9) (w : Work) (r : Sized P n w) where
  pub sized_ready : Ready w n
  sized_ready = record {
    n≤ = n≤;
    bounded = λ a b ha hb. record { m = (r.ranged.bounded a b ha hb).m; p = omega (arith, (r.ranged.bounded a b ha hb).p) };
    fraction = r.narrow;
    diagonal = (zero_alive n w r.ranged.size r.ranged.diagonal).diagonal;
  }

  pub sized_limits : (c : ℕ) → c < n → (L : Limits) → OnScale scale c L → (x : ℕ) → 0 < x → x < suc c →
      LimitsReady (record { upper = entry w x 0; lower = entry w 0 x; fraction = w.fraction }) (L.lo x) (upper_of L x)
  sized_limits c c< L o x px hx =
      let h = sized_ready.bounded in
      record {
        upper = h x 0 (omega arith) (omega arith);
        lower = h 0 x (omega arith) (omega arith);
        fraction = r.narrow;
        lo≤ = o.lo x px hx;
        hi≤ = go (L.absent x) refl;
      }
    where
      go : (t : Bool) → L.absent x ≡ t → IfSome (cond t None (Some (L.hi x))) (λ h. h ≤ scale)
      go true e = tt
      go false e = o.hi x px hx e

  pub sized_meet : (c : ℕ) → c < n → (L : Limits) → OnScale scale c L → (x : ℕ) → x ≤ c → Sized P n (meet_limits L x w)
  sized_meet c c< L o = meet_ranged widest widest scale P n (fewer_suffice P P> P≤) n≤ c c< L o w r

  pub sized_reset : 0 < n → (R : ℕ → Bool) → Sized P n (reset_of n R w)
  sized_reset n> R = reset_ranged widest widest scale P n (fewer_suffice P P> P≤) n≤ n> R w r

  pub sized_raise : (c : ℕ) → c < n → (L : Limits) → ((x : ℕ) → 0 < x → x < suc c → L.hi x ≤ scale) → Sized P n (raise_limits L c w)
  sized_raise c c< L o = raise_ranged widest widest scale P n (fewer_suffice P P> P≤) n≤ c c< L o w r

  pub reduced_fits : 0 < n → Fits32 (reduce_of n w).work.fraction
  reduced_fits n> = reduced_narrow widest widest scale P n (fewer_suffice P P> P≤) n≤ n> w r

  pub safe_fits : 0 < n → Fits32 (safe_of (reduce_of n w))
  safe_fits n> = reduced_safe widest widest scale P n (fewer_suffice P P> P≤) n≤ n> w r

  pub sized_reduce : 0 < n → is_empty (reduce_of n w) ≡ false → Sized (10 * P) n (reduce_of n w).work
  sized_reduce n> live = record { ranged = reduced_ranged widest widest scale P n (fewer_suffice P P> P≤) n≤ n> w r live; narrow = reduced_fits n> }
