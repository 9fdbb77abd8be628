-- The upper limits that were met are raised again: what entering makes of a settled zone is one with column 0 raised.
-- Assumes nothing.
use Prim.Native.Nat.{ℕ, zero, suc, ◌<◌, ◌≤◌}
use mathlib.Core.Path.{◌≡◌, refl, sym, subst}
use mathlib.Core.Bool.{Bool, true, false}
use lib.ListN.{length}
use lib.Signed.{◌≤ℤ◌}
use native.Mathlib.Omega.{arith}
use native.Mathlib.Decide.{ℕ_discrete}
use Rattle.zones.specs.declared.pair.Pair.{Pair}
use Rattle.zones.specs.declared.zone.Work.{Work}
use Rattle.zones.proofs.pairs.Integers.{int}
use Rattle.zones.specs.Pairs.{at_most, is_less}
use Rattle.runs.specs.Limits.{Limits}
use Rattle.zones.specs.Zones.{entry, lower_at, meet_upper, meet_clock, meet_limits, raise_limits}
use Rattle.zones.specs.Reductions.{reduce_steps}
use Rattle.zones.specs.Values.{value_of, Below}
use Rattle.zones.specs.Settled.{Settled, Lifted}
use Rattle.zones.proofs.sets.Lowering.{lower_falls, lower_to}
use Rattle.zones.proofs.sets.Meeting.{met_ind}
use Rattle.zones.proofs.pairs.Order.{◌≼◌, ≼_refl, ≼_trans, smaller_left, smaller_right}
use Rattle.zones.proofs.places.Places.{lower_size, lower_at_lem, lower_place, RaisedBy, raised_by}
use Rattle.zones.proofs.sets.Steps.{reduce_ind}

-- ---- an entry of column 0 that is at most q, in the order of pairs and below the running fraction in value
record Under (q : Pair) (a : ℕ) (v : Work) : Type 0 where
  order : entry v a 0 ≼ q
  values : (s e : ℕ) → 0 < s → Below s e v.fraction → value_of s e (entry v a 0) ≤ℤ value_of s e q

module _ (n : ℕ) (n≤ : n ≤ 9) where
  under_lower : (q : Pair) (a : ℕ) → a < n → (i j : ℕ) (x : Pair) → i < n → j < n → (v : Work) → length v.zone ≡ 81 → Under q a v →
      Under q a (lower_at i j x v)
  under_lower q a ha i j x hi hj v size u = record {
    order = lower_place v i j x size (omega arith) (omega arith) (λ c d p. c ≡ a → d ≡ 0 → p ≼ q)
        (λ e f. ≼_trans (smaller_left (entry v i j) x)
        (subst (λ (c : ℕ). entry v c j ≼ q) (sym e) (subst (λ (d : ℕ). entry v a d ≼ q) (sym f) u.order)))
        a 0 (omega arith) (λ e f. u.order) refl refl;
    values = λ s e s> t.
        let f = lower_falls s e s> n n≤ v i j x size hi hj in
        let y = f.values t a 0 ha (omega arith) in
        let z = u.values s e s> (f.before t) in
        omega (arith, int);
  }

  under_reduce : (q : Pair) (a : ℕ) → a < n → (w : Work) → length w.zone ≡ 81 → Under q a w → Under q a (reduce_steps n n w).work
  under_reduce q a ha w size u = (reduce_ind n (Under q a) (λ k i j hk hi hj v z h. under_lower q a ha i j _ hi hj v z h) w size u).1

  under_here : (q : Pair) (a : ℕ) → a < n → (v : Work) → length v.zone ≡ 81 → Under q a (lower_at a 0 q v)
  under_here q a ha v size = record {
    order = subst (λ (p : Pair). p ≼ q) (sym (lower_at_lem v a 0 q size (omega arith) (omega arith))) (smaller_right (entry v a 0) q);
    values = λ s e s> t. lower_to s e s> n n≤ v a 0 q size ha (omega arith) t;
  }

  -- the upper limit of a clock, once it was met
  module _ (L : Limits) where
    met_size : (w : Work) → length w.zone ≡ 81 → (c : ℕ) → c < n → length (meet_limits L c w).zone ≡ 81
    met_size w size c hc = (met_ind n L (λ v. Work) (λ x px hx o v z q. v) (λ x px hx v z q. v) w size w c hc).0

    upper_size : (x : ℕ) (t : Bool) (w : Work) → length w.zone ≡ 81 → length (meet_upper x (L.hi x) t w).zone ≡ 81
    unfolding meet_upper
    upper_size x true w size = size
    upper_size x false w size = lower_size w x 0 (at_most (L.hi x)) size

    upper_keeps : (q : Pair) (a : ℕ) → a < n → (x : ℕ) → x < n → (t : Bool) (w : Work) → length w.zone ≡ 81 → Under q a w →
        Under q a (meet_upper x (L.hi x) t w)
    unfolding meet_upper
    upper_keeps q a ha x hx true w size u = u
    upper_keeps q a ha x hx false w size u = under_lower q a ha x 0 _ hx (omega arith) w size u

    upper_under : (x : ℕ) → x < n → (t : Bool) → t ≡ false → (w : Work) → length w.zone ≡ 81 →
        Under (at_most (L.hi x)) x (meet_upper x (L.hi x) t w)
    unfolding meet_upper
    upper_under x hx t e w size = rw e (under_here (at_most (L.hi x)) x hx w size)

    met_under : (w : Work) → length w.zone ≡ 81 → (c : ℕ) → c < n → (a : ℕ) → 0 < a → a ≤ c → L.absent a ≡ false →
        Under (at_most (L.hi a)) a (meet_limits L c w)
    unfolding meet_limits meet_clock
    met_under w size zero hc a pa ha e = let z : ⊥ = omega arith in absurd z
    met_under w size (suc x) hc a pa ha e =
        let u = meet_limits L x w in
        let zu = met_size w size x (omega arith) in
        under_lower _ a (omega arith) 0 (suc x) _ (omega arith) hc (meet_upper (suc x) (L.hi (suc x)) (L.absent (suc x)) u)
        (upper_size (suc x) (L.absent (suc x)) u zu) (go (λ h. met_under w size x (omega arith) a pa h e) (ℕ_discrete a (suc x)))
      where
        go : (a ≤ x → Under (at_most (L.hi a)) a (meet_limits L x w)) → Dec (a ≡ suc x) →
            Under (at_most (L.hi a)) a (meet_upper (suc x) (L.hi (suc x)) (L.absent (suc x)) (meet_limits L x w))
        go ih (yes f) =
            rw f (upper_under (suc x) hc (L.absent (suc x))
            (subst (λ (y : ℕ). L.absent y ≡ false) f e) (meet_limits L x w) (met_size w size x (omega arith)))
        go ih (no f) =
            upper_keeps _ a (omega arith) (suc x) hc (L.absent (suc x)) (meet_limits L x w) (met_size w size x (omega arith)) (ih (omega arith))

-- ---- the upper limits that were met are raised again
module _ (c : ℕ) (n≤ : suc c ≤ 9) (L : Limits)
    (present : (x : ℕ) → 0 < x → x < suc c → L.absent x ≡ false) (w : Work) (size : length w.zone ≡ 81) where
  abbrev base : Work
  base = (reduce_steps (suc c) (suc c) (meet_limits L c w)).work

  under : (a : ℕ) → 0 < a → a < suc c → Under (at_most (L.hi a)) a (reduce_steps (suc c) (suc c) (meet_limits L c w)).work
  under a pa ha =
      under_reduce (suc c) n≤ _ a ha (meet_limits L c w) (met_size (suc c) n≤ L w size c (omega arith))
      (met_under (suc c) n≤ L w size c (omega arith) a pa (omega arith) (present a pa ha))

  pub raise_lifted : Settled (suc c) (reduce_steps (suc c) (suc c) (meet_limits L c w)).work →
      Lifted (suc c) (raise_limits L c (reduce_steps (suc c) (suc c) (meet_limits L c w)).work)
  raise_lifted h = record {
    some = omega arith;
    base = base;
    settled = h;
    raised = record {
      size = r.size;
      same = λ a b ha hb pb. r.rest a b (omega arith) (λ x y. pb);
      zero = r.rest 0 0 (omega arith) (λ x y. x);
      above = λ a ha. place (λ x p. is_less p (entry base x 0) ≡ false) (λ x px hx. (under x px hx).order.kept) (≼_refl (entry base 0 0)).kept a ha;
      before = λ s e s> t. subst (Below s e) r.fraction t;
      values = λ s e s> t a ha. place (λ x p. value_of s e (entry base x 0) ≤ℤ value_of s e p)
          (λ x px hx. (under x px hx).values s e s> (subst (Below s e) r.fraction t)) (omega (arith, int)) a ha;
    };
  }
    where
      r : RaisedBy c L (reduce_steps (suc c) (suc c) (meet_limits L c w)).work
          (raise_limits L c (reduce_steps (suc c) (suc c) (meet_limits L c w)).work)
      r = raised_by L base h.size c (omega arith)

      place : (P : ℕ → Pair → Type 0) → ((x : ℕ) → 0 < x → x < suc c → P x (at_most (L.hi x))) →
          P 0 (entry (reduce_steps (suc c) (suc c) (meet_limits L c w)).work 0 0) → (a : ℕ) → a < suc c →
          P a (entry (raise_limits L c (reduce_steps (suc c) (suc c) (meet_limits L c w)).work) a 0)
      place P f z zero ha = subst (P 0) (sym (r.rest 0 0 (omega arith) (λ x y. x))) z
      place P f z (suc a) ha = subst (P (suc a)) (sym (r.column (suc a) (omega arith) ha)) (f (suc a) (omega arith) ha)
