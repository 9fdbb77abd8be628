-- The two zones on the way of a step that some valuation of w takes, at s = 1, e = 0: neither is empty, both are reduced, and their valuations
-- come from w.
-- Assumes nothing.
use Rattle.zones.specs.Reductions.{is_empty}
use Prim.Native.Nat.{ℕ, suc, ◌≤◌, ◌<◌}
use mathlib.Core.Path.{◌≡◌, refl, sym, ap, subst}
use mathlib.Core.Bool.{Bool, false}
use native.Mathlib.Omega.{arith}
use Rattle.runs.specs.Limits.{Limits, Within}
use Rattle.zones.specs.declared.pair.Pair.{Pair}
use Rattle.zones.specs.declared.reduction.Reduced.{Reduced}
use Rattle.zones.specs.declared.zone.Work.{Work}
use Rattle.zones.specs.Moves.{Closed, Shaped, Includes, Exact}
use Rattle.zones.specs.Reductions.{non_empty}
use Rattle.zones.specs.Sets.{Square, In, square_of, Has, Put, Follows}
use Rattle.zones.specs.Values.{value_of, Below}
use Rattle.zones.specs.Zones.{entry, reset_of}
use Rattle.zones.proofs.fractions.Thresholds.{proper_below, value_law}
use Rattle.zones.proofs.pairs.Integers.{int}
use Rattle.zones.proofs.places.Places.{ResetBy, reset_by_lem}
use Rattle.zones.proofs.sets.Moving.{meet_includes, meet_exact, reset_includes, reset_exact}
use Rattle.zones.proofs.sets.Squares.{Resets}
use Rattle.witness.specs.Laws.{guard_met, arrived, BothLive}
use Rattle.witness.proofs.Waiting.{ms_of}

-- at s = 1, e = 0 a pair's value is its m
value_one : (q : Pair) → value_of 1 0 q ≡ q.m
value_one q = omega (arith, int, value_law 1 0 q)

values : (w : Work) → square_of 1 0 w ≡ ms_of w.zone
values w i a b = value_one (entry w a b) i

-- the valuation after the jump is `after`
pub record Between (c : ℕ) (G : Limits) (R : ℕ → Bool) (I : Limits) (w : Work) (after : ℕ → ℕ) : Type 0 where
  pub live : BothLive c G R I w
  pub closed_g : Closed (suc c) (ms_of (guard_met c G w).work.zone)
  pub closed_a : Closed (suc c) (ms_of (arrived c G R I w).work.zone)
  pub resets : Resets (suc c) R (ms_of (guard_met c G w).work.zone) (ms_of (reset_of (suc c) R (guard_met c G w).work).zone)
  pub has : In (suc c) (ms_of (arrived c G R I w).work.zone) after
  pub from_g : (v : ℕ → ℕ) → In (suc c) (ms_of (guard_met c G w).work.zone) v → Has 1 0 c w v × Within 1 0 c G v
  pub from_a : (v : ℕ → ℕ) → In (suc c) (ms_of (arrived c G R I w).work.zone) v →
      In (suc c) (ms_of (reset_of (suc c) R (guard_met c G w).work).zone) v × Within 1 0 c I v

module _ (c : ℕ) (n≤ : suc c ≤ 9) (w : Work) (shaped : Shaped c w) (closed : Closed (suc c) (square_of 1 0 w)) (proper : 0 < w.fraction.n)
    (G : Limits) (R : ℕ → Bool) (R0 : R 0 ≡ false) (I : Limits) (old v : ℕ → ℕ) (has : Has 1 0 c w old) (f : Follows 1 0 c G R I old v) where
  -- ---- the guard is met
  abbrev g : Reduced
  g = guard_met c G w

  in_g : Includes 1 0 c (λ x y. (y ≡ x) × Within 1 0 c G x) w g
  in_g = meet_includes 1 0 (omega arith) c n≤ w shaped G

  below_g : Below 1 0 g.work.fraction
  below_g = proper_below g.work.fraction (in_g.proper proper)

  live_g : is_empty g ≡ false
  live_g = in_g.live (in_g.tighter below_g) old old has (refl, f.guard)

  out_g : Exact 1 0 c (λ x y. (y ≡ x) × Within 1 0 c G x) w g
  out_g = meet_exact 1 0 (omega arith) c n≤ w shaped G closed.low

  -- ---- clocks are reset
  abbrev r : Work
  r = reset_of (suc c) R g.work

  by : ResetBy (suc c) R g.work r
  by = reset_by_lem (suc c) n≤ R g.work (in_g.shaped live_g).size

  in_r : Includes 1 0 c (Put (suc c) R) g.work (non_empty r)
  in_r = reset_includes 1 0 (omega arith) c n≤ g.work (in_g.shaped live_g) R R0 r by

  proper_r : 0 < r.fraction.n
  proper_r = in_r.proper (in_g.proper proper)

  closed_r : Closed (suc c) (square_of 1 0 r)
  closed_r =
      (reset_exact 1 0 (omega arith) c n≤ g.work (in_g.shaped live_g) R R0 r by (out_g.closed live_g below_g)).closed refl
      (proper_below r.fraction proper_r)

  after_r : Has 1 0 c r f.after
  after_r = in_r.into refl old f.after (in_g.into live_g old old has (refl, f.guard)) f.put

  -- ---- the invariant is met
  abbrev a : Reduced
  a = arrived c G R I w

  in_a : Includes 1 0 c (λ x y. (y ≡ x) × Within 1 0 c I x) r a
  in_a = meet_includes 1 0 (omega arith) c n≤ r (in_r.shaped refl) I

  below_a : Below 1 0 a.work.fraction
  below_a = proper_below a.work.fraction (in_a.proper proper_r)

  live_a : is_empty a ≡ false
  live_a = in_a.live (in_a.tighter below_a) f.after f.after after_r (refl, f.enters.arrived)

  out_a : Exact 1 0 c (λ x y. (y ≡ x) × Within 1 0 c I x) r a
  out_a = meet_exact 1 0 (omega arith) c n≤ r (in_r.shaped refl) I closed_r.low

  pub between : Between c G R I w f.after
  between = record {
    live = record { guarded = live_g; entered = live_a };
    closed_g = subst (Closed (suc c)) (values g.work) (out_g.closed live_g below_g);
    closed_a = subst (Closed (suc c)) (values a.work) (out_a.closed live_a below_a);
    resets = λ x y hx hy. ap (λ (q : Pair). q.m) (by.at x y hx (omega arith));
    has = subst (λ (D : Square). In (suc c) D f.after) (values a.work)
        (in_a.into live_a f.after f.after after_r (refl, f.enters.arrived));
    from_g = λ u i.
        let x = out_g.from live_g below_g u (subst (λ (D : Square). In (suc c) D u) (sym (values g.work)) i) in
        (subst (Has 1 0 c w) (sym x.2.0) x.1, subst (Within 1 0 c G) (sym x.2.0) x.2.1);
    from_a = λ u i.
        let x = out_a.from live_a below_a u (subst (λ (D : Square). In (suc c) D u) (sym (values a.work)) i) in (
          subst (λ (D : Square). In (suc c) D u) (values r) (subst (Has 1 0 c r) (sym x.2.0) x.1),
          subst (Within 1 0 c I) (sym x.2.0) x.2.1,
        );
  }
