-- The wait and the valuation that a step back gives make a step of a run at s = 1, e = 0, and the landing is reached by such a step.
-- Assumes nothing.
use Prim.Native.Nat.{ℕ, zero, suc, ◌-◌, ◌≤◌, ◌<◌}
use mathlib.Core.Path.{◌≡◌, sym, ap, ◌∙◌}
use mathlib.Core.Bool.{Bool, false}
use mathlib.Core.List.{List}
use mathlib.Core.Logic.{⊎_elim}
use native.Mathlib.Omega.{arith}
use native.Mathlib.Nat.{not-suc-le-zero}
use Rattle.runs.specs.Limits.{Limits, Within}
use Rattle.zones.specs.declared.pair.Pair.{Pair}
use Rattle.zones.specs.declared.zone.Work.{Work}
use Rattle.zones.specs.Integers.{up, down}
use Rattle.zones.specs.Moves.{Closed, Shaped}
use Rattle.zones.specs.Sets.{In, square_of, Has, Put, Waits, Follows}
use Rattle.zones.specs.Zones.{pair_at, home, reset_of}
use Rattle.zones.proofs.pairs.Integers.{le_read, one_side}
use Rattle.zones.proofs.places.Places.{home_below}
use Rattle.zones.proofs.sets.Squares.{in_same, point}
use Rattle.witness.specs.Laws.{guard_met, arrived, BothLive, SteppedBack, Reached}
use Rattle.witness.specs.Witnesses.{clocks_of, places_of, wait_to, earlier_of, least_to, valuation_before, back_of, landing_of}
use Rattle.witness.proofs.Between.{Between, between}
use Rattle.witness.proofs.Resetting.{reset_in, reset_put}
use Rattle.witness.proofs.Valuations.{valuation_at, valuation_none}
use Rattle.witness.proofs.Turns.{landing_of_lem, back_of_lem}
use Rattle.witness.proofs.Waiting.{ms_of, wait_in, wait_waits}

-- a valuation's indices, by a function that is 0 at 0
valuation_same : (f : ℕ → ℕ) (c : ℕ) → suc c ≤ 9 → f 0 ≡ 0 → (x : ℕ) → x < suc c → clocks_of (places_of f c) x ≡ f x
valuation_same f c n≤ z zero hx = valuation_none f c 0 (λ p. absurd (not-suc-le-zero p)) ∙ sym z
valuation_same f c n≤ z (suc x) hx = valuation_at f c (omega arith) (suc x) hx (omega arith)

module _ (c : ℕ) (n≤ : suc c ≤ 9) (G : Limits) (R : ℕ → Bool) (R0 : R 0 ≡ false) (I : Limits) (w : Work) where
  abbrev g : List Pair
  g = (guard_met c G w).work.zone

  abbrev a : List Pair
  a = (arrived c G R I w).work.zone

  module _ (after : ℕ → ℕ) (b : Between c G R I w after) where
    -- ---- from a valuation u on arrival to the valuation before the jump
    module _ (u : List ℕ) (i : In (suc c) (ms_of a) (clocks_of u)) where
      abbrev old : ℕ → ℕ
      old x = least_to u g R x c

      old_in : In (suc c) (ms_of g) old
      old_in = reset_in c R R0 g (ms_of (reset_of (suc c) R (guard_met c G w).work).zone) b.resets b.closed_g u (b.from_a (clocks_of u) i).0

      old_is : (x : ℕ) → x < suc c → clocks_of (valuation_before u g R c) x ≡ old x
      old_is = valuation_same old c n≤ old_in.start

      old_from : Has 1 0 c w (clocks_of (valuation_before u g R c)) × Within 1 0 c G (clocks_of (valuation_before u g R c))
      old_from =
          b.from_g (clocks_of (valuation_before u g R c))
          (in_same (suc c) (ms_of g) old (clocks_of (valuation_before u g R c)) (omega arith) old_is old_in)

      old_put : Put (suc c) R (clocks_of (valuation_before u g R c)) (clocks_of u)
      old_put x hx =
          reset_put c R R0 g (ms_of (reset_of (suc c) R (guard_met c G w).work).zone) b.resets b.closed_g u (b.from_a (clocks_of u) i).0 x hx ∙
          sym (old_is (home R x) (home_below R (suc c) x hx))

    -- ---- from a valuation v after a wait to the valuation on arrival
    module _ (v : List ℕ) (t : ℕ) (h : Waits (suc c) t after (clocks_of v)) where
      abbrev u : List ℕ
      u = earlier_of v (wait_to v a c) c

      u_is : (x : ℕ) → x < suc c → clocks_of u x ≡ clocks_of v x - wait_to v a c
      u_is = valuation_same (λ x. clocks_of v x - wait_to v a c) c n≤ (omega (arith, h.start))

      u_in : In (suc c) (ms_of a) (clocks_of u)
      u_in =
          in_same (suc c) (ms_of a) (λ x. clocks_of v x - wait_to v a c) (clocks_of u) (omega arith) u_is (wait_in c a v after t b.has h)

      stepped : Within 1 0 c I (clocks_of v) → SteppedBack c G R I w v (back_of v a g R (suc c))
      stepped still = rw (back_of_lem v a g R c) (record {
        inside = (old_from u u_in).0;
        guard = (old_from u u_in).1;
        after = clocks_of u;
        put = old_put u u_in;
        arrives = (b.from_a (clocks_of u) u_in).1;
        waits = record { start = h.start; later = λ x px hx. omega (arith, u_is x hx, (wait_waits c a v after t b.has h).later x px hx) };
        still = still;
      })

    -- ---- each clock at its least
    abbrev least : List ℕ
    least = places_of (λ x. down (pair_at a 0 x).m) c

    least_is : (x : ℕ) → x < suc c → clocks_of least x ≡ down (ms_of a 0 x) - up (ms_of a 0 x)
    least_is x hx =
        let l = le_read (b.closed_a.low x hx) in
        let e = valuation_same (λ y. down (ms_of a 0 y)) c n≤ (ap down (b.closed_a.diagonal 0 (omega arith))) x hx in
        ⊎_elim (λ q. omega (arith, e)) (λ q. omega (arith, e)) (one_side (ms_of a 0 x))

    least_in : In (suc c) (ms_of a) (clocks_of least)
    least_in =
        in_same (suc c) (ms_of a) (λ x. down (ms_of a 0 x) - up (ms_of a 0 x)) (clocks_of least) (omega arith) least_is
        (point (suc c) (ms_of a) (omega arith) b.closed_a)

    landed : Reached c G R I w (clocks_of (landing_of a (suc c)))
    landed =
        let k = (b.from_a (clocks_of least) least_in).1 in
        rw (landing_of_lem a c) (record {
          before = clocks_of (valuation_before least g R c);
          inside = (old_from least least_in).0;
          follows = record {
            after = clocks_of least;
            guard = (old_from least least_in).1;
            put = old_put least least_in;
            enters = record { wait = 0; arrived = k; waited = record { start = least_in.start; later = λ x px hx. omega arith }; still = k };
          };
        })

-- ---- for every zone from which some valuation takes the step
module _ (c : ℕ) (n≤ : suc c ≤ 9) (w : Work) (shaped : Shaped c w) (closed : Closed (suc c) (square_of 1 0 w)) (proper : 0 < w.fraction.n)
    (G : Limits) (R : ℕ → Bool) (R0 : R 0 ≡ false) (I : Limits) where
  pub live_law : (old v : ℕ → ℕ) → Has 1 0 c w old → Follows 1 0 c G R I old v → BothLive c G R I w
  live_law old v h f = (between c n≤ w shaped closed proper G R R0 I old v h f).live

  pub step_back_law : (s : List ℕ) (old : ℕ → ℕ) → Has 1 0 c w old → Follows 1 0 c G R I old (clocks_of s) →
      SteppedBack c G R I w s (back_of s (arrived c G R I w).work.zone (guard_met c G w).work.zone R (suc c))
  step_back_law s old h f =
      stepped c n≤ G R R0 I w f.after (between c n≤ w shaped closed proper G R R0 I old (clocks_of s) h f) s f.enters.wait f.enters.waited
      f.enters.still

  pub landing_law : (old v : ℕ → ℕ) → Has 1 0 c w old → Follows 1 0 c G R I old v →
      Reached c G R I w (clocks_of (landing_of (arrived c G R I w).work.zone (suc c)))
  landing_law old v h f = landed c n≤ G R R0 I w f.after (between c n≤ w shaped closed proper G R R0 I old v h f)
