-- The steps back along the edges of an accepted automaton obey the laws that a run is found by.
-- Assumes nothing.
use Prim.Native.Nat.{ℕ, zero, suc, ◌-◌, ◌<◌, ◌≤◌, max}
use mathlib.Core.Path.{◌≡◌, refl, sym, ap, ◌∙◌, subst}
use mathlib.Core.Bool.{Bool}
use mathlib.Core.List.{List, [], ◌∷◌}
use lib.ListN.{get_or, set, replicate, length-replicate, get_or-replicate}
use native.Mathlib.Omega.{arith}
use Rattle.runs.specs.Limits.{Limits, Holds}
use Rattle.runs.specs.Timed.{Valuation, ticks, listed, later}
use Rattle.runs.proofs.Valuations.{listed-length, ticks-listed, same_ticks, origin_ticks}
use Rattle.zones.specs.declared.pair.Pair.{Pair}
use Rattle.zones.specs.Fractions.{no_limit}
use Rattle.zones.specs.Moves.{Closed, Shaped}
use Rattle.zones.specs.Sets.{square_of, Has, Follows}
use Rattle.zones.specs.Values.{Below}
use Rattle.zones.specs.Zones.{pair_at}
use Rattle.zones.proofs.sets.Squares.{in_same}
use Rattle.automata.specs.Accepted.{Accepted}
use Rattle.automata.specs.Automata.{clocks, edges, to, guard_of, invariant_of, resets_of}
use Rattle.automata.specs.Semantics.{system_of}
use Rattle.automata.proofs.fields.Resets.{reset_zero}
use Rattle.reachability.specs.Search.{zone}
use Rattle.reachability.specs.Witnesses.{WitnessLaws, Leads}
use Rattle.search.specs.Exploring.{SoundZone}
use Rattle.search.specs.Instance.{Fractions, work_of, following, zones_of, meaning_of, Inside}
use Rattle.search.proofs.instance.Obeys.{came_from, Jumped, jumped, laws}
use Rattle.witness.specs.Laws.{SteppedBack, Reached}
use Rattle.witness.specs.Witnesses.{StepBack, clocks_of, places_of, less_bound, wait_to, earlier_of, valuation_before, back_of}
use Rattle.witness.proofs.Steps.{live_law, step_back_law, landing_law}
use Rattle.run_writer.specs.Crossing.{Crosses, arrived_by, guarded_by, back_along, landing_along, witnesses_of}

-- ---- the first place of a state, which no step back reads
unfoldable cleared : List ℕ → List ℕ
cleared [] = []
cleared (y ∷ v) = 0 ∷ v

cleared-start : (v : List ℕ) → clocks_of (cleared v) 0 ≡ 0
unfolding cleared
cleared-start [] = refl
cleared-start (y ∷ v) = refl

cleared_clock : (v : List ℕ) (x : ℕ) → clocks_of (cleared v) (suc x) ≡ clocks_of v (suc x)
unfolding cleared
cleared_clock [] x = refl
cleared_clock (y ∷ v) x = refl

cleared-listed : (c : ℕ) (v : List ℕ) → listed c (clocks_of (cleared v)) ≡ listed c (clocks_of v)
unfolding cleared listed
cleared-listed zero v = refl
cleared-listed (suc c) [] = refl
cleared-listed (suc c) (y ∷ v) = refl

cleared_wait : (v : List ℕ) (a : List Pair) (k : ℕ) → wait_to (cleared v) a k ≡ wait_to v a k
unfolding wait_to
cleared_wait v a zero = refl
cleared_wait v a (suc k) = λ i. max (cleared_wait v a k i) (less_bound (cleared_clock v k i) (pair_at a (suc k) 0).m)

cleared_earlier : (v : List ℕ) (t k : ℕ) → earlier_of (cleared v) t k ≡ earlier_of v t k
unfolding places_of
cleared_earlier v t zero = refl
cleared_earlier v t (suc k) = λ i. set (cleared_earlier v t k i) (suc k) (cleared_clock v k i - t)

cleared-back : (v : List ℕ) (a g : List Pair) (R : ℕ → Bool) (n : ℕ) → back_of (cleared v) a g R n ≡ back_of v a g R n
unfolding back_of
cleared-back v a g R n =
    let w = cleared_wait v a (n - 1) in
    let e : earlier_of (cleared v) (wait_to (cleared v) a (n - 1)) (n - 1) ≡ earlier_of v (wait_to v a (n - 1)) (n - 1) =
    cleared_earlier v (wait_to (cleared v) a (n - 1)) (n - 1) ∙ ap (λ (t : ℕ). earlier_of v t (n - 1)) w in
    λ i. record { wait = w i; valuation = valuation_before (e i) g R (n - 1) }

-- ---- the start, and a wait from it
waited : (c : ℕ) → 1 ≤ c → (t : ℕ) (u : ℕ → ℕ) → later t (replicate c 0) ≡ listed c u → u 1 ≡ t
unfolding later listed
waited zero h t u e = absurd (omega arith)
waited (suc c) h t u e = omega (arith, ap (λ (l : List ℕ). get_or l 0 0) e)

started : (c : ℕ) → c ≤ 8 → listed c (clocks_of (replicate 9 0)) ≡ replicate c 0
started c h =
    same_ticks c (listed c (clocks_of (replicate 9 0))) (replicate c 0) (listed-length c (clocks_of (replicate 9 0))) (length-replicate c 0)
    (λ x px hx. ticks-listed c (clocks_of (replicate 9 0)) refl x hx ∙ get_or-replicate 9 x 0 0 (omega arith) ∙ sym (origin_ticks c x hx))

-- ---- along an edge of an accepted automaton
module _ (b : List ℕ) (a : Accepted b) where
  abbrev c : ℕ
  c = clocks b

  n≤ : suc (clocks b) ≤ 9
  n≤ = omega (arith, a.complete.clocks≤)

  module _ (i : ℕ) (hi : i < edges b) where
    abbrev G : Limits
    G = guard_of b i

    abbrev R : ℕ → Bool
    R = resets_of b i

    abbrev I : Limits
    I = invariant_of b (to b i)

    cleared_along : (y : List Pair) (v : List ℕ) → back_along b i y (cleared v) ≡ back_along b i y v
    unfolding back_along
    cleared_along y v = cleared-back v (arrived_by b i y).work.zone (guarded_by b i y).work.zone R (suc c)

    -- a step between functions on the indices, as one between valuations
    jumped_to : (y : List Pair) (u v : ℕ → ℕ) → Has 1 0 c (work_of y no_limit) u → (n : Follows 1 0 c G R I u v) →
        Jumped b a 1 0 i y u n.enters.wait (listed c v)
    jumped_to y u v h n =
        let at = ticks-listed c v n.enters.waited.start in
        jumped b a 1 0 i y no_limit u (listed c v) (listed-length c v) h (record {
          after = n.after;
          guard = n.guard;
          put = n.put;
          enters = record {
            wait = n.enters.wait;
            arrived = n.enters.arrived;
            waited = record { start = refl; later = λ x px hx. at x hx ∙ n.enters.waited.later x px hx };
            still = λ x px hx. subst (Holds 1 0 I x) (sym (at x hx)) (n.enters.still x px hx);
          };
        })

    -- from a zone to its successor
    module _ (y z : List Pair) (f g : Fractions) (shape : Shaped c (work_of y no_limit)) (fit : Closed (suc c) (square_of 1 0 (work_of y no_limit)))
        (made : following b i y f ≡ zone z g) (exact : Below 1 0 g.exact) where
      from : (v : ℕ → ℕ) → Has 1 0 c (work_of z no_limit) v → (u : ℕ → ℕ) × Has 1 0 c (work_of y f.exact) u × Follows 1 0 c G R I u v
      from = came_from b a i hi 1 0 (omega arith) y z f g shape fit made exact

      point : (v : Valuation) × Inside b z 1 0 v
      point =
          (laws b a).exact.point z ((laws b a).shapes.succ i y z f g hi shape made)
          ((laws b a).exact.succ_fit 1 0 i y z f g hi shape fit made (omega arith, exact))

      crosses_edge : SoundZone b y → Crosses b i y
      crosses_edge s =
          let p = point in
          let q = from (ticks p.0) p.1.has in
          record {
            edge = hi;
            sound = s;
            live = live_law c n≤ (work_of y no_limit) shape fit (omega arith) G R (reset_zero b i) I q.0 (ticks p.0) q.1 q.2;
          }

      landed : Reached c G R I (work_of y no_limit) (clocks_of (landing_along b i y))
      unfolding landing_along
      landed =
          let p = point in
          let q = from (ticks p.0) p.1.has in
          landing_law c n≤ (work_of y no_limit) shape fit (omega arith) G R (reset_zero b i) I q.0 (ticks p.0) q.1 q.2

      lands : Inside b z 1 0 (listed c (clocks_of (landing_along b i y)))
      lands =
          let r = landed in
          let j = jumped_to y r.before (clocks_of (landing_along b i y)) r.inside r.follows in
          subst (Inside b z 1 0) j.same
          ((laws b a).inclusion.succ 1 0 i y z f g (listed c r.before) r.follows.enters.wait (omega arith) hi shape made
          j.inside j.may j.lands j.stays)

      stepped : (v : List ℕ) → clocks_of v 0 ≡ 0 → Inside b z 1 0 (listed c (clocks_of v)) →
          SteppedBack c G R I (work_of y no_limit) v (back_along b i y v)
      unfolding back_along
      stepped v s n =
          let h = in_same (suc c) (square_of 1 0 (work_of z no_limit)) (ticks (listed c (clocks_of v))) (clocks_of v) (omega arith)
          (λ x hx. sym (ticks-listed c (clocks_of v) s x hx)) n.has in
          let q = from (clocks_of v) h in
          step_back_law c n≤ (work_of y no_limit) shape fit (omega arith) G R (reset_zero b i) I v q.0 q.1 q.2

      -- from r's state to v, by the jump and r's wait
      abbrev LeadsTo : Valuation → StepBack → Type 0
      LeadsTo v r =
          Leads (system_of b) (zones_of b) (meaning_of b) (witnesses_of b) 1 0 i y v (record { time = r.wait; state = r.valuation })

      leads_from : (v : List ℕ) → clocks_of v 0 ≡ 0 → Inside b z 1 0 (listed c (clocks_of v)) → LeadsTo (listed c (clocks_of v)) (back_along b i y v)
      leads_from v s n =
          let r = back_along b i y v in
          let k = stepped v s n in
          let j = jumped_to y (clocks_of r.valuation) (clocks_of v) k.inside (record {
            after = k.after;
            guard = k.guard;
            put = k.put;
            enters = record { wait = r.wait; arrived = k.arrives; waited = k.waits; still = k.still };
          }) in
          record { inside = j.inside; may = j.may; lands = j.lands; stays = j.stays; same = j.same }

      leads : (v : List ℕ) → Inside b z 1 0 (listed c (clocks_of v)) → LeadsTo (listed c (clocks_of v)) (back_along b i y v)
      leads v n =
          let e = cleared-listed c v in
          subst (LeadsTo (listed c (clocks_of v))) (cleared_along y v)
          (subst (λ (u : Valuation). LeadsTo u (back_along b i y (cleared v))) e
          (leads_from (cleared v) (cleared-start v) (subst (Inside b z 1 0) (sym e) n)))

-- ---- what is asked
pub crosses : (b : List ℕ) (a : Accepted b) (i : ℕ) (y z : List Pair) (f g : Fractions) → i < edges b → SoundZone b y →
    Shaped (clocks b) (work_of y no_limit) → Closed (suc (clocks b)) (square_of 1 0 (work_of y no_limit)) → following b i y f ≡ zone z g →
    Below 1 0 g.exact → Crosses b i y
crosses b a i y z f g hi s p k e x = crosses_edge b a i hi y z f g p k e x s

pub witness_laws : (b : List ℕ) → Accepted b → WitnessLaws (system_of b) (zones_of b) (meaning_of b) (witnesses_of b) 1 0
witness_laws b a = record {
  begins = started (clocks b) a.complete.clocks≤;
  since_is = λ v t e. waited (clocks b) a.complete.clocks≥ t (clocks_of v) e;
  lands_in = λ i y z f g hi p k e x. lands b a i hi y z f g p k e x.1;
  leads = λ i y z f g v hi p k e x n. leads b a i hi y z f g p k e x.1 v n;
}
