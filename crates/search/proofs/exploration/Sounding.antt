-- What has entered a location is in range, and so is every state of the search: no number of a step overflows.
-- Assumes nothing.
use Rattle.zones.specs.Reductions.{safe_of}
use Rattle.zones.specs.Reductions.{is_empty}
use Prim.Native.Nat.{ℕ, suc, ◌*◌, ◌<◌, ◌≤◌}
use mathlib.Core.Path.{◌≡◌, refl, sym, ◌∙◌, subst}
use mathlib.Core.Bool.{Bool, true, false}
use mathlib.Core.List.{List, []}
use borrow.Author.Tests.{ltb-false}
use native.Mathlib.Omega.{arith}
use Rattle.zones.specs.declared.fraction.Fraction.{Fraction}
use Rattle.zones.specs.declared.pair.Pair.{Pair}
use Rattle.zones.specs.declared.reduction.Reduced.{Reduced}
use Rattle.zones.specs.declared.zone.Work.{Work}
use Rattle.zones.specs.Containment.{inside_below, largest_count}
use Rattle.zones.specs.Fractions.{no_limit, lowered_by}
use Rattle.zones.specs.Ranges.{Ranged, Sized, OnScale, Fits32, counts, step_counts, last_counts, widest}
use Rattle.runs.specs.Limits.{scale, Limits}
use Rattle.zones.specs.Reductions.{reduce_of}
use Rattle.zones.specs.Successors.{and_then, meet_of, enter_of, follow_of}
use Rattle.zones.specs.Zones.{first_work, meet_limits, raise_limits, reset_of}
use Rattle.zones.proofs.ranges.Bounding.{first_sized, sized_more, sized_meet, sized_reset, sized_raise, reduced_fits, safe_fits, sized_reduce}
use Rattle.zones.proofs.ranges.Ranges.{lowered_narrow}
use Rattle.runs.proofs.Contradictions.{true_false}
use Rattle.zones.proofs.places.Inside.{largest_most, inside_fits}
use Rattle.zones.proofs.sets.Moving.{then_empty, then_live}
use Rattle.automata.specs.Accepted.{Accepted}
use Rattle.automata.specs.Automata.{clocks, locations, edges, start, to, invariant_of, guard_of, resets_of}
use Rattle.search.specs.Exploring.{SoundNode, SoundState, SoundResult, node_at}
use Rattle.search.specs.Instance.{Fractions, ZoneNode, ZoneState, work_of, result_of, entering, lowered_inside, overcounted, zones_of}
use Rattle.reachability.specs.Search.{Result, frac_of, Came, first_zone, zone, offer, nothing, begin}
use Rattle.automata.specs.Semantics.{system_of}
use Rattle.slots.specs.Slots.{Framed}
use Rattle.reachability.proofs.Judged.{Inside, offer_kept, offer_frac}
use Rattle.reachability.proofs.Keeps.{offer_room}
use Rattle.automata.proofs.accepting.Accepting.{unreset}
use Rattle.search.proofs.exploration.Judging.{node_bounded}
use Rattle.reachability.proofs.Lists.{All, all_snoc}
use Rattle.search.proofs.instance.Results.{result_exact, result_safe, was_zone}
use Rattle.slots.proofs.slot.Frames.{framed_first, framed_meet, framed_reduce, framed_raise, framed_reset}
use Rattle.search.proofs.successor.Stepping.{invariant_scale, guard_scale}

-- ---- a zone, with error counts up to P; and what an operation on it leaves
record Fit (P n : ℕ) (w : Work) : Type 0 where
  sized : Sized P n w
  framed : Framed n w.zone

record Left (P n : ℕ) (r : Reduced) : Type 0 where
  fraction : Fits32 r.work.fraction
  safe : Fits32 (safe_of r)
  fit : is_empty r ≡ false → Fit P n r.work

left_then : (P Q n : ℕ) (r : Reduced) (f : Work → Reduced) → Left P n r → (Fit P n r.work → Left Q n (f r.work)) → Left Q n (and_then r f)
left_then P Q n r f l k = go (is_empty r) refl
  where
    go : (t : Bool) → is_empty r ≡ t → Left Q n (and_then r f)
    go true e = rw (then_empty r f e) (record { fraction = l.fraction; safe = l.safe; fit = λ g. true_false (sym e ∙ g) })
    go false e = rw (then_live r f e) (k (l.fit e))

module _ (c : ℕ) (n≤ : suc c ≤ 9) (P : ℕ) (P> : 0 < P) (P≤ : P ≤ step_counts) (w : Work) (h : Fit P (suc c) w) where
  reduce_left : Left (10 * P) (suc c) (reduce_of (suc c) w)
  reduce_left = record {
    fraction = reduced_fits P (suc c) P> P≤ n≤ w h.sized (omega arith);
    safe = safe_fits P (suc c) P> P≤ n≤ w h.sized (omega arith);
    fit = λ l. record {
      sized = sized_reduce P (suc c) P> P≤ n≤ w h.sized (omega arith) l;
      framed = framed_reduce (suc c) n≤ w h.framed h.sized.ranged.size;
    };
  }

  meet_fit : (L : Limits) → OnScale scale c L → Fit P (suc c) (meet_limits L c w)
  meet_fit L o = record {
    sized = sized_meet P (suc c) P> P≤ n≤ w h.sized c (omega arith) L o c (omega arith);
    framed = framed_meet (suc c) n≤ L c w (omega arith) h.framed h.sized.ranged.size;
  }

  raise_fit : (L : Limits) → ((x : ℕ) → 0 < x → x < suc c → L.hi x ≤ scale) → Fit P (suc c) (raise_limits L c w)
  raise_fit L o = record {
    sized = sized_raise P (suc c) P> P≤ n≤ w h.sized c (omega arith) L o;
    framed = framed_raise (suc c) n≤ L c w (omega arith) h.framed;
  }

  reset_fit : (R : ℕ → Bool) → ((x : ℕ) → suc c ≤ x → R x ≡ false) → Fit P (suc c) (reset_of (suc c) R w)
  reset_fit R o = record { sized = sized_reset P (suc c) P> P≤ n≤ w h.sized (omega arith) R; framed = framed_reset (suc c) n≤ R o w h.framed }

meet_left : (c : ℕ) → suc c ≤ 9 → (P : ℕ) → 0 < P → P ≤ step_counts → (L : Limits) → OnScale scale c L → (w : Work) → Fit P (suc c) w →
    Left (10 * P) (suc c) (meet_of c L w)
unfolding meet_of
meet_left c n≤ P P> P≤ L o w h = reduce_left c n≤ P P> P≤ (meet_limits L c w) (meet_fit c n≤ P P> P≤ w h L o)

enter_left : (c : ℕ) → suc c ≤ 9 → (P : ℕ) → 0 < P → P ≤ 10 * counts → (I : Limits) → OnScale scale c I →
    ((x : ℕ) → 0 < x → x < suc c → I.hi x ≤ scale) → (w : Work) → Fit P (suc c) w → Left (10 * (10 * P)) (suc c) (enter_of c I w)
unfolding enter_of
enter_left c n≤ P P> P≤ I o k w h =
    left_then (10 * P) (10 * (10 * P)) (suc c) (meet_of c I w) (λ v. reduce_of (suc c) (raise_limits I c v))
    (meet_left c n≤ P P> (omega arith) I o w h)
    (λ f. reduce_left c n≤ (10 * P) (omega arith) (omega arith) (raise_limits I c (meet_of c I w).work)
    (raise_fit c n≤ (10 * P) (omega arith) (omega arith) (meet_of c I w).work f I k))

-- ---- the two steps of an accepted automaton
module _ (b : List ℕ) (a : Accepted b) where
  abbrev n : ℕ
  n = suc (clocks b)

  n≤ : suc (clocks b) ≤ 9
  n≤ = omega (arith, a.complete.clocks≤)

  his : (l : ℕ) → l < locations b → (x : ℕ) → 0 < x → x < n → (invariant_of b l).hi x ≤ scale
  his l h x px hx = a.invariant_hi l x h px (omega arith)

  result : (P : ℕ) → P ≤ last_counts → (r : Reduced) → Left P n r → SoundResult b r
  result P h r l = record {
    fraction = l.fraction;
    safe = l.safe;
    sized = λ e. sized_more P last_counts n r.work h (l.fit e).sized;
    framed = λ e. (l.fit e).framed;
  }

  pub start-sound : SoundResult b (enter_of (clocks b) (invariant_of b (start b)) first_work)
  start-sound =
      result (10 * (10 * counts)) (omega arith) _
      (enter_left (clocks b) n≤ counts (omega arith) (omega arith) (invariant_of b (start b))
      (invariant_scale b a (start b) a.start<) (his (start b) a.start<) first_work
      (record { sized = first_sized counts n n≤; framed = framed_first n }))

  -- a kept zone with the running fraction
  pub node_sized : (z : List Pair) (f : Fraction) → Ranged scale counts n (work_of z no_limit) → Fits32 f → Sized counts n (work_of z f)
  node_sized z f r h = record { ranged = record { size = r.size; bounded = r.bounded; diagonal = r.diagonal; low = r.low }; narrow = h }

  pub follow_sound : (i : ℕ) → i < edges b → (z : List Pair) (f : Fraction) →
      Ranged scale counts n (work_of z no_limit) → Framed n z → Fits32 f →
      SoundResult b (follow_of (clocks b) (guard_of b i) (resets_of b i) (invariant_of b (to b i)) (work_of z f))
  unfolding follow_of
  follow_sound i hi z f r g h =
      let c = clocks b in
      let w = work_of z f in
      let G = guard_of b i in
      let I = invariant_of b (to b i) in
      let ht = a.to< i hi in
      result (10 * (10 * (10 * counts))) (omega arith) _
      (left_then (10 * counts) (10 * (10 * (10 * counts))) (suc c) (meet_of c G w) (λ v. enter_of c I (reset_of (suc c) (resets_of b i) v))
      (meet_left c n≤ counts (omega arith) (omega arith) G (guard_scale b a i hi) w (record { sized = node_sized z f r h; framed = g }))
      (λ k. enter_left c n≤ (10 * counts) (omega arith) (omega arith) I (invariant_scale b a (to b i) ht) (his (to b i) ht)
      (reset_of (suc c) (resets_of b i) (meet_of c G w).work)
      (reset_fit c n≤ (10 * counts) (omega arith) (omega arith) (meet_of c G w).work k (resets_of b i) (λ x hx. unreset b a i x hi hx))))

  -- ---- a judged state
  -- a zone that may be kept has no error count above 65,535
  kept-sound : (l : ℕ) → l < locations b → (z : List Pair) (f : Fraction) (c : Came) (p : List ℕ) → Sized last_counts n (work_of z f) →
      Framed n z → overcounted b z ≡ false → SoundNode b (record { at = l; zone = z; came = c; path = p })
  unfolding overcounted
  kept-sound l hl z f c p r g e = record {
    location = hl;
    ranged = record {
      size = r.ranged.size;
      bounded = λ x y hx hy. record {
        m = (r.ranged.bounded x y hx hy).m;
        p = omega (arith, largest_most n z n≤ x y hx hy, ltb-false counts (largest_count n z) e);
      };
      diagonal = r.ranged.diagonal;
      low = r.ranged.low;
    };
    framed = g;
  }

  -- what a result that is a zone has
  zone_fit : (safe : Fraction) (r : Reduced) (z : List Pair) (f : Fractions) → SoundResult b r → result_of safe r ≡ zone z f →
      Sized last_counts n (work_of z f.exact) × Framed n z
  zone_fit safe r z f h e =
      let w = was_zone safe r e in (
        subst (Sized last_counts n) (λ i. work_of (w.square i) (w.exact i)) (h.sized w.live),
        subst (Framed n) w.square (h.framed w.live),
      )

  module _ (capacity : ℕ) (l : ℕ) (hl : l < locations b) (c : Came) (p : List ℕ) (q : ZoneState)
      (sound : SoundState b capacity q) (safe : Fraction) (fits : Fits32 safe) (r : Reduced) (h : SoundResult b r) where
    abbrev made : Result (List Pair) Fractions
    made = result_of safe r

    -- what a containment test that holds lowers both by
    inside : (z : List Pair) (f : Fractions) (k : ZoneNode) → made ≡ zone z f → Inside (system_of b) (zones_of b) q.kept l z k →
        Fits32 (inside_below n z k.zone)
    inside z f k e i =
        inside_fits z k.zone n (zone_fit safe r z f h e).0.ranged.bounded
        (node_bounded b a k (sound.nodes i.place k i.kept)) i.holds

    -- each of the two fractions, by what has become of it
    offer_fits : (g : Fractions → Fraction)
        → ((z y : List Pair) (f : Fractions) → g (lowered_inside b z y f) ≡ lowered_by (g f) (inside_below n z y)) →
        Fits32 (g (frac_of made)) → Fits32 (g (offer (system_of b) (zones_of b) capacity q (node_at l c p) made).frac)
    offer_fits g lowers m =
        offer_frac (system_of b) (zones_of b) capacity (λ f. Fits32 (g f)) q (node_at l c p) made m
        (λ z f k e i. subst Fits32 (sym (lowers z k.zone f))
        (lowered_narrow widest widest _ _ (subst (λ x. Fits32 (g (frac_of x))) e m) (inside z f k e i)))

    pub offer_sound : SoundState b capacity (offer (system_of b) (zones_of b) capacity q (node_at l c p) (result_of safe r))
    unfolding lowered_inside
    offer_sound = record {
      nodes = offer_kept (system_of b) (zones_of b) capacity (All (SoundNode b)) q (node_at l c p) made sound.nodes
          (λ z f e away small room. let o = zone_fit safe r z f h e in
          all_snoc q.kept (node_at l c p z) sound.nodes (kept-sound l hl z f.exact c p o.0 o.1 small));
      most = offer_room (system_of b) (zones_of b) capacity q (node_at l c p) made sound.most;
      exact = offer_fits (λ f. f.exact) (λ z y f. refl) (subst Fits32 (sym (result_exact safe r)) h.fraction);
      safe = offer_fits (λ f. f.safe) (λ z y f. refl) (result_safe safe r Fits32 fits (lowered_narrow widest widest safe (safe_of r) fits h.safe));
    }

  -- ---- the states that a search begins with
  unlimited : Fits32 no_limit
  unlimited = record { n = omega arith; d = omega arith }

  pub nothing_sound : (capacity : ℕ) → SoundState b capacity (nothing (system_of b) (zones_of b) capacity)
  nothing_sound capacity = record { nodes = λ j k h. absurd h; most = omega arith; exact = unlimited; safe = unlimited }

  pub begin_sound : (capacity : ℕ) → SoundState b capacity (begin (system_of b) (zones_of b) capacity)
  unfolding entering first_work
  begin_sound capacity = offer_sound capacity (start b) a.start< first_zone [] _ (nothing_sound capacity) no_limit unlimited _ start-sound
