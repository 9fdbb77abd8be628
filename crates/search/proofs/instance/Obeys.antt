-- The zones of an accepted automaton obey the laws that the search rests on.
-- Assumes nothing.
use Rattle.zones.specs.Reductions.{safe_of}
use Prim.Native.Nat.{ℕ, suc, ◌<◌, ◌≤◌}
use mathlib.Core.Path.{◌≡◌, sym, ◌∙◌, subst}
use mathlib.Core.Bool.{Bool, false}
use mathlib.Core.List.{List}
use lib.ListN.{length, replicate, length-replicate}
use native.Mathlib.Omega.{arith}
use Rattle.zones.specs.declared.fraction.Fraction.{Fraction}
use Rattle.zones.specs.declared.pair.Pair.{Pair}
use Rattle.zones.specs.declared.reduction.Reduced.{Reduced}
use Rattle.zones.specs.declared.zone.Work.{Work}
use Rattle.zones.specs.Containment.{inside_below}
use Rattle.zones.specs.Fractions.{no_limit}
use Rattle.zones.specs.Moves.{Closed, Shaped, Includes, Exact}
use Rattle.zones.specs.Sets.{square_of, Has, Waits, Enters, Follows}
use Rattle.runs.specs.Limits.{Holds, Within, Limits}
use Rattle.zones.specs.Successors.{enter_of, follow_of}
use Rattle.zones.specs.Values.{Below}
use Rattle.zones.specs.Zones.{home, first_work}
use Rattle.runs.proofs.Contradictions.{true_false}
use Rattle.zones.proofs.sets.Squares.{in_same}
use Rattle.zones.proofs.sets.Entering.{enter_includes, enter_exact, follow_includes, follow_exact, closed_point}
use Rattle.zones.proofs.places.Places.{home_below}
use Rattle.zones.proofs.sets.Starts.{first_shaped, first_low, first_has, inside_has, inside_proper}
use Rattle.zones.proofs.fractions.Fractional.{enter_before, follow_before, enter_proper, follow_proper}
use Rattle.zones.proofs.fractions.Thresholds.{proper_below, lowered_n, lowered_before, lowered_sound, lowered_below}
use Rattle.automata.specs.Accepted.{Accepted}
use Rattle.automata.specs.Automata.{clocks, locations, edges, start, to, invariant_of, guard_of, resets_of}
use Rattle.search.specs.Instance.{Fractions, fractions_of, work_of, result_of, entering, following, lowered_inside, zones_of, Inside, meaning_of}
use Rattle.reachability.specs.Laws.{Falls, Stays, Shapes, Inclusion, SafeLaws, ExactLaws, FromStart, FromZone, Laws}
use Rattle.reachability.specs.Search.{empty, zone, frac_of}
use Rattle.runs.specs.Timed.{Valuation, ticks, listed, later, zeroed}
use Rattle.automata.specs.Semantics.{system_of}
use Rattle.automata.proofs.fields.Resets.{reset_zero}
use Rattle.runs.proofs.Valuations.{later_none, later_more, later-length, zeroed-length, listed-length, ticks-listed, same_ticks, origin_ticks}
use Rattle.search.proofs.instance.Results.{WasZone, result_exact, result_safe, was_zone, was_empty}
use Rattle.search.proofs.instance.Valuations.{ticks_wait, ticks_put}

-- ---- a step S from w to r, by the result that the search sees
module _ {c s e : ℕ} {S : (ℕ → ℕ) → (ℕ → ℕ) → Type 0} {w : Work} {r : Reduced} (safe : Fraction) (i : Includes s e c S w r) where
  step_shape : {z : List Pair} {g : Fractions} → result_of safe r ≡ zone z g → Shaped c (work_of z no_limit)
  step_shape j =
      let k = was_zone safe r j in
      let h = i.shaped k.live in
      subst (λ (x : List Pair). Shaped c (work_of x no_limit)) k.square (record { size = h.size; diagonal = h.diagonal })

  step_in : {z : List Pair} {g : Fractions} → result_of safe r ≡ zone z g → (v v' : ℕ → ℕ) → Has s e c w v → S v v' →
      Has s e c (work_of z no_limit) v'
  step_in j v v' h n =
      let k = was_zone safe r j in
      subst (λ (x : List Pair). Has s e c (work_of x no_limit) v') k.square (i.into k.live v v' h n)

  -- below the safe fraction after it
  step_none : 0 < s → {g : Fractions} → result_of safe r ≡ empty g → Below s e g.safe → (v v' : ℕ → ℕ) → Has s e c w v → S v v' → ⊥
  step_none s> j p v v' h n =
      let k = was_empty safe r j in
      let l = lowered_sound s e safe (safe_of r) s> i.some (subst (Below s e) (sym k.lowered) p) in
      true_false (sym k.none ∙ i.live l.1 v v' h n)

-- what is below the exact fraction is below the safe one, after a step as before it
abbrev pub Tight : Fractions → Type 0
Tight f = (s e : ℕ) → 0 < s → Below s e f.exact → Below s e f.safe

step_tight : {c : ℕ} {S : ℕ → ℕ → (ℕ → ℕ) → (ℕ → ℕ) → Type 0} {w : Work} {r : Reduced} (safe : Fraction) →
    ((s e : ℕ) → 0 < s → Includes s e c (S s e) w r) → Tight (fractions_of w.fraction safe) → Tight (frac_of (result_of safe r))
step_tight {r = r} safe i h s e s> b =
    let q = subst (Below s e) (result_exact safe r) b in
    let o = h s e s> ((i s e s>).before q) in
    result_safe safe r (Below s e) o (lowered_below s e safe (safe_of r) o ((i s e s>).tighter q))

module _ {c s e : ℕ} {S : (ℕ → ℕ) → (ℕ → ℕ) → Type 0} {w : Work} {r : Reduced} (safe : Fraction) (x : Exact s e c S w r)
    {z : List Pair} {g : Fractions} (j : result_of safe r ≡ zone z g) (p : Below s e g.exact) where
  was : WasZone safe r z g
  was = was_zone safe r j

  below : Below s e r.work.fraction
  below = subst (Below s e) (sym was.exact) p

  step_fit : Closed (suc c) (square_of s e (work_of z no_limit))
  step_fit = subst (λ (y : List Pair). Closed (suc c) (square_of s e (work_of y no_limit))) was.square (x.closed was.live below)

  step_from : (v : ℕ → ℕ) → Has s e c (work_of z no_limit) v → (u : ℕ → ℕ) × Has s e c w u × S u v
  step_from v h = x.from was.live below v (subst (λ (y : List Pair). Has s e c (work_of y no_limit) v) (sym was.square) h)

-- ---- the laws
module _ (b : List ℕ) (a : Accepted b) where
  abbrev c : ℕ
  c = clocks b

  n≤ : suc (clocks b) ≤ 9
  n≤ = omega (arith, a.complete.clocks≤)

  present : (l : ℕ) → l < locations b → (x : ℕ) → 0 < x → x < suc (clocks b) → (invariant_of b l).absent x ≡ false
  present l hl x px hx = a.invariant_present l x hl px (omega arith)

  -- ---- the zone with another fraction is the same zone
  as_shaped : (z : List Pair) (f g : Fraction) → Shaped c (work_of z f) → Shaped c (work_of z g)
  as_shaped z f g h = record { size = h.size; diagonal = h.diagonal }

  -- ---- entering the start
  abbrev first : Fraction → Work
  first f = work_of first_work.zone f

  abbrev I₀ : Limits
  I₀ = invariant_of b (start b)

  first_is : (f : Fraction) → Shaped c (first f)
  first_is f = let g = first_shaped 1 0 (omega arith) c n≤ in record { size = g.size; diagonal = g.diagonal }

  enters : (s e : ℕ) → 0 < s → (f : Fraction) → Includes s e c (Enters s e c I₀) (first f) (enter_of c I₀ (first f))
  enters s e h f = enter_includes s e h c n≤ I₀ (present (start b) a.start<) (first f) (first_is f)

  enters_exactly : (s e : ℕ) → 0 < s → (f : Fraction) → Exact s e c (Enters s e c I₀) (first f) (enter_of c I₀ (first f))
  enters_exactly s e h f = enter_exact s e h c n≤ I₀ (present (start b) a.start<) (first f) (first_is f) (first_low s e h c n≤)

  abbrev v₀ : Valuation
  v₀ = replicate c 0

  origin_in : (s e : ℕ) → 0 < s → (f : Fraction) → Has s e c (first f) (ticks v₀)
  origin_in s e h f = let g = (first_has s e h c n≤ (ticks v₀)).1 (origin_ticks c) in record { start = g.start; gaps = g.gaps }

  -- a wait of t, and one of none
  waits : (s e t : ℕ) (I : Limits) (v : Valuation) → length v ≡ c → Within s e c I (ticks v) → Within s e c I (ticks (later t v)) →
      Enters s e c I (ticks v) (ticks (later t v))
  waits s e t I v l h k = record { wait = t; arrived = h; waited = ticks_wait c v l t; still = k }

  unwaited : (s e : ℕ) (I : Limits) (v : Valuation) → Within s e c I (ticks v) → Within s e c I (ticks (later 0 v))
  unwaited s e I v = subst (λ (x : Valuation). Within s e c I (ticks x)) (sym (later_none v))

  -- ---- following an edge
  module _ (i : ℕ) (hi : i < edges b) where
    abbrev G : Limits
    G = guard_of b i

    abbrev R : ℕ → Bool
    R = resets_of b i

    abbrev I : Limits
    I = invariant_of b (to b i)

    module _ (s e : ℕ) (h : 0 < s) (y : List Pair) (f : Fraction) (g : Shaped c (work_of y no_limit)) where
      follows : Includes s e c (Follows s e c G R I) (work_of y f) (follow_of c G R I (work_of y f))
      follows = follow_includes s e h c n≤ I (present (to b i) (a.to< i hi)) G R (reset_zero b i) (work_of y f) (as_shaped y no_limit f g)

      follows_exactly : Closed (suc c) (square_of s e (work_of y no_limit)) →
          Exact s e c (Follows s e c G R I) (work_of y f) (follow_of c G R I (work_of y f))
      follows_exactly z =
          follow_exact s e h c n≤ I (present (to b i) (a.to< i hi)) G R (reset_zero b i) (work_of y f) (as_shaped y no_limit f g) z.low

    -- by the jump and a wait of t
    jumps_on : (s e t : ℕ) (v : Valuation) → length v ≡ c → Within s e c G (ticks v) → Within s e c I (ticks (zeroed R 1 v)) →
        Within s e c I (ticks (later t (zeroed R 1 v))) → Follows s e c G R I (ticks v) (ticks (later t (zeroed R 1 v)))
    jumps_on s e t v l g h k = record {
      after = ticks (zeroed R 1 v);
      guard = g;
      put = ticks_put c v l R;
      enters = waits s e t I (zeroed R 1 v) (zeroed-length R 1 v ∙ l) h k;
    }

    -- a state of the successor comes from one of the zone
    pub came_from : (s e : ℕ) → 0 < s → (y z : List Pair) (f g : Fractions) → Shaped c (work_of y no_limit) →
        Closed (suc c) (square_of s e (work_of y no_limit)) →
        following b i y f ≡ zone z g → Below s e g.exact → (v : ℕ → ℕ) → Has s e c (work_of z no_limit) v →
        (u : ℕ → ℕ) × Has s e c (work_of y f.exact) u × Follows s e c G R I u v
    unfolding following
    came_from s e h y z f g p k j q v n = step_from f.safe (follows_exactly s e h y f.exact p k) j q v n

  -- ---- the fractions only fall
  exact_falls : (s e : ℕ) → Falls (zones_of b) (λ f. (1 ≤ s) × Below s e f.exact)
  unfolding entering following lowered_inside
  exact_falls s e = record {
    enter = λ f p. (p.0, enter_before s e p.0 c I₀ (first f.exact) (subst (Below s e) (result_exact _ _) p.1));
    succ = λ i z f p. (
      p.0,
      follow_before s e p.0 c (guard_of b i) (resets_of b i) (invariant_of b (to b i)) (work_of z f.exact)
          (subst (Below s e) (result_exact _ _) p.1),
    );
    lowered = λ z y f p. (p.0, lowered_before s e f.exact (inside_below (suc c) z y) p.0 p.1);
  }

  safe_before : (s e : ℕ) → 0 < s → (safe : Fraction) (r : Reduced) → Below s e (frac_of (result_of safe r)).safe → Below s e safe
  safe_before s e s> safe r = result_safe safe r (λ f. Below s e f → Below s e safe) (λ p. p) (lowered_before s e safe (safe_of r) s>)

  safe_falls : (s e : ℕ) → Falls (zones_of b) (λ f. (1 ≤ s) × Below s e f.safe)
  unfolding entering following lowered_inside
  safe_falls s e = record {
    enter = λ f p. (p.0, safe_before s e p.0 f.safe _ p.1);
    succ = λ i z f p. (p.0, safe_before s e p.0 f.safe _ p.1);
    lowered = λ z y f p. (p.0, lowered_before s e f.safe (inside_below (suc c) z y) p.0 p.1);
  }

  -- ---- no error at all is always below the exact one
  proper : (safe : Fraction) (r : Reduced) → 0 < r.work.fraction.n → Below 1 0 (frac_of (result_of safe r)).exact
  proper safe r h = subst (Below 1 0) (sym (result_exact safe r)) (proper_below _ h)

  exact_stays : Stays (system_of b) (zones_of b) (meaning_of b) (λ f. (1 ≤ 1) × Below 1 0 f.exact)
  unfolding entering following lowered_inside
  exact_stays = record {
    top = (omega arith, omega arith);
    enter = λ f p. (p.0, proper f.safe _ (enter_proper c I₀ (first f.exact) (omega (arith, p.1))));
    succ = λ i z f l h p. (
      p.0,
      proper f.safe _
          (follow_proper c (guard_of b i) (resets_of b i) (invariant_of b (to b i)) (work_of z f.exact) (omega (arith, p.1))),
    );
    lowered = λ z y f h k j p. (
      p.0,
      proper_below _ (lowered_n f.exact (inside_below (suc c) z y) (omega (arith, p.1)) (inside_proper (suc c) z y j)),
    );
  }

  -- ---- and what is below the exact one is below the safe one
  pub tight_stays : Stays (system_of b) (zones_of b) (meaning_of b) Tight
  unfolding entering following lowered_inside
  tight_stays = record {
    top = λ s e s> p. p;
    enter = λ f h. step_tight f.safe (λ s e s>. enters s e s> f.exact) h;
    succ = λ i z f l g h. step_tight f.safe (λ s e s>. follows i l s e s> z f.exact g) h;
    lowered = λ z y f g k j h s e s> p.
        let t = inside_below (suc c) z y in
        let l = lowered_sound s e f.exact t s> (inside_proper (suc c) z y j) p in
        lowered_below s e f.safe t (h s e s> l.0) l.1;
  }

  -- ---- the laws of inclusion, at every error
  shapes : Shapes (system_of b) (zones_of b) (meaning_of b)
  unfolding entering following
  shapes = record {
    enter = λ f g z j. step_shape f.safe (enters 1 0 (omega arith) f.exact) j;
    succ = λ i y z f g l h j. step_shape f.safe (follows i l 1 0 (omega arith) y f.exact h) j;
  }

  inclusion : Inclusion (system_of b) (zones_of b) (meaning_of b)
  unfolding entering following
  inclusion = record {
    enter = λ s e f g z t p j h k. record {
      all = later-length t v₀ ∙ length-replicate c 0;
      has = step_in f.safe (enters s e p f.exact) j (ticks v₀) _ (origin_in s e p f.exact) (waits s e t I₀ v₀ (length-replicate c 0) h k);
    };
    succ = λ s e i y z f g v t p l h j n q r k. record {
      all = later-length t (zeroed (resets_of b i) 1 v) ∙ zeroed-length (resets_of b i) 1 v ∙ n.all;
      has = step_in f.safe (follows i l s e p y f.exact h) j (ticks v) _ n.has (jumps_on i l s e t v n.all q r k);
    };
  }

  -- ---- those below the safe fraction
  safe_laws : SafeLaws (system_of b) (zones_of b) (meaning_of b)
  unfolding entering following lowered_inside
  safe_laws = record {
    enter_none = λ s e f g j p h. step_none f.safe (enters s e p.0 f.exact) p.0 j p.1 (ticks v₀) _ (origin_in s e p.0 f.exact)
        (waits s e 0 I₀ v₀ (length-replicate c 0) h (unwaited s e I₀ v₀ h));
    succ_none = λ s e i y f g v l h j p n q r. step_none f.safe (follows i l s e p.0 y f.exact h) p.0 j p.1 (ticks v) _ n.has
        (jumps_on i l s e 0 v n.all q r (unwaited s e (invariant_of b (to b i)) (zeroed (resets_of b i) 1 v) r));
    within_in = λ s e z y f v h k j p n.
        let l = lowered_sound s e f.safe (inside_below (suc c) z y) p.0 (inside_proper (suc c) z y j) p.1 in
        record {
          all = n.all;
          has = inside_has s e p.0 c n≤ (work_of z no_limit) (work_of y no_limit) j l.1 (ticks v) n.has;
        };
  }

  -- ---- a function on the indices as a valuation
  to-within : (s e : ℕ) (L : Limits) (u u' : ℕ → ℕ) → ((x : ℕ) → x < suc c → u' x ≡ u x) → Within s e c L u → Within s e c L u'
  to-within s e L u u' h k x px hx = subst (Holds s e L x) (sym (h x hx)) (k x px hx)

  listed_in : (s e : ℕ) (z : List Pair) (f : Fraction) (u : ℕ → ℕ) → Has s e c (work_of z f) u → Inside b z s e (listed c u)
  listed_in s e z f u h = record {
    all = listed-length c u;
    has = (in_same (suc c) (square_of s e (work_of z f)) u (ticks (listed c u)) (omega arith) (ticks-listed c u h.start) h);
  }

  -- a wait of t from q, which is u
  later_is : (t : ℕ) (q v : Valuation) (u : ℕ → ℕ) → length q ≡ c → length v ≡ c → ((x : ℕ) → x < suc c → ticks q x ≡ u x) →
      Waits (suc c) t u (ticks v) → later t q ≡ v
  later_is t q v u lq lv at w =
      let k = ticks_wait c q lq t in
      same_ticks c (later t q) v (later-length t q ∙ lq) lv (λ x px hx. omega (arith, k.later x px hx, w.later x px hx, at x hx))

  -- ---- the exact laws
  -- a state of the start's zone: the origin and a wait
  from_start : (s e : ℕ) (u : ℕ → ℕ) (v : Valuation) → length v ≡ c → ((x : ℕ) → x < suc c → u x ≡ 0) → Enters s e c I₀ u (ticks v) →
      FromStart (system_of b) (zones_of b) (meaning_of b) s e v
  from_start s e u v l z n =
      let at : (x : ℕ) → x < suc c → ticks v₀ x ≡ u x = λ x hx. origin_ticks c x hx ∙ sym (z x hx) in
      let same = later_is n.wait v₀ v u (length-replicate c 0) l at n.waited in
      record {
        time = n.wait;
        begins = to-within s e I₀ u (ticks v₀) at n.arrived;
        stays = subst (λ (y : Valuation). Within s e c I₀ (ticks y)) (sym same) n.still;
        same = same;
      }

  -- a state of a successor: a state of the zone, the jump and a wait of t
  pub record Jumped (s e i : ℕ) (y : List Pair) (u : ℕ → ℕ) (t : ℕ) (v : Valuation) : Type 0 where
    pub inside : Inside b y s e (listed c u)
    pub may : Within s e c (guard_of b i) (ticks (listed c u))
    pub lands : Within s e c (invariant_of b (to b i)) (ticks (zeroed (resets_of b i) 1 (listed c u)))
    pub stays : Within s e c (invariant_of b (to b i)) (ticks (later t (zeroed (resets_of b i) 1 (listed c u))))
    pub same : later t (zeroed (resets_of b i) 1 (listed c u)) ≡ v

  pub jumped : (s e i : ℕ) (y : List Pair) (f : Fraction) (u : ℕ → ℕ) (v : Valuation) → length v ≡ c → Has s e c (work_of y f) u →
      (n : Follows s e c (guard_of b i) (resets_of b i) (invariant_of b (to b i)) u (ticks v)) → Jumped s e i y u n.enters.wait v
  jumped s e i y f u v l h n =
      let R = resets_of b i in
      let I = invariant_of b (to b i) in
      let o = listed c u in
      let t = n.enters.wait in
      let q = zeroed R 1 o in
      let after : (x : ℕ) → x < suc c → ticks q x ≡ n.after x =
      λ x hx. ticks_put c o (listed-length c u) R x hx ∙ ticks-listed c u h.start (home R x) (home_below R (suc c) x hx) ∙ sym (n.put x hx) in
      let same = later_is t q v n.after (zeroed-length R 1 o ∙ listed-length c u) l after n.enters.waited in
      record {
        inside = listed_in s e y f u h;
        may = to-within s e (guard_of b i) u (ticks o) (ticks-listed c u h.start) n.guard;
        lands = to-within s e I n.after (ticks q) after n.enters.arrived;
        stays = subst (λ (x : Valuation). Within s e c I (ticks x)) (sym same) n.enters.still;
        same = same;
      }

  from_zone : (s e i : ℕ) (y : List Pair) (f : Fraction) (u : ℕ → ℕ) (v : Valuation) → length v ≡ c → Has s e c (work_of y f) u →
      Follows s e c (guard_of b i) (resets_of b i) (invariant_of b (to b i)) u (ticks v)
      → FromZone (system_of b) (zones_of b) (meaning_of b) s e i y v
  from_zone s e i y f u v l h n =
      let j = jumped s e i y f u v l h n in
      record {
        old = listed c u;
        time = n.enters.wait;
        inside = j.inside;
        may = j.may;
        lands = j.lands;
        stays = j.stays;
        same = j.same;
      }

  exact_laws : ExactLaws (system_of b) (zones_of b) (meaning_of b) 1 0
  unfolding entering following
  exact_laws = record {
    enter_fit = λ s e f g z j p. step_fit f.safe (enters_exactly s e p.0 f.exact) j p.1;
    succ_fit = λ s e i y z f g l h k j p. step_fit f.safe (follows_exactly i l s e p.0 y f.exact h k) j p.1;
    enter_from = λ s e f g z v j p n.
        let x = step_from f.safe (enters_exactly s e p.0 f.exact) j p.1 (ticks v) n.has in
        from_start s e x.0 v n.all ((first_has s e p.0 c n≤ x.0).0 x.1) x.2;
    succ_from = λ s e i y z f g v l h k j p n.
        let x = came_from i l s e p.0 y z f g h k j p.1 (ticks v) n.has in
        from_zone s e i y f.exact x.0 v n.all x.1 x.2;
    point = λ z h k. let x = closed_point 1 0 c (work_of z no_limit) k in (listed c x.0, listed_in 1 0 z no_limit x.0 x.1);
  }

  pub laws : Laws (system_of b) (zones_of b) (meaning_of b) 1 0
  laws = record {
    clocks = record { none = later_none; more = later_more };
    error = omega arith;
    shapes = shapes;
    inclusion = inclusion;
    safe_falls = safe_falls;
    safe = safe_laws;
    exact_falls = exact_falls;
    exact_stays = exact_stays;
    exact = exact_laws;
  }
