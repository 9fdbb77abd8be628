-- A step of a zone, as the code takes it: a turn of the loop over the clocks, on the two entries that it reads and sets; then what each operation
-- gives, and what each asks.
-- Assumes nothing.
use Rattle.zones.specs.Reductions.{is_empty}
use Rattle.zones.specs.Reductions.{safe_of}
use Prim.Native.Nat.{ℕ, zero, suc, ◌+◌, ◌-◌, ◌*◌, ◌<◌, ◌≤◌}
use mathlib.Core.Path.{◌≡◌, refl, sym, ap, ◌∙◌}
use mathlib.Core.Bool.{Bool, true, false}
use mathlib.Core.List.{List}
use lib.ListN.{length, get_or, set, get_or-eq_default}
use lib.Seq.{set-get_or}
use native.Mathlib.Decide.{dec_lt}
use native.Mathlib.Omega.{arith}
use Rattle.zones.specs.declared.fraction.Fraction.{Fraction}
use Rattle.zones.specs.declared.pair.Pair.{Pair}
use Rattle.zones.specs.declared.reduction.Reduced.{Reduced}
use Rattle.zones.specs.declared.zone.Bounds.{Bounds}
use Rattle.zones.specs.declared.zone.Work.{Work}
use Rattle.zones.specs.Pairs.{zero_pair}
use Rattle.zones.specs.Ranges.{Sized, OnScale, LimitsReady, Ready, Fits32, counts, step_counts}
use Rattle.runs.specs.Limits.{scale, Limits}
use Rattle.zones.specs.Reductions.{reduce_steps, reduce_of}
use Rattle.zones.specs.Moves.{Shaped}
use Rattle.zones.specs.Settled.{Settled, Lifted, Begun}
use Rattle.zones.specs.Successors.{and_then, meet_of, enter_of, follow_of}
use Rattle.std.specs.Prelude.{Option}
use Rattle.zones.specs.Zones.{pair_at, bounds_met, upper_of, bounds_below, meet_limits, raise_limits, set_of, reset_of}
use Rattle.zones.proofs.ranges.Bounding.{safe_fits, sized_more, sized_ready, sized_limits, sized_meet, sized_reset, sized_raise, sized_reduce}
use Rattle.zones.proofs.places.Limits.{met_unlowered, limits_more}
use Rattle.zones.proofs.sets.Meeting.{meet_shaped}
use Rattle.zones.proofs.settled.Raising.{raise_lifted}
use Rattle.zones.proofs.settled.Settled.{settled_reduced}
use Rattle.zones.proofs.settled.Settling.{reduced_settled, reset_settled, limits_settled}
use Rattle.zones.proofs.sets.Moving.{then_empty, then_live}
use Rattle.automata.specs.Accepted.{Accepted}
use Rattle.automata.specs.Constraints.{Constrains}
use Rattle.automata.specs.declared.constraint.Constraint.{Constraint}
use Rattle.automata.specs.Automata.{clocks, locations, edges, reset_byte, limits_at, invariant_at}
use Rattle.automata.specs.Automata.{invariant_of, guard_of, resets_of, in_byte, firsts, reset_set}
use Rattle.automata.proofs.accepting.Accepting.{unreset}
use Rattle.automata.proofs.fields.Resets.{resets_at}

abbrev entries : List Pair → ℕ → Fraction → Bounds
entries z x f = record { upper = get_or z (x * 9) zero_pair; lower = get_or z x zero_pair; fraction = f }

entries_at : (z : List Pair) (x : ℕ) (f : Fraction) → record { upper = pair_at z x 0; lower = pair_at z 0 x; fraction = f } ≡ entries z x f
unfolding pair_at
entries_at z x f =
    let a : x * 9 + 0 ≡ x * 9 = omega arith in
    let b : 0 * 9 + x ≡ x = omega arith in
    λ i. record { upper = get_or z (a i) zero_pair; lower = get_or z (b i) zero_pair; fraction = f }

module _ (L : Limits) (n : ℕ) (w u : Work) (n≤ : n ≤ 8) (o : OnScale scale n L)
    (r : Sized step_counts (suc n) w) (x : ℕ) (px : 0 < x) (hx : x ≤ n) (e : u ≡ meet_limits L (x - 1) w) where
  sized : Sized step_counts (suc n) u
  sized = rw e (sized_meet step_counts (suc n) (omega arith) (omega arith) (omega arith) w r n (omega arith) L o (x - 1) (omega arith))

  pub turn_ready : {lo : ℕ} {hi : Option ℕ} → lo ≡ L.lo x → hi ≡ upper_of L x → LimitsReady (entries u.zone x u.fraction) lo hi
  turn_ready f g =
      rw (f, g, ← entries_at u.zone x u.fraction)
      (sized_limits step_counts (suc n) (omega arith) (omega arith) (omega arith) u sized n (omega arith) L o x px (omega arith))

  pub turn_met : {lo : ℕ} {hi : Option ℕ} {b : Bounds} → lo ≡ L.lo x → hi ≡ upper_of L x → b ≡ bounds_met lo hi (entries u.zone x u.fraction) →
      record { zone = set (set u.zone (x * 9) b.upper) x b.lower; fraction = b.fraction } ≡ meet_limits L (x + 1 - 1) w
  turn_met f g k =
      limits_more L x w u px (omega arith) sized.ranged.size e
      (k ∙ (λ i. bounds_met (f i) (g i) (sym (entries_at u.zone x u.fraction) i)))

-- a clock's limits that lower neither entry leave the square as it is
pub turn_same : (z : List Pair) (x : ℕ) (f : Fraction) (lo : ℕ) (hi : Option ℕ) {b : Bounds} → b ≡ bounds_met lo hi (entries z x f) →
    bounds_below b (entries z x f) ≡ false →
    set (set z (x * 9) b.upper) x b.lower ≡ z
turn_same z x f lo hi e h =
    let m = met_unlowered lo hi (entries z x f) (rw e at h) in
    rw (e, m.0, m.1, set-get_or z (x * 9) zero_pair) (set-get_or z x zero_pair)

-- ---- what comes after r₀, empty or not
module _ {r r₀ : Reduced} (e : r ≡ r₀) (f : Work → Reduced) where
  then_none : is_empty r ≡ true → r ≡ and_then r₀ f
  then_none h = e ∙ sym (then_empty r₀ f (rw e at h))

  then_some : is_empty r ≡ false → f r.work ≡ and_then r₀ f
  then_some h = rw e (sym (then_live r₀ f (rw e at h)))

-- ---- the operations of a step, as the code makes them; k is the number of indices
module _ (c : ℕ) (c≤ : c ≤ 8) (w : Work) {k : ℕ} (k≡ : k ≡ suc c) where
  pub met_is : (L : Limits) {u : Work} {r : Reduced} → u ≡ meet_limits L c w → r ≡ reduce_of k u → r ≡ meet_of c L w
  unfolding meet_of
  met_is L e f = f ∙ (λ i. reduce_of (k≡ i) (e i))

  pub entered_none : (I : Limits) {r : Reduced} → r ≡ meet_of c I w → is_empty r ≡ true → r ≡ enter_of c I w
  unfolding enter_of
  entered_none I e f = then_none e (λ v. reduce_of (suc c) (raise_limits I c v)) f

  pub entered : (I : Limits) {r v : Reduced} {u : Work} → r ≡ meet_of c I w → is_empty r ≡ false → u ≡ raise_limits I c r.work → v ≡ reduce_of k u →
      v ≡ enter_of c I w
  unfolding enter_of
  entered I e f g h = h ∙ (λ i. reduce_of (k≡ i) (g i)) ∙ then_some e (λ v. reduce_of (suc c) (raise_limits I c v)) f

  pub followed_none : (G : Limits) (R : ℕ → Bool) (I : Limits) {r : Reduced} → r ≡ meet_of c G w → is_empty r ≡ true → r ≡ follow_of c G R I w
  unfolding follow_of
  followed_none G R I e f = then_none e (λ v. enter_of c I (reset_of (suc c) R v)) f

  pub followed : (G : Limits) (R : ℕ → Bool) (I : Limits) {r : Reduced} → r ≡ meet_of c G w → is_empty r ≡ false →
      enter_of c I (reset_of (suc c) R r.work) ≡ follow_of c G R I w
  unfolding follow_of
  followed G R I e f = then_some e (λ v. enter_of c I (reset_of (suc c) R v)) f

  -- ---- ranges
  pub met_ready : (L : Limits) → OnScale scale c L → Sized step_counts (suc c) w → {u : Work} → u ≡ meet_limits L c w → Ready u k
  met_ready L o r e =
      rw (k≡, e)
      (sized_ready step_counts (suc c) (omega arith) (omega arith) (omega arith) (meet_limits L c w)
      (sized_meet step_counts (suc c) (omega arith) (omega arith) (omega arith) w r c (omega arith) L o c (omega arith)))

  -- which middle indices are left out: none, or of a settled zone all
  pub none_begun : (u : Work) {m : ℕ} → m ≡ 0 → Begun k m u
  unfolding reduce_steps
  none_begun u e = rw e (record { most = omega arith; same = refl })

  pub all_begun : (L : Limits) → Settled (suc c) w → (meet_limits L c w).zone ≡ w.zone → {u : Work} → u ≡ meet_limits L c w → {m : ℕ} → m ≡ k →
      Begun k m u
  all_begun L h z e f = rw (f, k≡, e) (record {
    most = omega arith;
    same = settled_reduced (suc c) (meet_limits L c w) (limits_settled c (omega arith) L w h z) (suc c) (omega arith);
  })

  -- what lowers the safe fraction is in range, too
  pub met_safe : (P : ℕ) → 0 < P → P ≤ 10 * counts → (L : Limits) → OnScale scale c L → Sized P (suc c) w → {m : Reduced} → m ≡ meet_of c L w →
      Fits32 (safe_of m)
  unfolding meet_of
  met_safe P P> P≤ L o r e =
      rw e (safe_fits P (suc c) P> (omega arith) (omega arith) (meet_limits L c w)
      (sized_meet P (suc c) P> (omega arith) (omega arith) w r c (omega arith) L o c (omega arith)) (omega arith))

  -- after the guard or the invariant, error counts are ten times larger
  module _ (P : ℕ) (P> : 0 < P) (P≤ : P ≤ 10 * counts) (L : Limits) (o : OnScale scale c L)
      (r : Sized P (suc c) w) {m : Reduced} (e : m ≡ meet_of c L w) (live : is_empty m ≡ false) where
    pub met_sized : Sized (10 * P) (suc c) m.work
    unfolding meet_of
    met_sized =
        let q = sized_meet P (suc c) P> (omega arith) (omega arith) w r c (omega arith) L o c (omega arith) in
        rw e (sized_reduce P (suc c) P> (omega arith) (omega arith) (meet_limits L c w) q (omega arith) (rw e at live))

    pub raised_ready : ((x : ℕ) → 0 < x → x < suc c → L.hi x ≤ scale) → {u : Work} → u ≡ raise_limits L c m.work → Ready u k
    raised_ready h f =
        rw (k≡, f)
        (sized_ready (10 * P) (suc c) (omega arith) (omega arith) (omega arith) (raise_limits L c m.work)
        (sized_raise (10 * P) (suc c) (omega arith) (omega arith) (omega arith) m.work met_sized c (omega arith) L h))

    shaped : Shaped c w
    shaped = record { size = r.ranged.size; diagonal = r.ranged.diagonal }

    pub met_settled : Settled (suc c) m.work
    unfolding meet_of
    met_settled = rw e (reduced_settled c (omega arith) (meet_limits L c w) (meet_shaped 1 0 (omega arith) c (omega arith) L w shaped) (rw e at live))

    pub raised_lifted : ((x : ℕ) → 0 < x → x < suc c → L.absent x ≡ false) → {u : Work} → u ≡ raise_limits L c m.work → Lifted k u
    unfolding meet_of
    raised_lifted p f = rw (k≡, f, e) (raise_lifted c (omega arith) L p w r.ranged.size (rw e at met_settled))

  -- a reset zone, settled before, with error counts up to P
  module _ (P : ℕ) (P> : 0 < P) (P≤ : P ≤ step_counts) (S : ℕ → Bool) {u : Work} (e : u ≡ reset_of k S w) where
    pub reset_is : u ≡ reset_of (suc c) S w
    reset_is = e ∙ (λ i. reset_of (k≡ i) S w)

    pub reset_enters : Sized P (suc c) w × Settled (suc c) w → Sized P (suc c) u × Settled (suc c) u
    reset_enters h =
        rw reset_is (sized_reset P (suc c) P> (omega arith) (omega arith) w h.0 (omega arith) S, reset_settled (suc c) (omega arith) S w h.1)

-- ---- an accepted automaton's limits
firsts-length : (n : ℕ) (f : ℕ → Bool) → length (firsts n f) ≡ n
unfolding firsts
firsts-length zero f = refl
firsts-length (suc n) f = ap suc (firsts-length n (λ x. f (suc x)))

set-length : (x : ℕ) → length (reset_set x) ≡ 9
unfolding reset_set
set-length x = firsts-length 9 (in_byte x)

module _ (b : List ℕ) (a : Accepted b) where
  pub invariant_scale : (l : ℕ) → l < locations b → OnScale scale (clocks b) (invariant_of b l)
  invariant_scale l h = record { lo = λ x px hx. a.invariant_lo l x h px (omega arith); hi = λ x px hx p. a.invariant_hi l x h px (omega arith) }

  pub guard_scale : (i : ℕ) → i < edges b → OnScale scale (clocks b) (guard_of b i)
  guard_scale i h = record { lo = λ x px hx. a.guard_lo i x h px (omega arith); hi = λ x px hx p. a.guard_hi i x h px (omega arith) p }

  -- the set of clocks of an edge's reset byte, as the code reads it
  pub resets_are : (i : ℕ) → i < edges b → {r : List Bool} → r ≡ reset_set (reset_byte b i) → set_of r ≡ resets_of b i
  resets_are i h e = ap set_of e ∙ (λ k x. at x (dec_lt x 9) k)
    where
      at : (x : ℕ) → Dec (x < 9) → set_of (reset_set (reset_byte b i)) x ≡ resets_of b i x
      at x (yes p) = resets_at b i x p
      at x (no p) =
          get_or-eq_default (reset_set (reset_byte b i)) false (omega (arith, set-length (reset_byte b i)))
          ∙ sym (unreset _ a i x h (omega (arith, a.complete.clocks≤)))

-- ---- a constraint, as the code fetches it
pub one_more : {n m : ℕ} → n ≡ m → n + 1 ≡ suc m
one_more e = omega arith

module _ {b : List ℕ} {at : ℕ} {c : Constraint} (k : Constrains b at c) where
  pub meets : (w : Work) {r : Reduced} → r ≡ meet_of c.clocks (limits_at c.bytes.now c.at) w → r ≡ meet_of (clocks b) (limits_at b at) w
  meets w g = g ∙ (λ i. meet_of (k.clocks≡ i) (limits_at (k.bytes≡ i) (k.at≡ i)) w)

  pub raises : (w : Work) {u : Work} → u ≡ raise_limits (limits_at c.bytes.now c.at) c.clocks w → u ≡ raise_limits (limits_at b at) (clocks b) w
  raises w g = g ∙ (λ i. raise_limits (limits_at (k.bytes≡ i) (k.at≡ i)) (k.clocks≡ i) w)

  -- what `narrow` asks
  pub asks_limits : (w : Work) (P : ℕ) → OnScale scale (clocks b) (limits_at b at) → P ≤ step_counts → Sized P (suc (clocks b)) w →
      OnScale scale c.clocks (limits_at c.bytes.now c.at) × Sized step_counts (suc c.clocks) w
  asks_limits w P o p r = rw (k.clocks≡, k.bytes≡, k.at≡) (o, sized_more P step_counts (suc (clocks b)) w p r)

-- a settled zone is reset and comes to location l, whose invariant is I
module _ (b : List ℕ) (a : Accepted b) (l : ℕ) (hl : l < locations b) (w : Work)
    (h : Sized (10 * counts) (suc (clocks b)) w × Settled (suc (clocks b)) w) (S : ℕ → Bool)
    {I : Constraint} (k : Constrains b (invariant_at b l) I) where
  abbrev cleared : Work
  cleared = reset_of (suc (clocks b)) S w

  pub cleared_ready : Sized (10 * counts) (suc (clocks b)) cleared × Settled (suc (clocks b)) cleared
  cleared_ready =
      reset_enters (clocks b) a.complete.clocks≤ w refl (10 * counts) (omega arith) (omega arith) S refl h

  -- u is what the code makes of it, and r what `narrow` gives
  module _ {n : ℕ} (n≡ : n ≡ clocks b) {u : Work} (e : u ≡ reset_of (n + 1) S w) where
    cleared≡ : u ≡ cleared
    cleared≡ = e ∙ (λ i. reset_of (one_more n≡ i) S w)

    pub arrival_asks : OnScale scale I.clocks (limits_at I.bytes.now I.at) × Sized step_counts (suc I.clocks) u
    unfolding invariant_of
    arrival_asks = asks_limits k u (10 * counts) (invariant_scale b a l hl) (omega arith) (rw cleared≡ cleared_ready.0)

    pub arrival_settled : Settled (suc I.clocks) u
    arrival_settled = rw (k.clocks≡, cleared≡) cleared_ready.1

    pub arrival_met : {r : Reduced} → r ≡ meet_of I.clocks (limits_at I.bytes.now I.at) u → r ≡ meet_of (clocks b) (invariant_of b l) cleared
    unfolding invariant_of
    arrival_met g = meets k u g ∙ ap (meet_of (clocks b) (invariant_of b l)) cleared≡

  -- r is what `narrow` leaves of it, not empty, and v the wait in it
  module _ {r : Reduced} (met : r ≡ meet_of (clocks b) (invariant_of b l) cleared) (live : is_empty r ≡ false) {v : Work}
      (up : v ≡ raise_limits (limits_at I.bytes.now I.at) I.clocks r.work) {n : ℕ} (n≡ : n ≡ clocks b) where
    raised : v ≡ raise_limits (invariant_of b l) (clocks b) r.work
    unfolding invariant_of
    raised = raises k r.work up

    pub arrival_raised : Ready v (n + 1) × Lifted (n + 1) v
    arrival_raised = (
      raised_ready (clocks b) a.complete.clocks≤ cleared (one_more n≡) (10 * counts) (omega arith) (omega arith) (invariant_of b l)
          (invariant_scale b a l hl) cleared_ready.0 met live (λ x px hx. a.invariant_hi l x hl px (omega arith)) raised,
      raised_lifted (clocks b) a.complete.clocks≤ cleared (one_more n≡) (10 * counts) (omega arith) (omega arith) (invariant_of b l)
          (invariant_scale b a l hl) cleared_ready.0 met live (λ x px hx. a.invariant_present l x hl px (omega arith)) raised,
    )

    pub arrival_entered : {q : Reduced} → q ≡ reduce_of (n + 1) v → q ≡ enter_of (clocks b) (invariant_of b l) cleared
    arrival_entered g = entered (clocks b) a.complete.clocks≤ cleared (one_more n≡) (invariant_of b l) met live raised g
