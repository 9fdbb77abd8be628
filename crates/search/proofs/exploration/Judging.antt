-- A zone that has entered a location, judged on the store: what each branch of the code shows is what the definition's offer comes to.
-- Assumes nothing.
use Rattle.zones.specs.declared.pair.Pair.{Pair}
use Rattle.zones.specs.Reductions.{is_empty, safe_of}
use Prim.Native.Nat.{ℕ, zero, suc, ◌+◌, ◌-◌, ◌*◌, ◌<◌, ◌≤◌}
use mathlib.Core.Path.{◌≡◌, refl, sym, ap, ◌∙◌, subst}
use mathlib.Core.Bool.{Bool, true, false}
use mathlib.Core.List.{List, [], ◌∷◌, ◌++◌, append-nil}
use borrow.Author.Tests.{lt-ltb, le-ltb, eq-eqb, ne_eqb}
use lib.Dec.{eqb}
use lib.IntN.{ℤ, pos}
use lib.Signed.{◌≤ℤ◌}
use lib.ListN.{length, get_or, take, drop, replicate, length-append}
use native.Mathlib.Omega.{arith}
use native.Mathlib.Nat.{mul-le-mul_right, le_trans}
use Rattle.zones.specs.declared.fraction.Fraction.{Fraction}
use Rattle.zones.specs.declared.reduction.Reduced.{Reduced}
use Rattle.zones.specs.declared.zone.Work.{Work}
use Rattle.zones.specs.Containment.{equal, inside_below, largest_count}
use Rattle.zones.specs.Fractions.{no_limit, lowered_by}
use Rattle.std.specs.Prelude.{Option, Some}
use Rattle.std.specs.Option.{unwrap_or}
use Rattle.zones.specs.Ranges.{AllBounded, Sized, Fits32, counts, last_counts}
use Rattle.runs.specs.Limits.{scale}
use Rattle.search.specs.declared.outcome.Dropped.{Dropped}
use Rattle.search.specs.declared.outcome.Outcome.{Outcome}
use Rattle.search.specs.declared.outcome.Outcome.TheVariants.{Reached}
use Rattle.search.specs.Outcomes.{SearchTurn as Turn}
use Rattle.search.specs.Outcomes.{came_of, outcome_of, Honest, Few, most_offers}
use Rattle.search.specs.Outcomes.{dropped_with, emptied_by, contained_by, kept_by, reached_by, refused_by}
use Rattle.automata.specs.Accepted.{Accepted}
use Rattle.automata.specs.Numbers.{number}
use Rattle.automata.specs.declared.refusals.Refusal.{Refusal}
use Rattle.automata.specs.declared.refusals.Refusal.TheVariants.{ErrorCountTooLarge, StoreFull}
use Rattle.automata.specs.Automata.{clocks, locations, target}
use Rattle.automata.specs.declared.opened.Automaton.{Automaton}
use Rattle.automata.proofs.fields.Counting.{size≡}
use Rattle.search.specs.Exploring.{FirstHit, SoundNode, SoundState, Shown, Live, Continues, Led, node_at}
use Rattle.search.specs.Exploring as exploring
use Rattle.search.specs.Instance.{Fractions, fractions_of, ZoneState, ZoneNode, result_of, lowered_inside, overcounted, zones_of}
use Rattle.reachability.specs.Search as defined
use Rattle.reachability.specs.Search.{Came, first_zone, by_edge, Result, zone, reached, refused, ended, Nth, none, find, dropping, judge, offer}
use Rattle.automata.specs.Semantics.{system_of}
use Rattle.slots.specs.Slots.{slot_length, spare, pair_count, p_at, head_of, slot_of, zone_of, Framed}
use Rattle.slots.specs.Containing.{inside_of, largest_slot, Readable, ComparableSlots}
use Rattle.slots.specs.declared.containment.Inside.{Inside}
use Rattle.slots.specs.declared.slot.Origin.{Origin}
use Rattle.search.specs.Store.{origin_of, store_of}
use Rattle.reachability.proofs.Judged.{Judged, was_target, was_inside, was_big, was_kept, was_full, computes}
use Rattle.slots.proofs.slot.Codec.{head_size, slot_taken, slot_counts, slot_readable, slot_bounded, zone_of_slot, inside_slots_lem}
use Rattle.slots.proofs.slot.Codec.{equal_slots_lem, largest_slot_lem, slot_size, pairs_counted}
use Rattle.slots.proofs.slot.Loops.{slots_fit}
use Rattle.search.proofs.exploration.Stores.{slot_as, SlotAt, slot_at, store_length, store_more, hit_none, hit_first, slot_fits, lent_part}
use Rattle.search.proofs.exploration.Stores.{slot_lent, lent_slot, hit_inside}

-- what shows a state shows another of the same zones, where it has that one's fractions, counts and outcome
shown_with : {n : ℕ} {s₀ : List ℤ} {q : ZoneState} {s : List ℤ} {t : Turn} → Shown n s₀ q s t →
    {f : Fractions} {exact safe : Fraction} → exact ≡ f.exact → safe ≡ f.safe →
    {again inside : ℕ} {dropped : Dropped} → dropped.again ≡ again → dropped.inside ≡ inside →
    {x : defined.Outcome} {o : Outcome Refusal} → outcome_of o ≡ x → Honest o →
    Shown n s₀ (record { kept = q.kept; frac = f; outcome = x; again = again; inside = inside }) s
    (record { count = t.count; exact = exact; safe = safe; dropped = dropped; outcome = o })
shown_with d e g a i x h = record {
  number = d.number;
  store = d.store;
  exact = e;
  safe = g;
  again = a;
  inside = i;
  outcome = x;
  honest = h;
}

-- the outcome that tells the origin is the definition's
pub came_back : (c : Came) → came_of (origin_of c) ≡ c
unfolding came_of origin_of
came_back first_zone = refl
came_back (by_edge j i) = refl

met_by : {o : Origin} {c : Came} → origin_of c ≡ o → outcome_of (Reached o) ≡ ended (reached c)
unfolding outcome_of
met_by {c = c} e = ap (λ x. ended (reached x)) (ap came_of (sym e) ∙ came_back c)

well_told : {o : Origin} (c : Came) → origin_of c ≡ o → origin_of (came_of o) ≡ o
well_told c e = ap origin_of (ap came_of (sym e) ∙ came_back c) ∙ e

-- the element at a place that is there
pub record At {X : Type 0} (xs : List X) (j : ℕ) : Type 0 where
  pub node : X
  pub nth : Nth xs j node

pub nth_at : {X : Type 0} (xs : List X) (j : ℕ) → j < length xs → At xs j
nth_at [] j h = absurd (omega arith)
nth_at (x ∷ xs) zero h = record { node = x; nth = refl }
nth_at (x ∷ xs) (suc j) h = let r = nth_at xs j (omega arith) in record { node = r.node; nth = r.nth }

module _ (b : List ℕ) (a : Accepted b) where
  abbrev n : ℕ
  n = suc (clocks b)

  pub n≤ : suc (clocks b) ≤ 9
  n≤ = omega (arith, a.complete.clocks≤)

  -- ---- what the store shows
  pub stored_slot : {s₀ : List ℤ} {q : ZoneState} {s : List ℤ} {turn : Turn} → Shown n s₀ q s turn → (j : ℕ) (k : ZoneNode) →
      Nth q.kept j k → SlotAt n n≤ s j k
  stored_slot {s₀} {q} d j k m = rw d.store (slot_at n n≤ q.kept s₀ j k m)

  -- the length of the store stays
  pub live-length : {capacity : ℕ} {s₀ : List ℤ} {q : ZoneState} {s : List ℤ} {turn : Turn} → capacity * slot_length n ≤ length s₀ →
      Shown n s₀ q s turn → SoundState b capacity q → length s ≡ length s₀
  live-length {s₀ = s₀} {q = q} h d o = ap length d.store ∙ store_length n n≤ q.kept s₀ (le_trans (mul-le-mul_right (slot_length n) o.most) h)

  -- and it has the slots
  pub live_slots : {capacity : ℕ} {s₀ : List ℤ} {q : ZoneState} {s : List ℤ} {turn : Turn} → capacity * slot_length n ≤ length s₀ →
      Live b capacity s₀ q s turn → turn.count * slot_length n ≤ length s
  live_slots {capacity} {turn = turn} h d =
      let c : turn.count ≤ capacity = omega (arith, d.shown.number, d.sound.most) in
      omega (arith, h, live-length h d.shown d.sound, mul-le-mul_right (slot_length n) c)

  module _ {capacity offers : ℕ} {s : List ℤ} {turn : Turn} (i : exploring.Going b capacity offers s turn) where
    pub going_length : length s ≡ length i.base
    going_length = live-length i.long i.live.shown i.live.sound

    going_room : capacity * slot_length n ≤ length s
    going_room = omega (arith, i.long, going_length)

    going_count : turn.count ≤ capacity
    going_count = omega (arith, i.live.shown.number, i.live.sound.most)

    pub going_safe : Fits32 turn.safe
    going_safe = subst Fits32 (sym i.live.shown.safe) i.live.sound.safe

    pub going_slots : turn.count * slot_length n ≤ length s
    going_slots = live_slots i.long i.live

  -- ---- a slot read back
  module _ (s : List ℤ) (j at : ℕ) (k : ZoneNode) (e : at ≡ j * slot_length n) (t : SlotAt n n≤ s j k) where
    part : take (length s - at) (drop at s) ≡ slot_as n k ++ t.rest
    part = lent_part s at ∙ ap (λ (i : ℕ). drop i s) e ∙ t.same

    pub read_counts : (m : ℕ) → m < n * n → pos 0 ≤ℤ get_or (take (length s - at) (drop at s)) (p_at m) (pos 0)
    read_counts m h =
        rw part (slot_counts n (head_of k.at (origin_of k.came)) (head_size k.at (origin_of k.came)) k.zone t.rest n≤ m h)

    pub read_zone : SoundNode b k → zone_of n (take (length s - at) (drop at s)) ≡ k.zone
    read_zone h =
        let o = origin_of k.came in
        rw part (zone_of_slot n (head_of k.at o) (head_size k.at o) k.zone t.rest n≤ h.ranged.size h.framed)

  pub node_bounded : (k : ZoneNode) → SoundNode b k → AllBounded scale last_counts n k.zone
  node_bounded k h x y hx hy = record { m = (h.ranged.bounded x y hx hy).m; p = omega (arith, (h.ranged.bounded x y hx hy).p) }

  -- ---- the zone to be judged, in the state q that the store and the turn show
  module _ {capacity : ℕ} {s₀ : List ℤ} {q : ZoneState} {s : List ℤ} {turn : Turn} (d : Live b capacity s₀ q s turn)
      {l : ℕ} (away : l ≡ target b → ⊥) (w : Work) {o : Origin} (p : Led o) (rest : List ℤ)
      {j : ℕ} (h : FirstHit n (slot_of n (head_of l o) w.zone ++ rest) s turn.count j) where
    first : FirstHit n (slot_of n (head_of l o) w.zone ++ rest) (store_of n q.kept s₀) (length q.kept) j
    first = rw (d.shown.store, d.shown.number) at h

    abbrev to_judge : ZoneNode
    to_judge = node_at l p.came p.path w.zone

    abbrev after : ZoneState
    after = judge (system_of b) (zones_of b) capacity q to_judge (fractions_of w.fraction turn.safe)

    off : eqb l (target b) ≡ false
    off = ne_eqb l (target b) away

    -- it comes to q', which the turn r and the store s' show
    shows : {s' : List ℤ} {r : Turn} {q' : ZoneState} →
        Judged (system_of b) (zones_of b) capacity q to_judge (fractions_of w.fraction turn.safe) q' → Shown n s₀ q' s' r → Shown n s₀ after s' r
    shows {s'} {r} was e = subst (λ (x : ZoneState). Shown n s₀ x s' r) (sym (computes (system_of b) (zones_of b) was)) e

    -- a state with the same zones, refused by k
    stopped_by : {k : Refusal} →
        Shown n s₀ (defined.stopped q (fractions_of w.fraction turn.safe) (refused (number k))) s (refused_by turn w.fraction k)
    unfolding outcome_of
    stopped_by = shown_with d.shown refl refl d.shown.again d.shown.inside refl tt

    -- and one with one zone dropped
    dropped_as : (x : Inside) {f : Fractions} {u : Bool} → x.equal ≡ u → lowered_by w.fraction x.below ≡ f.exact →
        lowered_by turn.safe x.below ≡ f.safe → Shown n s₀ (dropping q f u) s (contained_by turn w.fraction x)
    unfolding outcome_of dropping dropped_with
    dropped_as x {u = true} e f g = rw e (shown_with d.shown f g (omega (arith, d.shown.again)) d.shown.inside refl tt)
    dropped_as x {u = false} e f g = rw e (shown_with d.shown f g d.shown.again (omega (arith, d.shown.inside)) refl tt)

    -- it is inside a kept one: the oldest such counts
    judged_inside : j < turn.count → {L : ℕ} → L ≡ slot_length n → {x : Inside} →
        x ≡ inside_of (slot_of n (head_of l o) w.zone ++ rest) (slot_lent L j s) (n * n) →
        Shown n s₀ after s (contained_by turn w.fraction x)
    unfolding lowered_inside
    judged_inside hj e g =
        let m = nth_at q.kept j (omega (arith, d.shown.number)) in
        let k = lent_slot n n≤ s j m.node e (stored_slot d.shown j m.node m.nth) in
        let hd = head_of m.node.at (origin_of m.node.came) in
        let hd≡ = head_size m.node.at (origin_of m.node.came) in
        let f : _ ≡ inside_below n w.zone m.node.zone =
        ap (λ (x : Inside). x.below) g ∙ rw k (inside_slots_lem n (head_of l o) (head_size l o) w.zone rest hd hd≡ m.node.zone [] n≤) in
        let v : _ ≡ equal n w.zone m.node.zone =
        ap (λ (x : Inside). x.equal) g ∙ rw k (equal_slots_lem n (head_of l o) (head_size l o) w.zone rest hd hd≡ m.node.zone [] n≤) in
        shows (was_inside m.node off (hit_first b n≤ l o w.zone q.kept s₀ rest j first m.node m.nth))
        (dropped_as _ v (ap (lowered_by w.fraction) f) (ap (lowered_by turn.safe) f))

    -- no kept one contains it
    module _ (out : turn.count ≤ j) where
      alone : find (system_of b) (zones_of b) q.kept l w.zone ≡ none
      alone = hit_none b n≤ l o w.zone q.kept s₀ rest j first (omega (arith, d.shown.number))

      judged_big : counts < largest_count n w.zone → Shown n s₀ after s (refused_by turn w.fraction ErrorCountTooLarge)
      unfolding overcounted
      judged_big g = shows (was_big off alone (lt-ltb counts (largest_count n w.zone) g)) stopped_by

      module _ (small : largest_count n w.zone ≤ counts) where
        counted : overcounted b w.zone ≡ false
        unfolding overcounted
        counted = le-ltb counts (largest_count n w.zone) small

        judged_full : capacity ≤ turn.count → Shown n s₀ after s (refused_by turn w.fraction StoreFull)
        judged_full r = shows (was_full off alone counted (omega (arith, d.shown.number))) stopped_by

        judged_kept : turn.count < capacity → {at : ℕ} {s' : List ℤ} → at ≡ turn.count * slot_length n →
            s' ≡ take at s ++ (slot_of n (head_of l o) w.zone ++ drop (at + slot_length n) s) →
            Shown n s₀ after s' (kept_by turn w.fraction)
        unfolding outcome_of
        judged_kept r {at} e f =
            let told : slot_of n (head_of l o) w.zone ≡ slot_as n to_judge = ap (λ (x : Origin). slot_of n (head_of l x) w.zone) (sym p.told) in
            let m = store_more n n≤ q.kept to_judge s₀ at (e ∙ ap (λ (c : ℕ). c * slot_length n) d.shown.number) in
            shows (was_kept off alone counted (omega (arith, d.shown.number))) (record {
              number = omega (arith, d.shown.number, length-append q.kept (to_judge ∷ []));
              store = f ∙ (λ i. take at (d.shown.store i) ++ (told i ++ drop (at + slot_length n) (d.shown.store i))) ∙ m;
              exact = refl;
              safe = refl;
              again = d.shown.again;
              inside = d.shown.inside;
              outcome = refl;
              honest = tt;
            })

-- ---- the same, as the code has it: w has entered l, which is not the target, and `size` is the number of indices
pub record Entered (b : List ℕ) (l : ℕ) (o : Origin) (w : Work) (capacity : ℕ) (turn : Turn) (s : List ℤ) (size : ℕ) : Type 0 where
  pub accepted : Accepted b
  pub location : l < locations b
  pub away : l ≡ target b → ⊥
  pub sized : Sized last_counts (suc (clocks b)) w
  pub progress : exploring.Going b capacity most_offers s turn
  pub size≡ : size ≡ suc (clocks b)

-- by what `judge` requires
pub enters : (A : Automaton) (o : Origin) {l : ℕ} {w : Work} {capacity : ℕ} {turn : Turn} {s : List ℤ} →
    (l < locations A.bytes.now) × (l ≡ target A.bytes.now → ⊥) → exploring.Going A.bytes.now capacity most_offers s turn →
    Sized last_counts (suc (clocks A.bytes.now)) w × Framed (suc (clocks A.bytes.now)) w.zone →
    Entered A.bytes.now l o w capacity turn s (A.clocks + 1)
enters A o there going sized = record {
  accepted = A.accepted;
  location = there.0;
  away = there.1;
  sized = sized.0;
  progress = going;
  size≡ = size≡ A.counted;
}

module _ {b : List ℕ} {l : ℕ} {o : Origin} {w : Work} {capacity : ℕ} {turn : Turn} {s : List ℤ} {size : ℕ}
    (entered : Entered b l o w capacity turn s size) where
  abbrev a : Accepted b
  a = entered.accepted

  abbrev i : exploring.Going b capacity most_offers s turn
  i = entered.progress

  abbrev es : size ≡ suc (clocks b)
  es = entered.size≡

  -- the slot of w, which is the first L numbers that encode gives
  module _ {numbers : List ℤ} (f : numbers ≡ slot_of size (head_of l o) w.zone ++ replicate (spare size) (pos 0))
      {L : ℕ} (e : L ≡ slot_length size) where
    abbrev new : List ℤ
    new = take L numbers

    new≡ : new ≡ slot_of (n b a) (head_of l o) w.zone ++ []
    new≡ =
        rw (e, f) (slot_taken size (head_of l o) (head_size l o) w.zone _ (omega (arith, es, n≤ b a)))
        ∙ ap (λ (k : ℕ). slot_of k (head_of l o) w.zone) es ∙ sym (append-nil _)

    long : length new ≡ slot_length (n b a)
    long = ap length (new≡ ∙ append-nil _) ∙ slot_size _ (head_of l o) (head_size l o) w.zone (n≤ b a)

    pub new_length : length new ≡ slot_length size
    new_length = long ∙ ap slot_length (sym es)

    new_pairs : pair_count new ≡ n b a * n b a
    new_pairs = pairs_counted (n b a) new long

    pub asks_largest : Readable new (pair_count new)
    asks_largest = rw (new_pairs, new≡) (slot_readable _ (head_of l o) (head_size l o) w.zone [] (n≤ b a))

    pub asks_find : (size ≤ 9) × (turn.count * slot_length size ≤ length s) × (length new ≡ slot_length size)
    asks_find = (omega (arith, es, n≤ b a), rw es (going_slots b a i), new_length)

  -- a slot for which there is room: the next one, or one among the first `count`
  pub next_within : {j per-slot : ℕ} → per-slot ≡ slot_length size → j < capacity → j * per-slot + slot_length size ≤ length s
  next_within e h = rw (e, es) (slot_fits (slot_length (suc (clocks b))) h (going_room b a i) refl)

  pub slot_within : {j per-slot : ℕ} → per-slot ≡ slot_length size → j < turn.count → j * per-slot + slot_length size ≤ length s
  slot_within e h = next_within e (omega (arith, going_count b a i))

  -- what each branch gives
  module _ {numbers : List ℤ} (f : numbers ≡ slot_of size (head_of l o) w.zone ++ replicate (spare size) (pos 0))
      {L : ℕ} (e : L ≡ slot_length size) {j : ℕ} (h : FirstHit size (take L numbers) s turn.count j) where
    abbrev slot : List ℤ
    slot = new f e

    here : L ≡ slot_length (n b a)
    here = e ∙ ap slot_length es

    hits : FirstHit (n b a) (slot_of (n b a) (head_of l o) w.zone ++ []) s turn.count j
    hits = rw (es, new≡ f e) at h

    abbrev op : Led o → ZoneState → ZoneState
    op p q = judge (system_of b) (zones_of b) capacity q (node_at l p.came p.path w.zone) (fractions_of w.fraction turn.safe)

    module _ (hj : j < turn.count) where
      pub asks_inside : ComparableSlots slot (slot_lent L j s) (pair_count slot)
      asks_inside =
          let d = i.live.shown in
          let m = nth_at i.state.kept j (omega (arith, d.number)) in
          let k = m.node in
          let t = stored_slot b a d j k m.nth in
          let old≡ = lent_slot _ (n≤ b a) s j k here t in
          let inside = hit_inside (n b a) _ s j here (long f e) (rw es at (h.found hj)) in
          rw (new_pairs f e, new≡ f e, old≡) (record {
            new_reads = slot_readable _ (head_of l o) (head_size l o) w.zone [] (n≤ b a);
            old_reads = slot_readable _ (head_of k.at (origin_of k.came)) (head_size k.at (origin_of k.came)) k.zone [] (n≤ b a);
            new_bounded = slot_bounded _ (head_of l o) (head_size l o) w.zone [] scale last_counts (n≤ b a) entered.sized.ranged.bounded;
            old_bounded = slot_bounded _ (head_of k.at (origin_of k.came)) (head_size k.at (origin_of k.came)) k.zone []
                scale last_counts (n≤ b a)
                (node_bounded b a k (i.live.sound.nodes j k m.nth));
            inside = rw (new_pairs f e, new≡ f e, old≡) at inside;
          })

      module _ {x : Inside} (gives : x ≡ inside_of slot (slot_lent L j s) (pair_count slot)) where
        pub asks_drop : Fits32 w.fraction × Fits32 turn.safe × Fits32 x.below × Few most_offers turn.dropped
        asks_drop = (entered.sized.narrow, going_safe b a i, rw gives (slots_fit _ _ _ asks_inside), i.dropped)

        pub gives_inside : {r : Turn} → r ≡ contained_by turn w.fraction x → (p : Led o) → Continues b capacity s turn (op p) s r
        gives_inside g p = record {
          shows = λ s₀ q d. rw g (judged_inside b a d entered.away w p _ hits hj here
              (gives ∙ (λ i. inside_of (new≡ f e i) (slot_lent L j s) (new_pairs f e i))));
        }

    module _ (out : turn.count ≤ j) {most : ℕ} (em : most ≡ largest_slot slot (pair_count slot)) where
      largest : most ≡ largest_count (n b a) w.zone
      largest = em ∙ (λ i. largest_slot (new≡ f e i) (new_pairs f e i)) ∙ largest_slot_lem _ (head_of l o) (head_size l o) w.zone _ (n≤ b a)

      pub gives_big : counts < most → (p : Led o) →
          Continues b capacity s turn (op p) s (refused_by turn w.fraction ErrorCountTooLarge)
      gives_big g p = record { shows = λ s₀ q d. judged_big b a d entered.away w p _ hits out (rw largest at g) }

      pub gives_full : most ≤ counts → capacity ≤ turn.count → (p : Led o) →
          Continues b capacity s turn (op p) s (refused_by turn w.fraction StoreFull)
      gives_full g r p = record { shows = λ s₀ q d. judged_full b a d entered.away w p _ hits out (rw largest at g) r }

      pub gives_kept : most ≤ counts → turn.count < capacity → {s' : List ℤ} →
          s' ≡ take (turn.count * L) s ++ (slot ++ drop (turn.count * L + length slot) s) → (p : Led o) →
          Continues b capacity s turn (op p) s' (kept_by turn w.fraction)
      gives_kept g r k p =
          let whole = new≡ f e ∙ append-nil _ in
          record {
            shows = λ s₀ q d. judged_kept b a d entered.away w p _ hits out (rw largest at g) r (ap (λ (x : ℕ). turn.count * x) here)
                (k ∙ (λ i. take (turn.count * L) s ++ (whole i ++ drop (turn.count * L + long f e i) s)));
          }

-- ---- the whole offer
-- an empty zone's fraction, as the code has it
pub lowers : (turn : Turn) (exact : Fraction) {safe : Fraction} {o : Option Fraction} → o ≡ Some safe →
    emptied_by turn exact safe ≡ emptied_by turn exact (unwrap_or o no_limit)
lowers turn exact e = ap (λ (o : Option Fraction). emptied_by turn exact (unwrap_or o no_limit)) (sym e)

module _ (b : List ℕ) (capacity : ℕ) (s : List ℤ) (turn : Turn) (l : ℕ) {o : Origin} (r : Reduced) (p : Led o) where
  abbrev offers : ZoneState → ZoneState
  offers q = offer (system_of b) (zones_of b) capacity q (node_at l p.came p.path) (result_of turn.safe r)

  pub gives_empty : is_empty r ≡ true → {t : Turn} → t ≡ emptied_by turn r.work.fraction (safe_of r) → Continues b capacity s turn offers s t
  unfolding result_of offer outcome_of
  gives_empty e f = record {
    shows = λ s₀ q d. rw (e, f) (shown_with d.shown refl refl d.shown.again d.shown.inside refl tt);
  }

  pub gives_target : is_empty r ≡ false → l ≡ target b → Continues b capacity s turn offers s (reached_by turn r.work.fraction o)
  unfolding result_of offer outcome_of
  gives_target e g = record {
    shows =
        λ s₀ q d. rw e
        (subst (λ (x : ZoneState). Shown (suc (clocks b)) s₀ x s (reached_by turn r.work.fraction o))
        (sym (computes (system_of b) (zones_of b) (was_target (eq-eqb l (target b) g))))
        (shown_with d.shown refl refl d.shown.again d.shown.inside (met_by p.told) (well_told p.came p.told)));
  }

  pub gives_judged : is_empty r ≡ false → {s' : List ℤ} {t : Turn} →
      ((p : Led o) → Continues b capacity s turn
      (λ q. judge (system_of b) (zones_of b) capacity q (node_at l p.came p.path r.work.zone)
      (fractions_of r.work.fraction turn.safe)) s' t) →
      Continues b capacity s turn offers s' t
  unfolding result_of offer
  gives_judged e {s'} {t} h =
      let live : zone r.work.zone (fractions_of r.work.fraction turn.safe) ≡ result_of turn.safe r = rw e refl in
      subst (λ (x : Result (List Pair) Fractions). Continues b capacity s turn
      (λ q. offer (system_of b) (zones_of b) capacity q (node_at l p.came p.path) x) s' t) live (h p)
