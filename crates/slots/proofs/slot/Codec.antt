-- Slots: their size, what stands where in one, that a zone comes back out of its slot, and that two slots compared, the lowest threshold of a
-- containment test and the largest error count are those of their zones.
-- Assumes nothing.
use Prim.Native.Nat.{ℕ, zero, suc, ◌+◌, ◌-◌, ◌*◌, ◌%◌, ◌<◌, ◌≤◌, min}
use mathlib.Core.Path.{◌≡◌, refl, sym, ap, ◌∙◌, subst}
use mathlib.Core.Bool.{Bool, true, false, cond}
use mathlib.Core.List.{List, [], ◌∷◌, ◌++◌, append_assoc}
use borrow.Author.Tests.{lt-ltb, le-ltb, ltb-true, ltb-false}
use lib.Dec.{ltb}
use lib.IntN.{ℤ, pos}
use lib.ListN.{length, get_or, take, set, replicate, length-append, length-set, length-replicate, get_or-replicate}
use lib.Seq.{take_at, get_or_at, append_snoc, get_or-set_same, get_or-set_other, ext_get_or}
use lib.Signed.{◌≤ℤ◌, ◌<ℤ◌}
use native.Mathlib.Decide.{ℕ_discrete, dec_lt}
use native.Mathlib.Nat.{not-suc-le-zero}
use native.Mathlib.Omega.{arith}
use Rattle.zones.specs.declared.pair.Pair.{Pair}
use Rattle.zones.specs.Containment.{place_of, compare_at, every_to, within, equal, inside_to, inside_below, count_to, largest_count}
use Rattle.zones.specs.Integers.{up}
use Rattle.zones.proofs.pairs.Integers.{int, le_make}
use Rattle.zones.specs.Fractions.{lowered_by}
use Rattle.std.specs.Ordering.{MatchOrdering, ordering_then, int_cmp, nat_cmp}
use Rattle.std.proofs.lemmas.Cmp.{ranked}
use Rattle.std.proofs.lemmas.List.{get_or-take}
use Rattle.std.specs.declared.cmp.Ordering.{Ordering}
use Rattle.std.specs.declared.cmp.Ordering.TheVariants.{Less, Equal, Greater}
use Rattle.std.specs.Cmp.{int_cmp_is}
use Rattle.zones.specs.Pairs.{zero_pair, compare_of, is_at_most, is_equal, threshold_of}
use Rattle.zones.specs.Ranges.{AllBounded, Bounded}
use Rattle.zones.proofs.places.Inside.{bounded_place}
use Rattle.zones.proofs.sets.Squares.{up_to}
use Rattle.slots.specs.Slots.{fields, slot_length, spare, m_at, p_at, pairs_to, pairs_of, flat, head_of, slot_of, slot_location, slot_pair, counted}
use Rattle.slots.specs.Slots.{slot_origin, pair_count, square_to, zone_of, Framed}
use Rattle.slots.specs.declared.slot.Origin.{Origin}
use Rattle.slots.specs.Containing.{compare_numbers, every_pair, within_slots, equal_slots, inside_slots, largest_slot, Readable}

-- ---- how many places count
module _ (n : ℕ) where
  pub counted_in : (k : ℕ) → k % 9 < n → counted n (suc k) ≡ suc (counted n k)
  unfolding counted
  counted_in k h = rw (lt-ltb (k % 9) n h)

  pub counted_out : (k : ℕ) → n ≤ k % 9 → counted n (suc k) ≡ counted n k
  unfolding counted
  counted_out k h = rw (le-ltb (k % 9) n h)

  -- by rows
  pub row_counted : (a b : ℕ) → b ≤ 9 → counted n (b + a * 9) ≡ min b n + counted n (a * 9)
  row_counted a zero h = let e : 0 + a * 9 ≡ a * 9 = omega arith in rw e (omega arith)
  row_counted a (suc b) h = go (row_counted a b (omega arith)) (dec_lt b n)
    where
      e : suc b + a * 9 ≡ suc (b + a * 9)
      e = omega arith

      go : counted n (b + a * 9) ≡ min b n + counted n (a * 9) → Dec (b < n) → counted n (suc b + a * 9) ≡ min (suc b) n + counted n (a * 9)
      go ih (yes p) = rw e (omega (arith, counted_in (b + a * 9) (omega arith)))
      go ih (no p) = rw e (omega (arith, counted_out (b + a * 9) (omega arith)))

  pub rows_counted : n ≤ 9 → (a : ℕ) → counted n (a * 9) ≡ a * n
  unfolding counted
  rows_counted h zero = omega arith
  rows_counted h (suc a) =
      let e : suc a * 9 ≡ 9 + a * 9 = omega arith in
      let f : suc a * n ≡ n + a * n = omega arith in
      rw (e, f) (omega (arith, row_counted a 9 (omega arith), rows_counted h a))

  pub counted_all : n ≤ 9 → counted n (n * 9) ≡ n * n
  counted_all h = rows_counted h n

  -- what holds of the first k places and their number t, place by place, holds of all
  counted_ind : (P : ℕ → ℕ → Type 0) → P 0 0 →
      ((k : ℕ) → k < n * 9 → k % 9 < n → P k (counted n k) → P (suc k) (suc (counted n k))) →
      ((k : ℕ) → n ≤ k % 9 → P k (counted n k) → P (suc k) (counted n k)) → n ≤ 9 → P (n * 9) (n * n)
  unfolding counted
  counted_ind P p f g n≤ = rw (← counted_all n≤) (to (n * 9) (omega arith))
    where
      to : (k : ℕ) → k ≤ n * 9 → P k (counted n k)
      to zero h = p
      to (suc k) h = go (to k (omega arith)) (ltb (k % 9) n) refl
        where
          go : P k (counted n k) → (t : Bool) → ltb (k % 9) n ≡ t → P (suc k) (cond t (suc (counted n k)) (counted n k))
          go ih true e = f k h (ltb-true (k % 9) n e) ih
          go ih false e = g k (ltb-false (k % 9) n e) ih

-- ---- the pairs of a zone, row by row
module _ (n : ℕ) (z : List Pair) where
  pub pairs_in : (k : ℕ) → k % 9 < n → pairs_to n (suc k) z ≡ pairs_to n k z ++ (place_of z k ∷ [])
  unfolding pairs_to
  pairs_in k h = rw (lt-ltb (k % 9) n h)

  pub pairs_out : (k : ℕ) → n ≤ k % 9 → pairs_to n (suc k) z ≡ pairs_to n k z
  unfolding pairs_to
  pairs_out k h = rw (le-ltb (k % 9) n h)

  pub pairs_length : (k : ℕ) → length (pairs_to n k z) ≡ counted n k
  unfolding pairs_to counted
  pairs_length zero = refl
  pairs_length (suc k) = go (pairs_length k) (ltb (k % 9) n)
    where
      go : length (pairs_to n k z) ≡ counted n k → (t : Bool) →
          length (cond t (pairs_to n k z ++ (place_of z k ∷ [])) (pairs_to n k z)) ≡ cond t (suc (counted n k)) (counted n k)
      go ih true = omega (arith, length-append (pairs_to n k z) (place_of z k ∷ []))
      go ih false = ih

  -- what comes before a place that counts, the place, and what comes after it
  pairs_split : (k d : ℕ) → k % 9 < n → (qs : List Pair) × (pairs_to n (d + suc k) z ≡ pairs_to n k z ++ (place_of z k ∷ qs))
  pairs_split k zero h = ([], let e : zero + suc k ≡ suc k = omega arith in rw e (pairs_in k h))
  pairs_split k (suc d) h = let s = pairs_split k d h in go s.0 s.1 (dec_lt ((d + suc k) % 9) n)
    where
      e : suc d + suc k ≡ suc (d + suc k)
      e = omega arith

      go : (qs : List Pair) → pairs_to n (d + suc k) z ≡ pairs_to n k z ++ (place_of z k ∷ qs) → Dec ((d + suc k) % 9 < n) →
          (qs : List Pair) × (pairs_to n (suc d + suc k) z ≡ pairs_to n k z ++ (place_of z k ∷ qs))
      go qs s (yes p) = (qs ++ (place_of z (d + suc k) ∷ []), rw e (pairs_in (d + suc k) p ∙ rw (s, append_assoc)))
      go qs s (no p) = (qs, rw e (pairs_out (d + suc k) (omega arith) ∙ s))

-- ---- their numbers
pub flat-length : (l : List Pair) → length (flat l) ≡ 2 * length l
unfolding flat
flat-length [] = refl
flat-length (q ∷ qs) = omega (arith, flat-length qs)

pub flat_append : (a b : List Pair) → flat (a ++ b) ≡ flat a ++ flat b
unfolding flat
flat_append [] b = refl
flat_append (q ∷ qs) b = rw (flat_append qs b)

-- ---- a slot that begins with the numbers hd, and whatever follows it in the store
module _ (n : ℕ) (hd : List ℤ) (hd≡ : length hd ≡ fields) (z : List Pair) where
  pub slot_size : n ≤ 9 → length (slot_of n hd z) ≡ slot_length n
  unfolding slot_of
  slot_size h = length-append hd (flat (pairs_of n z)) ∙ omega (arith, flat-length (pairs_of n z), pairs_length n z (n * 9), counted_all n h)

  module _ (rest : List ℤ) where
    pub slot_taken : n ≤ 9 → take (slot_length n) (slot_of n hd z ++ rest) ≡ slot_of n hd z
    slot_taken h = take_at (slot_of n hd z) rest (slot_length n) (slot_size h)

    -- the numbers of a place that counts
    slot_split : (k : ℕ) → k < n * 9 → k % 9 < n →
        (qs : List Pair) × (slot_of n hd z ++ rest ≡ (hd ++ flat (pairs_to n k z)) ++ ((place_of z k).m ∷ pos (place_of z k).p ∷ (flat qs ++ rest)))
    unfolding slot_of flat
    slot_split k h c =
        let s = pairs_split n z k (n * 9 - suc k) c in
        let e : (n * 9 - suc k) + suc k ≡ n * 9 = omega arith in
        let f : pairs_of n z ≡ pairs_to n k z ++ (place_of z k ∷ s.0) = rw e at s.1 in
        (s.0, rw f (simp (flat_append, append_assoc)))

    before_place : (k : ℕ) → length (hd ++ flat (pairs_to n k z)) ≡ m_at (counted n k)
    before_place k = length-append hd (flat (pairs_to n k z)) ∙ omega (arith, flat-length (pairs_to n k z), pairs_length n z k)

    slot_m : (k : ℕ) → k < n * 9 → k % 9 < n → get_or (slot_of n hd z ++ rest) (m_at (counted n k)) (pos 0) ≡ (place_of z k).m
    slot_m k h c =
        let s = slot_split k h c in
        rw s.1 (get_or_at (hd ++ flat (pairs_to n k z)) (place_of z k).m _ (pos 0) (m_at (counted n k)) (before_place k))

    slot_p : (k : ℕ) → k < n * 9 → k % 9 < n → get_or (slot_of n hd z ++ rest) (p_at (counted n k)) (pos 0) ≡ pos (place_of z k).p
    slot_p k h c =
        let s = slot_split k h c in
        let front : List ℤ = hd ++ flat (pairs_to n k z) in
        let q = place_of z k in
        rw s.1 (rw (← append_snoc front q.m (pos q.p ∷ (flat s.0 ++ rest)))
        (get_or_at (front ++ (q.m ∷ [])) (pos q.p) _ (pos 0) (p_at (counted n k)) (length-append front (q.m ∷ []) ∙ omega (arith, before_place k))))

    slot_pair_at : (k : ℕ) → k < n * 9 → k % 9 < n → slot_pair (slot_of n hd z ++ rest) (counted n k) ≡ place_of z k
    slot_pair_at k h c = let e = slot_m k h c in let f = slot_p k h c in λ i. record { m = e i; p = up (f i) }

    -- what every place that counts gives its pair, every pair has
    module _ (P : ℕ → Type 0) (each : (k : ℕ) → k < n * 9 → k % 9 < n → P (counted n k)) where
      every_pair_lem : n ≤ 9 → (t : ℕ) → t < n * n → P t
      every_pair_lem =
          counted_ind n (λ k c. (t : ℕ) → t < c → P t) (λ t h. absurd (not-suc-le-zero h))
          (λ k h c ih. up_to P (counted n k) ih (each k h c)) (λ k c ih. ih)

    pub slot_counts : n ≤ 9 → (t : ℕ) → t < n * n → pos 0 ≤ℤ get_or (slot_of n hd z ++ rest) (p_at t) (pos 0)
    slot_counts =
        every_pair_lem (λ t. pos 0 ≤ℤ get_or (slot_of n hd z ++ rest) (p_at t) (pos 0))
        (λ k h c. rw (slot_p k h c) (le_make (pos 0) (pos (place_of z k).p) (omega arith)))

    pub slot_bounded : (C P : ℕ) → n ≤ 9 → AllBounded C P n z → (t : ℕ) → t < n * n → Bounded C P (slot_pair (slot_of n hd z ++ rest) t)
    slot_bounded C P n≤ b =
        every_pair_lem (λ t. Bounded C P (slot_pair (slot_of n hd z ++ rest) t))
        (λ k h c. subst (Bounded C P) (sym (slot_pair_at k h c)) (bounded_place C P n z k b h c)) n≤

    pub slot_readable : n ≤ 9 → Readable (slot_of n hd z ++ rest) (n * n)
    slot_readable h = record { long = rw length-append (omega (arith, slot_size h)); counts = slot_counts h }

    -- the largest error count
    pub largest_slot_lem : n ≤ 9 → largest_slot (slot_of n hd z ++ rest) (n * n) ≡ largest_count n z
    unfolding largest_slot count_to
    largest_slot_lem =
        counted_ind n (λ k t. largest_slot (slot_of n hd z ++ rest) t ≡ count_to n k z) refl
        (λ k h c ih. rw (lt-ltb (k % 9) n c, slot_p k h c, ih)) (λ k c ih. rw (le-ltb (k % 9) n c) ih)

-- the head of a zone of location l, and what is read of it
pub head_size : (l : ℕ) (o : Origin) → length (head_of l o) ≡ fields
unfolding head_of
head_size l o = refl

-- a slot that is begun has these numbers before its pairs
abbrev pub head_in : List ℤ → List ℤ
head_in slot = take fields slot

pub head_in_lem : (l : ℕ) (o : Origin) {slot : List ℤ} → slot ≡ head_of l o ++ replicate (spare 0) (pos 0) → head_in slot ≡ head_of l o
head_in_lem l o e = rw e (take_at (head_of l o) (replicate (spare 0) (pos 0)) fields (head_size l o))

pub slot_location_lem : (n l : ℕ) (o : Origin) (z : List Pair) (rest : List ℤ) → slot_location (slot_of n (head_of l o) z ++ rest) ≡ pos l
unfolding slot_of head_of
slot_location_lem n l o z rest = refl

pub slot_origin_lem : (n l : ℕ) (o : Origin) (z : List Pair) (rest : List ℤ) → slot_origin (slot_of n (head_of l o) z ++ rest) ≡ o
unfolding slot_of head_of
slot_origin_lem n l o z rest = refl

-- ---- the square of a slot's pairs
module _ (n : ℕ) (s : List ℤ) where
  pub square_in : (k : ℕ) → k % 9 < n → square_to n (suc k) s ≡ set (square_to n k s) k (slot_pair s (counted n k))
  unfolding square_to
  square_in k h = rw (lt-ltb (k % 9) n h)

  pub square_out : (k : ℕ) → n ≤ k % 9 → square_to n (suc k) s ≡ square_to n k s
  unfolding square_to
  square_out k h = rw (le-ltb (k % 9) n h)

  square-length : (k : ℕ) → length (square_to n k s) ≡ 81
  unfolding square_to
  square-length zero = length-replicate 81 zero_pair
  square-length (suc k) = go (square-length k) (ltb (k % 9) n)
    where
      go : length (square_to n k s) ≡ 81 → (t : Bool) → length (cond t (set (square_to n k s) k (slot_pair s (counted n k))) (square_to n k s)) ≡ 81
      go ih true = length-set (square_to n k s) k (slot_pair s (counted n k)) ∙ ih
      go ih false = ih

  -- a place that counts, and one that does not
  abbrev Placed : ℕ → ℕ → Type 0
  Placed k i =
      (i < k → i % 9 < n → place_of (square_to n k s) i ≡ slot_pair s (counted n i)) ×
      ((i < k → i % 9 < n → ⊥) → place_of (square_to n k s) i ≡ zero_pair)

  next_placed : (k i : ℕ) → k < 81 → i < 81 → Placed k i → Dec (k % 9 < n) → Dec (i ≡ k) → Placed (suc k) i
  next_placed k i h hi p (yes c) (yes e) = (
    λ a b. rw (square_in k c, e) (get_or-set_same (square_to n k s) k (slot_pair s (counted n k)) zero_pair (omega (arith, square-length k))),
    λ f. absurd (f (omega arith) (rw e c)),
  )
  next_placed k i h hi p (yes c) (no e) =
      let off : place_of (square_to n (suc k) s) i ≡ place_of (square_to n k s) i =
      rw (square_in k c) (get_or-set_other (square_to n k s) k i (slot_pair s (counted n k)) zero_pair e) in
      (λ a b. off ∙ p.0 (omega arith) b, λ f. off ∙ p.1 (λ a b. f (omega arith) b))
  next_placed k i h hi p (no c) d =
      let off : place_of (square_to n (suc k) s) i ≡ place_of (square_to n k s) i = rw (square_out k (omega arith)) in
      (λ a b. off ∙ p.0 (other d b a) b, λ f. off ∙ p.1 (λ a b. f (omega arith) b))
    where
      other : Dec (i ≡ k) → i % 9 < n → i < suc k → i < k
      other (yes e) b a = absurd (c (rw (sym e) b))
      other (no e) b a = omega arith

  placed : (k i : ℕ) → k ≤ 81 → i < 81 → Placed k i
  unfolding square_to
  placed zero i h hi = (λ a b. absurd (not-suc-le-zero a), λ f. get_or-replicate 81 i zero_pair zero_pair hi)
  placed (suc k) i h hi = next_placed k i h hi (placed k i (omega arith) hi) (dec_lt (k % 9) n) (ℕ_discrete i k)

-- ---- a zone comes back out of its slot
module _ (n : ℕ) (hd : List ℤ) (hd≡ : length hd ≡ fields) (z : List Pair) (rest : List ℤ) (n≤ : n ≤ 9) (size : length z ≡ 81) (f : Framed n z) where
  abbrev slot : List ℤ
  slot = slot_of n hd z ++ rest

  back_at : (i : ℕ) → i < 81 → Dec (i < n * 9) → Dec (i % 9 < n) → place_of (square_to n (n * 9) slot) i ≡ place_of z i
  back_at i h (yes a) (yes b) = (placed n slot (n * 9) i (omega arith) h).0 a b ∙ slot_pair_at n hd hd≡ z rest i a b
  back_at i h (yes a) (no b) = (placed n slot (n * 9) i (omega arith) h).1 (λ p q. b q) ∙ sym (f.frame i h (λ p q. b q))
  back_at i h (no a) d = (placed n slot (n * 9) i (omega arith) h).1 (λ p q. a p) ∙ sym (f.frame i h (λ p q. a p))

  pub zone_of_slot : zone_of n (slot_of n hd z ++ rest) ≡ z
  unfolding zone_of
  zone_of_slot =
      let long = square-length n slot (n * 9) in
      ext_get_or zero_pair (square_to n (n * 9) slot) z (long ∙ sym size) (λ i h. back_at i (omega arith) (dec_lt i (n * 9)) (dec_lt (i % 9) n))

-- ---- a slot of n indices is n × n pairs, and the test reads no numbers past its pairs
pub pairs_counted : (n : ℕ) (s : List ℤ) → length s ≡ slot_length n → pair_count s ≡ n * n
pairs_counted n s e = omega (arith, e)

every_pair_same : (n : ℕ) {there here : ℕ → Bool} → ((t : ℕ) → t < n → there t ≡ here t) → every_pair n there ≡ every_pair n here
unfolding every_pair
every_pair_same zero f = refl
every_pair_same (suc n) f = rw (f n (omega arith), every_pair_same n (λ t h. f t (omega arith)))

pub within_taken : (new old : List ℤ) (pairs len : ℕ) → m_at pairs ≤ len → within_slots new (take len old) pairs ≡ within_slots new old pairs
unfolding compare_numbers
within_taken new old pairs len h =
    every_pair_same pairs (λ t b. rw (get_or-take len old (m_at t) (pos 0) (omega arith), get_or-take len old (p_at t) (pos 0) (omega arith)))

-- ---- two slots compared are their zones compared
same_cmp : (x y : ℕ) → int_cmp (pos x) (pos y) ≡ nat_cmp x y
same_cmp x y = sym (int_cmp_is (pos x) (pos y) _ (go (nat_cmp x y) (ranked x y _ refl)))
  where
    go : (o : Ordering) → MatchOrdering o (x < y) (x ≡ y) (y < x) → MatchOrdering o (pos x <ℤ pos y) (pos x ≡ pos y) (pos y <ℤ pos x)
    go Less h = omega (arith, int)
    go Equal h = ap pos h
    go Greater h = omega (arith, int)

module _ (n : ℕ) (hd : List ℤ) (hd≡ : length hd ≡ fields) (z : List Pair) (rest : List ℤ) (hd' : List ℤ) (hd'≡ : length hd' ≡ fields)
    (y : List Pair) (rest' : List ℤ) where
  abbrev new : List ℤ
  new = slot_of n hd z ++ rest

  abbrev old : List ℤ
  old = slot_of n hd' y ++ rest'

  -- one comparison: that of the numbers is that of the pairs
  pub compare_slots : (k : ℕ) → k < n * 9 → k % 9 < n → compare_numbers new old (counted n k) ≡ compare_at z y k
  unfolding compare_numbers
  compare_slots k h c =
      rw (slot_m n hd hd≡ z rest k h c, slot_m n hd' hd'≡ y rest' k h c, slot_p n hd hd≡ z rest k h c, slot_p n hd' hd'≡ y rest' k h c)
      (ap (ordering_then _) (same_cmp (place_of z k).p (place_of y k).p))

  every_slots : (there here : ℕ → Bool) → ((k : ℕ) → k < n * 9 → k % 9 < n → there (counted n k) ≡ here k) → n ≤ 9 →
      every_pair (n * n) there ≡ every_to n (n * 9) here
  unfolding every_pair every_to
  every_slots there here f =
      counted_ind n (λ k t. every_pair t there ≡ every_to n k here) refl (λ k h c ih. rw (lt-ltb (k % 9) n c, f k h c, ih))
      (λ k c ih. rw (le-ltb (k % 9) n c) ih)

  pub within_slots_lem : n ≤ 9 → within_slots new old (n * n) ≡ within n z y
  within_slots_lem = every_slots _ _ (λ k h c. ap is_at_most (compare_slots k h c))

  pub equal_slots_lem : n ≤ 9 → equal_slots new old (n * n) ≡ equal n z y
  equal_slots_lem =
      every_slots _ _
      (λ k h c. let x = slot_pair_at n hd hd≡ z rest k h c in let o = slot_pair_at n hd' hd'≡ y rest' k h c in λ i. is_equal (compare_of (x i) (o i)))

  -- and so is its lowest threshold
  pub inside_slots_lem : n ≤ 9 → inside_slots new old (n * n) ≡ inside_below n z y
  unfolding inside_slots inside_to
  inside_slots_lem =
      counted_ind n (λ k t. inside_slots new old t ≡ inside_to n k z y) refl
      (λ k h c ih. let x = slot_pair_at n hd hd≡ z rest k h c in let o = slot_pair_at n hd' hd'≡ y rest' k h c in
      rw (lt-ltb (k % 9) n c) (λ i. lowered_by (ih i) (threshold_of (x i) (o i))))
      (λ k c ih. rw (le-ltb (k % 9) n c) ih)
