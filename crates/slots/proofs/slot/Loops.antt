-- The turns of the loops over a slot, as the code takes them.
-- Assumes nothing.
use Prim.Native.Nat.{ℕ, zero, suc, ◌+◌, ◌-◌, ◌*◌, ◌%◌, ◌<◌, ◌≤◌, max}
use Rattle.std.proofs.lemmas.Bool.Decides.{nat_tests}
use Rattle.std.proofs.lemmas.List.FromFn.{length-range_with_len, get_or-range_with_len}
use Rattle.std.specs.Bool.{MatchBool}
use Rattle.std.specs.List.{range_with_len, AllWithin, HoldsAt}
use mathlib.Core.Path.{◌≡◌, refl, sym, ap, ◌∙◌}
use mathlib.Core.Bool.{Bool, true, false, cond}
use mathlib.Core.List.{List, [], ◌∷◌, ◌++◌, append_assoc, append-nil}
use lib.Dec.{T}
use lib.IntN.{ℤ, pos, negsuc, nat_abs}
use lib.ListN.{length, get_or, set, replicate, length-append}
use lib.Seq.{set_at, append_snoc}
use lib.Signed.{◌≤ℤ◌, lt_z, non_neg, yes_non_neg}
use mir.Syntax.{w32, w64}
use mir.Val.{Fits, SFits, of_z, to_z}
use mir.ValLaws.{to_z-of_z}
use native.Mathlib.Nat.{zero-add, mul-le-mul}
use native.Mathlib.Numerals.{add-one}
use native.Mathlib.Omega.{arith}
use Rattle.zones.specs.declared.fraction.Fraction.{Fraction}
use Rattle.std.specs.declared.cmp.Ordering.TheVariants.{Less, Equal, Greater}
use Rattle.zones.specs.contracts.pair.PairOrd.TheImpl.Laws.{matches_eq-law}
use Rattle.zones.specs.contracts.pair.PairPartialEq.TheImpl as pair_eq
use Rattle.zones.specs.declared.pair.Pair.{Pair}
use Rattle.zones.proofs.pairs.Integers.{int, le_read, le_make, lt_read, eq_make, lt_z_true, lt_z_false, le_lt_z}
use Rattle.zones.specs.Containment.{place_of, larger}
use Rattle.zones.specs.Fractions.{lowered_by}
use Rattle.zones.specs.Pairs.{compare_of, is_equal, is_at_most, threshold_of}
use Rattle.zones.specs.Ranges.{Fits32, ChoiceReady, last_counts, widest}
use Rattle.runs.specs.Limits.{scale}
use Rattle.runs.proofs.Contradictions.{true_false}
use Rattle.zones.proofs.ranges.Ranges.{lowered_narrow, chosen_narrow, last_here}
use Rattle.slots.specs.declared.slot.Origin.{Origin}
use Rattle.slots.specs.Slots.{fields, longest, spare, m_at, p_at, pairs_to, flat, head_of, slot_of, slot_pair, counted, square_to}
use Rattle.slots.specs.Containing.{compare_numbers, every_pair, within_slots, inside_slots, largest_slot, ComparableSlots}
use Rattle.slots.proofs.slot.Codec.{counted_in, counted_out, counted_all, row_counted, rows_counted, pairs_in, pairs_out, pairs_length, head_size}
use Rattle.slots.proofs.slot.Codec.{flat-length, flat_append, square_in, square_out}

-- ---- `compare_at`: the code compares the numbers' bits
module _ {x y : ℤ} (hx : SFits w32 x) (hy : SFits w32 y) where
  pub tested : (t : Bool) → lt_z (to_z w32 (of_z w32 x)) (to_z w32 (of_z w32 y)) ≡ t → lt_z x y ≡ t
  tested t e = rw (to_z-of_z w32 x hx, to_z-of_z w32 y hy) at e

  pub same_bits : of_z w32 x ≡ of_z w32 y → x ≡ y
  same_bits e = sym (to_z-of_z w32 x hx) ∙ ap (to_z w32) e ∙ to_z-of_z w32 y hy

irreflexive : (x : ℤ) → lt_z x x ≡ false
irreflexive x = le_lt_z x x (omega (arith, int))

-- what is above is not below, and what is neither above nor the same is below
not_below : (x y : ℤ) → lt_z y x ≡ true → lt_z x y ≡ false
not_below x y e = le_lt_z x y (le_make y x (omega (arith, lt_read (lt_z_true y x e))))

below : (x y : ℤ) → lt_z y x ≡ false → (of_z w32 y ≡ of_z w32 x → ⊥) → lt_z x y ≡ true
below x y e d = go (lt_z x y) refl
  where
    go : (b : Bool) → lt_z x y ≡ b → lt_z x y ≡ true
    go true g = g
    go false g = absurd (d (ap (of_z w32) (eq_make y x (omega (arith, le_read (lt_z_false y x e), le_read (lt_z_false x y g))))))

module _ (new old : List ℤ) (t : ℕ) where
  abbrev old_m : ℤ
  old_m = get_or old (m_at t) (pos 0)

  abbrev new_m : ℤ
  new_m = get_or new (m_at t) (pos 0)

  abbrev old_p : ℤ
  old_p = get_or old (p_at t) (pos 0)

  abbrev new_p : ℤ
  new_p = get_or new (p_at t) (pos 0)

  module _ (ho : SFits w32 old_m) (hn : SFits w32 new_m) where
    pub tells_higher : lt_z (to_z w32 (of_z w32 old_m)) (to_z w32 (of_z w32 new_m)) ≡ true → Greater ≡ compare_numbers new old t
    unfolding compare_numbers
    tells_higher e = rw (not_below new_m old_m (tested ho hn true e), tested ho hn true e)

    pub tells_lower : lt_z (to_z w32 (of_z w32 old_m)) (to_z w32 (of_z w32 new_m)) ≡ false → (of_z w32 old_m ≡ of_z w32 new_m → ⊥) →
        Less ≡ compare_numbers new old t
    unfolding compare_numbers
    tells_lower e d = rw (below new_m old_m (tested ho hn false e) d)

    module _ (m : of_z w32 old_m ≡ of_z w32 new_m) (po : SFits w32 old_p) (pn : SFits w32 new_p) where
      pub tells_more : lt_z (to_z w32 (of_z w32 old_p)) (to_z w32 (of_z w32 new_p)) ≡ true → Greater ≡ compare_numbers new old t
      unfolding compare_numbers
      tells_more e = rw (same_bits ho hn m, irreflexive new_m, not_below new_p old_p (tested po pn true e), tested po pn true e)

      pub tells_fewer : lt_z (to_z w32 (of_z w32 old_p)) (to_z w32 (of_z w32 new_p)) ≡ false → (of_z w32 old_p ≡ of_z w32 new_p → ⊥) →
          Less ≡ compare_numbers new old t
      unfolding compare_numbers
      tells_fewer e d = rw (same_bits ho hn m, irreflexive new_m, below new_p old_p (tested po pn false e) d)

      pub tells_same : of_z w32 old_p ≡ of_z w32 new_p → Equal ≡ compare_numbers new old t
      unfolding compare_numbers
      tells_same e = rw (same_bits ho hn m, irreflexive new_m, same_bits po pn e, irreflexive new_p)

pub ruleset comparing = (tells_higher, tells_lower, tells_more, tells_fewer, tells_same)

-- ---- `is_within`, `inside_of`: what every pair passes
module _ (passes : ℕ → Bool) (t : ℕ) where
  fails : passes t ≡ false → (d : ℕ) → every_pair (d + suc t) passes ≡ false
  unfolding every_pair
  fails e zero = let f : zero + suc t ≡ suc t = omega arith in rw f (rw e)
  fails e (suc d) = let f : suc d + suc t ≡ suc (d + suc t) = omega arith in rw f (go (passes (d + suc t)) (fails e d))
    where
      go : {b : Bool} (a : Bool) → b ≡ false → cond a b false ≡ false
      go true g = g
      go false g = refl

  pub stops : (pairs : ℕ) → t < pairs → passes t ≡ false → false ≡ every_pair pairs passes
  stops pairs h e = let f : (pairs - suc t) + suc t ≡ pairs = omega arith in sym (rw f at (fails e (pairs - suc t)))

  -- so far, whatever it was
  pub stays_so : {b : Bool} → passes t ≡ true → b ≡ every_pair t passes → b ≡ every_pair (t + 1) passes
  unfolding every_pair
  stays_so e w = rw add-one (rw e w)

  pub fails_now : passes t ≡ false → false ≡ every_pair (t + 1) passes
  unfolding every_pair
  fails_now e = rw add-one (rw e)

-- what std's `all` answered over the pairs, from the first on
module _ (passes : ℕ → Bool) where
  all_pass : (n : ℕ) → ((t : ℕ) → t < n → passes t ≡ true) → true ≡ every_pair n passes
  unfolding every_pair
  all_pass zero h = refl
  all_pass (suc n) h = rw (h n (omega arith)) (all_pass n (λ t ht. h t (omega arith)))

  pub all_answers : (n : ℕ) (r : Bool) →
      MatchBool r (AllWithin (λ t. passes t ≡ true) (range_with_len 0 n) 0 (length (range_with_len 0 n)))
      ((k : ℕ) × (k < length (range_with_len 0 n)) × HoldsAt (λ t. passes t ≡ false) (range_with_len 0 n) k) → r ≡ every_pair n passes
  all_answers n true h =
      all_pass n (λ t ht. rw (get_or-range_with_len 0 n t 0 ht, zero-add t) at (h t 0 (omega arith) (omega (arith, length-range_with_len 0 n))))
  all_answers n false h =
      let k : h.0 < n = omega (arith, length-range_with_len 0 n) in
      stops passes h.0 n k (rw (get_or-range_with_len 0 n h.0 0 k, zero-add h.0) at (h.2 0))

-- ---- `inside_of`: where the test holds, the new pair's m is not above the old one's
module _ (new old : List ℤ) (t : ℕ) where
  not_above : (pairs : ℕ) → t < pairs → within_slots new old pairs ≡ true → new_m new old t ≤ℤ old_m new old t
  unfolding compare_numbers
  not_above pairs h w = go (lt_z (old_m new old t) (new_m new old t)) refl
    where
      go : (b : Bool) → lt_z (old_m new old t) (new_m new old t) ≡ b → new_m new old t ≤ℤ old_m new old t
      go true e =
          let above = not_below (new_m new old t) (old_m new old t) e in
          true_false (sym w ∙ sym (stops (λ i. is_at_most (compare_numbers new old i)) t pairs h (rw (above, e))))
      go false e = lt_z_false _ _ e

  -- a turn, x and y being the pairs that it read
  module _ {x y : Pair} (ex : x ≡ slot_pair new t) (ey : y ≡ slot_pair old t) where
    -- whether the two are equal is as the comparison says
    pub turn_equal : is_equal (compare_of (slot_pair new t) (slot_pair old t)) ≡ (pair_eq.ghosts).eq x y
    turn_equal = sym (matches_eq-law x y ∙ (λ i. is_equal (compare_of (ex i) (ey i))))

    pub turn_lowers : {f : Fraction} → f ≡ inside_slots new old t → lowered_by f (threshold_of x y) ≡ inside_slots new old (t + 1)
    unfolding inside_slots
    turn_lowers e = rw add-one (λ i. lowered_by (e i) (threshold_of (ex i) (ey i)))

    module _ {pairs : ℕ} (c : ComparableSlots new old pairs) (h : t < pairs) where
      pub turn_ready : ChoiceReady x y
      turn_ready = rw (ex, ey) (record { chosen = c.new_bounded t h; other = c.old_bounded t h; order = not_above pairs h c.inside })

      pub turn_fits : {f : Fraction} → Fits32 f → Fits32 (lowered_by f (threshold_of x y))
      turn_fits {f} k =
          let r = turn_ready in
          lowered_narrow widest widest f _ k (chosen_narrow widest widest scale last_counts last_here _ _ r.chosen r.other r.order)

pub ruleset insides = (turn_ready, turn_fits, turn_lowers, turn_equal, stays_so, fails_now)

-- the lowest threshold of a test that holds is in range
pub slots_fit : (new old : List ℤ) (pairs : ℕ) → ComparableSlots new old pairs → Fits32 (inside_slots new old pairs)
unfolding inside_slots
slots_fit new old pairs c = go pairs (omega arith)
  where
    go : (t : ℕ) → t ≤ pairs → Fits32 (inside_slots new old t)
    go zero h = record { n = omega arith; d = omega arith }
    go (suc t) h = turn_fits new old t refl refl c h (go t (omega arith))

-- ---- `largest_count`
larger_max : (x y : ℕ) → larger x y ≡ max x y
unfolding larger
larger_max x y = grind (arith, nat_tests)

pub largest_next : (s : List ℤ) (t : ℕ) → largest_slot s (t + 1) ≡ max (largest_slot s t) (slot_pair s t).p
unfolding largest_slot
largest_next s t = rw (add-one t) (larger_max _ _)

-- ---- a number of 32 bits that is not negative, read wide
count_fits : (x : ℤ) → SFits w32 x → pos 0 ≤ℤ x → Fits w64 (nat_abs x)
count_fits (pos n) h g = record { fits = omega (arith, h.sfits) }
count_fits (negsuc n) h g = absurd g.le

pub reads_p : (x : ℤ) → SFits w32 x → pos 0 ≤ℤ x → T (non_neg (to_z w32 (of_z w32 x))) × Fits w64 (nat_abs (to_z w32 (of_z w32 x)))
reads_p x h g = rw (to_z-of_z w32 x h) (yes_non_neg g, count_fits x h g)

-- ---- the place (i, j) of a square of n indices, the pair i × n + j of its slot
module _ (n : ℕ) (n≤ : n ≤ 9) (i j : ℕ) (hi : i < n) (hj : j < n) where
  place_counts : i * n + j ≡ counted n (i * 9 + j)
  place_counts =
      let e : i * 9 + j ≡ j + i * 9 = omega arith in
      rw e (omega (arith, row_counted n i j (omega arith), rows_counted n n≤ i))

  pub place_below : i * n + j < n * n
  place_below =
      let row : suc i ≤ n = omega arith in
      let all : n ≤ n = omega arith in
      omega (arith, mul-le-mul row all)

  pub place_few : i * n + j < 81
  place_few = omega (arith, place_below, mul-le-mul n≤ n≤)

-- the rest of a row does not count
row_ends : {X : Type 0} (n : ℕ) (f : ℕ → X) → ((k : ℕ) → n ≤ k % 9 → f (suc k) ≡ f k) → n ≤ 9 → (i : ℕ) → f (i * 9 + n) ≡ f ((i + 1) * 9)
row_ends n f out n≤ i = go (9 - n) (omega arith)
  where
    go : (d : ℕ) → n + d ≡ 9 → f (i * 9 + n) ≡ f ((i + 1) * 9)
    go d e = let q : (i + 1) * 9 ≡ d + (i * 9 + n) = omega arith in rw q (sym (back d (omega arith)))
      where
        back : (m : ℕ) → n + m ≤ 9 → f (m + (i * 9 + n)) ≡ f (i * 9 + n)
        back zero h = let q : zero + (i * 9 + n) ≡ i * 9 + n = omega arith in rw q
        back (suc m) h =
            let q : suc m + (i * 9 + n) ≡ suc (m + (i * 9 + n)) = omega arith in
            rw q (out (m + (i * 9 + n)) (omega arith) ∙ back m (omega arith))

-- ---- `encode`: the numbers hd, the pairs of the first k places, and zeros
pub encoded : ℕ → List ℤ → List Pair → ℕ → List ℤ
encoded n hd z k = (hd ++ flat (pairs_to n k z)) ++ replicate (longest - m_at (counted n k)) (pos 0)

module _ (n l : ℕ) (o : Origin) (z : List Pair) where
  pub encode_start : {slot : List ℤ} → slot ≡ head_of l o ++ replicate (spare 0) (pos 0) → slot ≡ encoded n (head_of l o) z (0 * 9)
  unfolding encoded pairs_to flat counted
  encode_start e = rw (append-nil (head_of l o)) e

  pub encode_all : {slot : List ℤ} → n ≤ 9 → slot ≡ encoded n (head_of l o) z (n * 9) →
      slot ≡ slot_of n (head_of l o) z ++ replicate (spare n) (pos 0)
  unfolding encoded slot_of
  encode_all h f = f ∙ rw (counted_all n h)

module _ (n : ℕ) (hd : List ℤ) (hd≡ : length hd ≡ fields) (z : List Pair) (n≤ : n ≤ 9) where
  pub encode_turn : (i j : ℕ) {slot : List ℤ} → i < n → j < n → slot ≡ encoded n hd z (i * 9 + j) →
      set (set slot (m_at (i * n + j)) (place_of z (i * 9 + j)).m) (p_at (i * n + j)) (pos (place_of z (i * 9 + j)).p) ≡
      encoded n hd z (i * 9 + (j + 1))
  unfolding encoded flat
  encode_turn i j {slot} hi hj f =
      let k : ℕ = i * 9 + j in
      let t : ℕ = i * n + j in
      let c : k % 9 < n = omega arith in
      let e : t ≡ counted n k = place_counts n n≤ i j hi hj in
      let s : i * 9 + (j + 1) ≡ suc k = omega arith in
      let h : t < 81 = place_few n n≤ i j hi hj in
      let q = place_of z k in
      let front : List ℤ = hd ++ flat (pairs_to n k z) in
      let zeros : List ℤ = replicate (longest - m_at (counted n (suc k))) (pos 0) in
      let more : longest - m_at (counted n k) ≡ suc (suc (longest - m_at (counted n (suc k)))) = omega (arith, counted_in n k c) in
      let one : length front ≡ m_at t =
      length-append hd (flat (pairs_to n k z)) ∙ omega (arith, hd≡, flat-length (pairs_to n k z), pairs_length n z k) in
      let two : length (front ++ (q.m ∷ [])) ≡ p_at t = length-append front (q.m ∷ []) ∙ omega (arith, one) in
      rw (s, f, more, set_at front (pos 0) (pos 0 ∷ zeros) q.m (m_at t) one)
      (rw (← append_snoc front q.m (pos 0 ∷ zeros), set_at (front ++ (q.m ∷ [])) (pos 0) zeros (pos q.p) (p_at t) two)
      (rw (pairs_in n z k c) (simp (flat_append, append_assoc))))

  pub encode_row : (i : ℕ) {slot : List ℤ} → slot ≡ encoded n hd z (i * 9 + n) → slot ≡ encoded n hd z ((i + 1) * 9)
  unfolding encoded
  encode_row i f = f ∙ row_ends n (encoded n hd z) (λ k c. rw (pairs_out n z k c, counted_out n k c)) n≤ i

pub ruleset encode_turns = (head_size, encode_start, encode_turn, encode_row, encode_all)

-- ---- `decode`
module _ (n : ℕ) (n≤ : n ≤ 9) (s : List ℤ) where
  pub decode_turn : (i j : ℕ) {z : List Pair} {q : Pair} → i < n → j < n → q ≡ slot_pair s (i * n + j) → z ≡ square_to n (i * 9 + j) s →
      set z (i * 9 + j) q ≡ square_to n (i * 9 + (j + 1)) s
  decode_turn i j hi hj f g =
      let k : ℕ = i * 9 + j in
      let e : i * 9 + (j + 1) ≡ suc k = omega arith in
      rw (e, square_in n s k (omega arith)) (λ r. set (g r) k ((f ∙ ap (slot_pair s) (place_counts n n≤ i j hi hj)) r))

  pub decode_row : (i : ℕ) {z : List Pair} → z ≡ square_to n (i * 9 + n) s → z ≡ square_to n ((i + 1) * 9) s
  decode_row i g = g ∙ row_ends n (λ k. square_to n k s) (square_out n s) n≤ i

pub ruleset decode_turns = (place_below, decode_turn, decode_row)
