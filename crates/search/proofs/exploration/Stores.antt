-- The store: where each kept zone's slot stands, one slot more, how many there are, and what a search through the slots finds.
-- Assumes nothing.
use Prim.Native.Nat.{ℕ, zero, suc, ◌+◌, ◌-◌, ◌*◌, ◌/◌, ◌<◌, ◌≤◌, min}
use mathlib.Core.Path.{◌≡◌, refl, sym, ap, ◌∙◌, subst}
use mathlib.Core.Bool.{Bool, true, false, cond}
use mathlib.Core.List.{List, [], ◌∷◌, ◌++◌, append_assoc, append-nil}
use borrow.Author.Tests.{lt-ltb, le-ltb, eqb-true, eq-eqb}
use lib.Dec.{ltb, eqb}
use lib.IntN.{ℤ, pos}
use lib.ListN.{length, get_or, take, drop, length-append, length-drop}
use Rattle.std.proofs.lemmas.List.{get_or-take}
use lib.Seq.{get_or-drop, drop-drop, take_at, drop_at, take_all}
use native.Mathlib.Decide.{dec_lt}
use native.Mathlib.Omega.{arith}
use lib.Ieee.Nearest.{div_mono}
use native.Mathlib.Nat.{mul-le-mul_right, le_trans, div-mul-le_self}
use Rattle.zones.specs.declared.pair.Pair.{Pair}
use Rattle.zones.specs.Containment.{within}
use Rattle.automata.specs.Automata.{clocks}
use Rattle.search.specs.Exploring.{Hits, FirstHit}
use Rattle.search.specs.Instance.{ZoneNode, zones_of}
use Rattle.reachability.specs.Search.{Found, none, found, Nth, find}
use Rattle.automata.specs.Semantics.{system_of}
use Rattle.slots.specs.declared.slot.Origin.{Origin}
use Rattle.slots.specs.Slots.{slot_length, pair_count, head_of, slot_of, slot_location}
use Rattle.slots.specs.Containing.{within_slots}
use Rattle.search.specs.Store.{origin_of, slots_of, store_of, most_slots, capacity_of}
use Rattle.reachability.proofs.Lists.{nth_lt}
use Rattle.slots.proofs.slot.Codec.{slot_size, head_size, slot_location_lem, within_slots_lem, pairs_counted, within_taken}

-- the slot of a node
abbrev pub slot_as : ℕ → ZoneNode → List ℤ
slot_as n k = slot_of n (head_of k.at (origin_of k.came)) k.zone

module _ (n : ℕ) (n≤ : n ≤ 9) where
  node_size : (k : ZoneNode) → length (slot_as n k) ≡ slot_length n
  node_size k = slot_size n (head_of k.at (origin_of k.came)) (head_size k.at (origin_of k.came)) k.zone n≤

  slots_length : (ks : List ZoneNode) → length (slots_of n ks) ≡ length ks * slot_length n
  unfolding slots_of
  slots_length [] = omega arith
  slots_length (k ∷ ks) = length-append (slot_as n k) (slots_of n ks) ∙ omega (arith, node_size k, slots_length ks)

  slots_snoc : (ks : List ZoneNode) (k : ZoneNode) → slots_of n (ks ++ (k ∷ [])) ≡ slots_of n ks ++ slot_as n k
  unfolding slots_of
  slots_snoc [] k = append-nil (slot_as n k)
  slots_snoc (x ∷ ks) k = ap (λ (l : List ℤ). slot_as n x ++ l) (slots_snoc ks k) ∙ sym (append_assoc (slot_as n x) (slots_of n ks) (slot_as n k))

  -- ---- the slot of node j
  pub record SlotAt (s : List ℤ) (j : ℕ) (k : ZoneNode) : Type 0 where
    pub rest : List ℤ
    pub same : drop (j * slot_length n) s ≡ slot_as n k ++ rest

  slot_in : (ks : List ZoneNode) (t : List ℤ) (j : ℕ) (k : ZoneNode) → Nth ks j k → SlotAt (slots_of n ks ++ t) j k
  unfolding slots_of
  slot_in [] t j k h = absurd h
  slot_in (x ∷ ks) t zero k h =
      let z : 0 * slot_length n ≡ 0 = omega arith in
      record {
        rest = slots_of n ks ++ t;
        same = rw z (append_assoc (slot_as n x) (slots_of n ks) t ∙ ap (λ y. slot_as n y ++ (slots_of n ks ++ t)) h);
      }
  slot_in (x ∷ ks) t (suc j) k h =
      let r = slot_in ks t j k h in
      let e : suc j * slot_length n ≡ slot_length n + j * slot_length n = omega arith in
      record {
        rest = r.rest;
        same = rw (e, append_assoc (slot_as n x) (slots_of n ks) t)
            (sym (drop-drop (j * slot_length n) (slot_length n) (slot_as n x ++ (slots_of n ks ++ t)))
            ∙ ap (drop (j * slot_length n)) (drop_at (slot_as n x) (slots_of n ks ++ t) (slot_length n) (node_size x)) ∙ r.same);
      }

  -- and the location that it says
  pub location_at : (s : List ℤ) (j : ℕ) (k : ZoneNode) {at : ℕ} → at ≡ j * slot_length n → SlotAt s j k → get_or s at (pos 0) ≡ pos k.at
  location_at s j k {at} e t =
      let f : at ≡ j * slot_length n + 0 = omega arith in
      rw (f, ← get_or-drop (j * slot_length n) s 0 (pos 0), t.same) (slot_location_lem n k.at (origin_of k.came) k.zone t.rest)

  pub slot_at : (ks : List ZoneNode) (s₀ : List ℤ) (j : ℕ) (k : ZoneNode) → Nth ks j k → SlotAt (store_of n ks s₀) j k
  unfolding store_of
  slot_at ks s₀ = slot_in ks (drop (length (slots_of n ks)) s₀)

  -- ---- the length stays, and one slot more
  pub store_length : (ks : List ZoneNode) (s₀ : List ℤ) → length ks * slot_length n ≤ length s₀ → length (store_of n ks s₀) ≡ length s₀
  unfolding store_of
  store_length ks s₀ h =
      length-append (slots_of n ks) (drop (length (slots_of n ks)) s₀) ∙ omega (arith, length-drop (length (slots_of n ks)) s₀, slots_length ks)

  pub store_more : (ks : List ZoneNode) (k : ZoneNode) (s₀ : List ℤ) (at : ℕ) → at ≡ length ks * slot_length n →
      take at (store_of n ks s₀) ++ (slot_as n k ++ drop (at + slot_length n) (store_of n ks s₀)) ≡ store_of n (ks ++ (k ∷ [])) s₀
  unfolding store_of
  store_more ks k s₀ at e =
      let p = slots_of n ks in
      let q = slot_as n k in
      let t = drop (length p) s₀ in
      let l : length p ≡ at = slots_length ks ∙ sym e in
      let m : length (p ++ q) ≡ length p + slot_length n = length-append p q ∙ omega (arith, node_size k) in
      let back : drop (at + slot_length n) (p ++ t) ≡ drop (length (p ++ q)) s₀ =
      sym (drop-drop (slot_length n) at (p ++ t)) ∙ ap (drop (slot_length n)) (drop_at p t at l)
      ∙ drop-drop (slot_length n) (length p) s₀ ∙ ap (λ (i : ℕ). drop i s₀) (sym m) in
      rw (take_at p t at l, back, slots_snoc ks k) (sym (append_assoc p q (drop (length (p ++ q)) s₀)))

-- ---- how many slots
pub capacity_is : (n amount : ℕ) {len : ℕ} → len ≡ slot_length n → capacity_of n amount ≡ min most_slots (amount / len)
unfolding capacity_of
capacity_is n amount e = rw e (go (dec_lt most_slots (amount / slot_length n)))
  where
    go : Dec (most_slots < amount / slot_length n) →
        cond (ltb most_slots (amount / slot_length n)) most_slots (amount / slot_length n) ≡ min most_slots (amount / slot_length n)
    go (yes h) = rw (lt-ltb most_slots (amount / slot_length n) h) (omega arith)
    go (no h) = rw (le-ltb most_slots (amount / slot_length n) (omega arith)) (omega arith)

pub capacity_room : (n amount : ℕ) → capacity_of n amount * slot_length n ≤ amount
capacity_room n amount = le_trans (mul-le-mul_right (slot_length n) (omega (arith, capacity_is n amount refl)))
    (div-mul-le_self amount (slot_length n))

pub capacity_small : (n amount : ℕ) → capacity_of n amount ≤ most_slots
capacity_small n amount = omega (arith, capacity_is n amount refl)

pub capacity_more : (n amount amount' : ℕ) → amount ≤ amount' → capacity_of n amount ≤ capacity_of n amount'
capacity_more n amount amount' h =
    let more : amount / slot_length n ≤ amount' / slot_length n =
    div_mono amount (slot_length n) amount' (slot_length n) (omega arith) (omega arith) (mul-le-mul_right (slot_length n) h) in
    omega (arith, capacity_is n amount refl, capacity_is n amount' refl)

-- a slot that is among the first `count` lies in the store
pub slot_fits : (L : ℕ) {j count at len : ℕ} → j < count → count * L ≤ len → at ≡ j * L → at + L ≤ len
slot_fits L {j} {count} h k e = omega (arith, mul-le-mul_right L h)

-- what a callee gets of a store that is lent from `at` on
pub lent_part : (s : List ℤ) (at : ℕ) → take (length s - at) (drop at s) ≡ drop at s
lent_part s at = take_all (length s - at) (drop at s) (omega (arith, length-drop at s))

pub lent_length : (s : List ℤ) (at : ℕ) → length (take (length s - at) (drop at s)) ≡ length s - at
lent_length s at = ap length (lent_part s at) ∙ length-drop at s

-- ---- slot j as the code has it, of L numbers
abbrev pub slot_lent : ℕ → ℕ → List ℤ → List ℤ
slot_lent L j s = take (j * L + L - j * L) (drop (j * L) s)

-- it is the slot of node j alone
pub lent_slot : (n : ℕ) (n≤ : n ≤ 9) (s : List ℤ) (j : ℕ) (k : ZoneNode) {L : ℕ} → L ≡ slot_length n → SlotAt n n≤ s j k →
    slot_lent L j s ≡ slot_as n k ++ []
lent_slot n n≤ s j k e t =
    rw (e, t.same, append-nil (slot_as n k))
    (take_at (slot_as n k) t.rest (j * slot_length n + slot_length n - j * slot_length n) (node_size n n≤ k ∙ omega arith))

-- whether it contains the new one, from what the code's two tests showed
module _ (n : ℕ) (new s : List ℤ) (j : ℕ) {L : ℕ} (e : L ≡ slot_length n) (new≡ : length new ≡ slot_length n) where
  same_at : get_or (slot_lent L j s) 0 (pos 0) ≡ get_or s (j * slot_length n) (pos 0)
  same_at =
      let z : j * slot_length n + 0 ≡ j * slot_length n = omega arith in
      rw (e, get_or-take (j * slot_length n + slot_length n - j * slot_length n) (drop (j * slot_length n) s) 0 (pos 0) (omega arith))
      (rw (get_or-drop (j * slot_length n) s 0 (pos 0), z))

  inside_at : within_slots new (slot_lent L j s) (pair_count new) ≡ within_slots new (drop (j * slot_length n) s) (n * n)
  inside_at =
      rw (pairs_counted n new new≡, e)
      (within_taken new (drop (j * slot_length n) s) (n * n) (j * slot_length n + slot_length n - j * slot_length n) (omega arith))

  pub hit : get_or (slot_lent L j s) 0 (pos 0) ≡ slot_location new → within_slots new (slot_lent L j s) (pair_count new) ≡ true → Hits n new s j
  hit f g = record { same = sym same_at ∙ f; inside = sym inside_at ∙ g }

  pub hit_location : Hits n new s j → get_or (slot_lent L j s) 0 (pos 0) ≡ slot_location new
  hit_location h = same_at ∙ h.same

  pub hit_inside : Hits n new s j → within_slots new (slot_lent L j s) (pair_count new) ≡ true
  hit_inside h = inside_at ∙ h.inside

-- ---- the first slot that contains the new one is the node that the definition finds
module _ (b : List ℕ) (n≤ : suc (clocks b) ≤ 9) (l : ℕ) (o : Origin) (z : List Pair) where
  abbrev n : ℕ
  n = suc (clocks b)

  abbrev finds : List ZoneNode → Found ZoneNode
  finds ks = find (system_of b) (zones_of b) ks l z

  record Contains (k : ZoneNode) : Type 0 where
    at : k.at ≡ l
    inside : within n z k.zone ≡ true

  find_take : (k : ZoneNode) (ks : List ZoneNode) → Contains k → finds (k ∷ ks) ≡ found k
  unfolding find
  find_take k ks h = rw (find, eq-eqb k.at l h.at, h.inside)

  find_skip : (k : ZoneNode) (ks : List ZoneNode) → (Contains k → ⊥) → finds (k ∷ ks) ≡ finds ks
  unfolding find
  find_skip k ks h = go (eqb k.at l) refl (within n z k.zone) refl
    where
      go : (s : Bool) → eqb k.at l ≡ s → (t : Bool) → within n z k.zone ≡ t → finds (k ∷ ks) ≡ finds ks
      go true e true f = absurd (h (record { at = eqb-true k.at l e; inside = f }))
      go true e false f = rw (find, e, f)
      go false e t f = rw (find, e)

  find_none : (ks : List ZoneNode) → ((j : ℕ) (k : ZoneNode) → Nth ks j k → Contains k → ⊥) → finds ks ≡ none
  unfolding find
  find_none [] h = refl
  find_none (x ∷ ks) h = find_skip x ks (h 0 x refl) ∙ find_none ks (λ j k m. h (suc j) k m)

  find_first : (ks : List ZoneNode) (r : ℕ) (k : ZoneNode) → Nth ks r k → Contains k →
      ((j : ℕ) (x : ZoneNode) → j < r → Nth ks j x → Contains x → ⊥) → finds ks ≡ found k
  find_first [] r k m c h = absurd m
  find_first (x ∷ ks) zero k m c h = find_take x ks (subst Contains (sym m) c) ∙ ap found m
  find_first (x ∷ ks) (suc r) k m c h = find_skip x ks (h 0 x (omega arith) refl) ∙ find_first ks r k m c (λ j y hj. h (suc j) y (omega arith))

  module _ (ks : List ZoneNode) (s₀ rest : List ℤ) (j : ℕ) (k : ZoneNode) (m : Nth ks j k) where
    slot : SlotAt n n≤ (store_of n ks s₀) j k
    slot = slot_at n n≤ ks s₀ j k m

    location : get_or (store_of n ks s₀) (j * slot_length n) (pos 0) ≡ pos k.at
    location = location_at n n≤ _ j k refl slot

    test : within_slots (slot_of n (head_of l o) z ++ rest) (drop (j * slot_length n) (store_of n ks s₀)) (n * n) ≡ within n z k.zone
    test = rw slot.same (within_slots_lem n (head_of l o) (head_size l o) z rest (head_of k.at (origin_of k.came))
        (head_size k.at (origin_of k.came)) k.zone slot.rest n≤)

    hits_contains : Hits n (slot_of n (head_of l o) z ++ rest) (store_of n ks s₀) j → Contains k
    hits_contains h =
        let e : pos k.at ≡ pos l = sym location ∙ h.same ∙ slot_location_lem n l o z rest in
        record { at = cc; inside = sym test ∙ h.inside }

    contains_hits : Contains k → Hits n (slot_of n (head_of l o) z ++ rest) (store_of n ks s₀) j
    contains_hits c = record { same = location ∙ ap pos c.at ∙ sym (slot_location_lem n l o z rest); inside = test ∙ c.inside }

  -- the code's answer r
  module _ (ks : List ZoneNode) (s₀ rest : List ℤ) (r : ℕ)
      (h : FirstHit n (slot_of n (head_of l o) z ++ rest) (store_of n ks s₀) (length ks) r) where
    pub hit_none : length ks ≤ r → finds ks ≡ none
    hit_none g = find_none ks (λ j k m c. h.before j (omega (arith, nth_lt ks j k m)) (contains_hits ks s₀ rest j k m c))

    pub hit_first : (k : ZoneNode) → Nth ks r k → finds ks ≡ found k
    hit_first k m =
        find_first ks r k m (hits_contains ks s₀ rest r k m (h.found (nth_lt ks r k m)))
        (λ j x hj mx c. h.before j hj (contains_hits ks s₀ rest j x mx c))
