-- The walk back over the slots: from a zone's origin to the slot that it names, and to that slot's own origin.
use Prim.Native.Nat.{ℕ, zero, suc, ◌+◌, ◌-◌, ◌*◌, ◌≤◌}
use mathlib.Core.Bool.{true, false, cond}
use mathlib.Core.List.{List, [], ◌∷◌}
use mathlib.Core.Path.{◌≡◌, refl, sym, ap, ◌∙◌, subst}
use lib.IntN.{ℤ, pos}
use lib.ListN.{length, drop, take, length-append}
use lib.Signed.{◌≤ℤ◌}
use native.Mathlib.Nat.{le_trans, mul-le-mul_right}
use native.Mathlib.Omega.{arith}
use Rattle.automata.specs.Automata.{clocks}
use Rattle.automata.specs.Semantics.{system_of}
use Rattle.reachability.specs.Branches.{Branches, Jumps, path_of}
use Rattle.reachability.specs.Search.{Came, first_zone, by_edge, Nth}
use Rattle.reachability.proofs.Branches.{path_is, branches}
use Rattle.reachability.proofs.Lists.{nth_lt}
use Rattle.reachability.proofs.Robust.{exact_there}
use Rattle.runs.proofs.Contradictions.{true_false}
use Rattle.search.specs.Answers.{state_of}
use Rattle.search.specs.Exploring.{SoundState}
use Rattle.search.specs.Instance.{ZoneNode, zones_of, meaning_of}
use Rattle.search.specs.Outcomes.{came_of}
use Rattle.search.specs.Store.{origin_of, most_slots, capacity_of}
use Rattle.search.proofs.answers.Given.{final_sound}
use Rattle.search.proofs.exploration.Judging.{n≤, came_back}
use Rattle.search.proofs.exploration.Stores.{SlotAt, slot_at, store_length, capacity_room, capacity_small, slot_fits, lent_part}
use Rattle.search.proofs.instance.Obeys.{laws}
use Rattle.slots.specs.declared.slot.Origin.{Origin}
use Rattle.slots.specs.Slots.{slot_length, origin_along, is_along, slot_origin}
use Rattle.slots.proofs.slot.Codec.{slot_origin_lem}
use Rattle.zones.specs.Integers.{up}
use Rattle.zones.proofs.pairs.Integers.{le_make}
use Rattle.run_writer.specs.Branch.{kept_of, CameBy, Ended, Standing, jumps_before}

-- how many slots lie up to the one that an origin names, that one included
abbrev pub left_of : Origin → ℕ
left_of o = cond (is_along o) (suc (up o.parent)) 0

left_branch : (b : List ℕ) (amount place : ℕ) (k : ZoneNode) (c : Came) → CameBy b amount place k c → left_of (origin_of c) ≤ place
unfolding origin_of
left_branch b amount place k first_zone h = omega arith
left_branch b amount place k (by_edge j i) h = h.earlier

module _ {b : List ℕ} {amount : ℕ} {s : List ℤ} (e : Ended b amount s) where
  abbrev n : ℕ
  n = suc (clocks b)

  abbrev ks : List ZoneNode
  ks = kept_of b amount

  abbrev capacity : ℕ
  capacity = capacity_of (suc (clocks b)) amount

  pub sound : SoundState b (capacity_of (suc (clocks b)) amount) (state_of b amount)
  sound = final_sound b e.accepted capacity

  -- the slots lie in the store
  room : length ks * slot_length n ≤ amount
  room = le_trans (mul-le-mul_right (slot_length n) sound.most) (capacity_room n amount)

  long : length s ≡ amount
  long = ap length e.shown ∙ store_length n (n≤ b e.accepted) ks e.base (omega (arith, room, e.size)) ∙ e.size

  pub few : length (kept_of b amount) ≤ most_slots
  few = omega (arith, sound.most, capacity_small n amount)

  came : Branches (system_of b) (zones_of b) (λ f. (meaning_of b).Exact f 1 0) ks
  came = branches (system_of b) (zones_of b) (λ f. (meaning_of b).Exact f 1 0) ((laws b e.accepted).exact_falls 1 0) capacity
      (exact_there (system_of b) (zones_of b) (meaning_of b) 1 0 (laws b e.accepted) capacity)

  -- a path has no more edges than there are older nodes
  short : (m j : ℕ) (k : ZoneNode) (c : Came) → j ≤ m → CameBy b amount j k c → length k.path ≤ j
  short m j k first_zone l h = omega (arith, ap length h.path)
  short zero j k (by_edge f i) l h = absurd (omega (arith, h.earlier))
  short (suc m) j k (by_edge f i) l h =
      let p = h.parent in
      omega (
        arith,
        h.earlier,
        ap length h.path,
        length-append p.path (i ∷ []),
        short m f p p.came (omega (arith, h.earlier)) (came f p h.kept),
      )

  -- ---- the node at j, in its slot
  module _ (j : ℕ) (k : ZoneNode) (m : Nth (kept_of b amount) j k) where
    pub slot_of : SlotAt (suc (clocks b)) (n≤ b e.accepted) s j k
    slot_of = subst (λ x. SlotAt n (n≤ b e.accepted) x j k) (sym e.shown) (slot_at n (n≤ b e.accepted) ks e.base j k m)

    pub slot_inside : {at : ℕ} → at ≡ j * slot_length (suc (clocks b)) → at + slot_length (suc (clocks b)) ≤ length s
    slot_inside h = slot_fits (slot_length n) (nth_lt ks j k m) (omega (arith, room, long)) h

    pub origin_at : {at : ℕ} → at ≡ j * slot_length (suc (clocks b)) → slot_origin (take (length s - at) (drop at s)) ≡ origin_of k.came
    origin_at {at} h =
        ap slot_origin (lent_part s at ∙ ap (λ (i : ℕ). drop i s) h ∙ slot_of.same)
        ∙ slot_origin_lem n k.at (origin_of k.came) k.zone slot_of.rest

    pub left_at : left_of (origin_of k.came) ≤ j
    left_at = left_branch b amount j k k.came (came j k m)

    -- a zone of the search stands there too
    pub standing : Standing b amount (origin_of k.came)
    standing = record {
      came = k.came;
      told = refl;
      place = j;
      most = omega (arith, nth_lt ks j k m);
      node = k;
      branch = came j k m;
    }

-- ---- an origin, and what it tells
module _ {b : List ℕ} {amount : ℕ} {o : Origin} (st : Standing b amount o) where
  pub came_is : came_of o ≡ st.came
  came_is = ap came_of (sym st.told) ∙ came_back st.came

  path≡ : path_of (kept_of b amount) (came_of o) ≡ st.node.path
  path≡ =
      ap (path_of (kept_of b amount)) came_is
      ∙ path_is (system_of b) (zones_of b) (λ f. (meaning_of b).Exact f 1 0) (kept_of b amount) st.place st.node st.came st.branch

-- no more jumps lead there than there are kept nodes
pub jumps_most : {b : List ℕ} {amount : ℕ} {s : List ℤ} → Ended b amount s → {o : Origin} → Standing b amount o →
    jumps_before b amount o ≤ length (kept_of b amount)
jumps_most e st = omega (arith, ap length (path≡ st), short e st.place st.place st.node st.came (omega arith) st.branch, st.most)

module _ {b : List ℕ} {amount : ℕ} {o : Origin} (st : Standing b amount o) where
  -- a slot and an edge
  pub record Along : Type 0 where
    pub parent : ℕ
    pub edge : ℕ
    pub told : o ≡ origin_along parent edge
    pub came : came_of o ≡ by_edge parent edge
    pub jumps : Jumps (system_of b) (zones_of b) (λ f. (meaning_of b).Exact f 1 0) (kept_of b amount) st.place st.node parent edge

  pub along : is_along o ≡ true → Along
  unfolding origin_of
  along h = go st.came refl st.branch
    where
      go : (c : Came) → st.came ≡ c → CameBy b amount st.place st.node st.came → Along
      go first_zone g x = true_false (sym h ∙ ap is_along (sym st.told ∙ ap origin_of g))
      go (by_edge j i) g x = record {
        parent = j;
        edge = i;
        told = sym st.told ∙ ap origin_of g;
        came = came_is st ∙ g;
        jumps = subst (CameBy b amount st.place st.node) g x;
      }

  -- or none
  pub first : is_along o ≡ false → came_of o ≡ first_zone
  unfolding origin_of
  first h = go st.came refl
    where
      go : (c : Came) → st.came ≡ c → came_of o ≡ first_zone
      go first_zone g = came_is st ∙ g
      go (by_edge j i) g = true_false (ap is_along (sym (ap origin_of g) ∙ st.told) ∙ h)

  module _ (a : Along) where
    pub left_is : left_of o ≡ suc a.parent
    left_is = ap left_of a.told

    pub parent_is : up o.parent ≡ a.parent
    parent_is = ap (λ (x : Origin). up x.parent) a.told

    pub edge_is : up o.edge ≡ a.edge
    edge_is = ap (λ (x : Origin). up x.edge) a.told

    pub asks_edge : pos 0 ≤ℤ o.edge
    asks_edge = subst (λ (x : Origin). pos 0 ≤ℤ x.edge) (sym a.told) (le_make (pos 0) (pos a.edge) (omega arith))

    -- one jump more than to the zone of the slot that it names
    pub one_more : {s : List ℤ} → Ended b amount s → jumps_before b amount o ≡ suc (jumps_before b amount (origin_of a.jumps.parent.came))
    unfolding standing
    one_more e =
        let k = a.jumps.parent in
        let there : path_of (kept_of b amount) (came_of (origin_of k.came)) ≡ k.path = path≡ (standing e a.parent k a.jumps.kept) in
        omega (arith, ap length (path≡ st ∙ a.jumps.path), ap length there, length-append k.path (a.edge ∷ []))
