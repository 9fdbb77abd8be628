-- The kept nodes, oldest first: what each turn of the code's loop shows.
-- Assumes nothing.
use Prim.Native.Nat.{ℕ, suc, ◌+◌, ◌-◌, ◌*◌, ◌<◌, ◌≤◌}
use mathlib.Core.Path.{◌≡◌, sym, ap, ◌∙◌, subst}
use mathlib.Core.Bool.{true, false}
use mathlib.Core.List.{List, [], ◌∷◌, ◌++◌}
use lib.IntN.{ℤ, pos, nat_abs}
use lib.Dec.{T}
use mir.Syntax.{w32, w64}
use mir.Val.{Fits, SFits, of_z, to_z}
use lib.Seq.{get_or-drop}
use lib.Signed.{◌≤ℤ◌, non_neg}
use Rattle.zones.proofs.pairs.Integers.{le_make}
use lib.ListN.{length, get_or, take, drop, drop_of_length-le}
use native.Mathlib.Omega.{arith}
use Rattle.zones.specs.declared.pair.Pair.{Pair}
use Rattle.search.specs.Outcomes.{SearchTurn as Turn}
use Rattle.search.specs.Outcomes.{Few, outcome_of, has_ended}
use Rattle.automata.specs.Accepted.{Accepted}
use Rattle.automata.specs.Automata.{clocks, edges, to}
use Rattle.search.specs.Exploring.{SoundState, SoundNode, SoundZone, Shown, Live, Going, Continues, node_at}
use Rattle.search.specs.Instance.{ZoneState, ZoneNode, zones_of, following}
use Rattle.reachability.specs.Search.{Came, by_edge, Nth, expand, take_from}
use Rattle.automata.specs.Semantics.{system_of}
use Rattle.slots.specs.Slots.{slot_length, slot_location, p_at, zone_of}
use Rattle.reachability.proofs.Accounts.{expand_drops}
use Rattle.reachability.proofs.Judged.{take_none, take-one}
use Rattle.reachability.proofs.Keeps.{Steady, expand_keeps}
use Rattle.reachability.proofs.Later.{take-later}
use Rattle.reachability.proofs.Lists.{nth_tail}
use Rattle.search.specs.Store.{most_slots}
use Rattle.search.proofs.exploration.Judging.{At, nth_at, n≤, stored_slot, live-length, live_slots, read_counts, read_zone}
use Rattle.search.proofs.exploration.Ending.{still, stays}
use Rattle.search.proofs.exploration.Sounding.{follow_sound, offer_sound}
use Rattle.slots.proofs.slot.Loops.{reads_p}
use mir.ValLaws.{to_z-of_z}
use Rattle.search.proofs.exploration.Stores.{SlotAt, location_at, slot_fits, lent_part, lent_length}

-- ---- the number of a location, as the code reads it
module _ {x : ℤ} {l : ℕ} (h : SFits w32 x) (e : x ≡ pos l) where
  nonneg : pos 0 ≤ℤ x
  nonneg = subst (λ (y : ℤ). pos 0 ≤ℤ y) (sym e) (le_make (pos 0) (pos l) (omega arith))

  pub reads_location : T (non_neg (to_z w32 (of_z w32 x))) × Fits w64 (nat_abs (to_z w32 (of_z w32 x)))
  reads_location = reads_p x h nonneg

  pub read_location : x ≡ pos (nat_abs (to_z w32 (of_z w32 x)))
  read_location = e ∙ ap (λ (y : ℤ). pos (nat_abs y)) (sym (to_z-of_z w32 x h ∙ e))

module _ (b : List ℕ) (capacity : ℕ) where
  abbrev pub taken : ℕ → ℕ → ZoneState → ZoneState
  taken left next q = take_from (system_of b) (zones_of b) capacity left next q

  -- ---- with the first `next` nodes taken: a state that goes on, from which the rest leads where the whole does
  pub record Onward (s₀ : List ℤ) (q₀ : ZoneState) (next : ℕ) (s : List ℤ) (t : Turn) : Type 0 where
    pub state : ZoneState
    pub live : Live b capacity s₀ state s t
    pub rest : taken (capacity - next) next state ≡ taken capacity 0 q₀
    pub dropped : state.again + state.inside ≤ next * 256 + (q₀.again + q₀.inside)

  -- what the turn at `next` leaves
  pub record Turned (s₀ : List ℤ) (q₀ : ZoneState) (next : ℕ) (s : List ℤ) (t : Turn) : Type 0 where
    pub same_length : capacity * slot_length (suc (clocks b)) ≤ length s₀ → length s ≡ length s₀
    pub goes_on : has_ended (outcome_of t.outcome) ≡ false → Onward s₀ q₀ (next + 1) s t
    pub stops : has_ended (outcome_of t.outcome) ≡ true → Shown (suc (clocks b)) s₀ (taken capacity 0 q₀) s t

  pub begins : {s₀ : List ℤ} {q₀ : ZoneState} {s : List ℤ} {t : Turn} → Live b capacity s₀ q₀ s t → Onward s₀ q₀ 0 s t
  begins {q₀ = q₀} h =
      record {
        state = q₀;
        live = h;
        rest = let e : capacity - 0 ≡ capacity = omega arith in ap (λ (m : ℕ). taken m 0 q₀) e;
        dropped = omega arith;
      }

  pub ends : {s₀ : List ℤ} {q₀ : ZoneState} {next : ℕ} {s : List ℤ} {t : Turn} → Onward s₀ q₀ next s t → t.count ≤ next →
      Shown (suc (clocks b)) s₀ (taken capacity 0 q₀) s t
  ends {next = next} w h =
      let none = drop_of_length-le w.state.kept {i = next} (omega (arith, w.live.shown.number)) in
      rw (sym (take_none (system_of b) (zones_of b) capacity (capacity - next) next w.state none) ∙ w.rest) at w.live.shown

-- ---- what an expansion keeps
module _ (b : List ℕ) (a : Accepted b) (capacity : ℕ) where
  pub steady_sound : Steady (system_of b) (zones_of b) capacity (SoundState b capacity)
  unfolding following
  steady_sound = record {
    edge = λ q j k i e m hi f o.
        let s = o.nodes j k m in
        offer_sound b a capacity (to b i) (a.to< i hi) (by_edge j i) (k.path ++ (i ∷ [])) q o q.frac.safe o.safe _
        (follow_sound b a i hi k.zone q.frac.exact s.ranged s.framed o.exact);
  }

  expand_sound : (j : ℕ) (k : ZoneNode) (q : ZoneState) → Nth q.kept j k → SoundState b capacity q →
      SoundState b capacity (expand (system_of b) (zones_of b) capacity j k (edges b) 0 q)
  expand_sound j k q m o = expand_keeps (system_of b) (zones_of b) capacity steady_sound j k (edges b) 0 q m (omega arith) o

-- ---- the node at `next`
module _ {b : List ℕ} (a : Accepted b) where
  abbrev n : ℕ
  n = suc (clocks b)

  module _ {capacity : ℕ} {s₀ : List ℤ} {q₀ : ZoneState} {next : ℕ} {s : List ℤ} {t : Turn}
      (w : Onward b capacity s₀ q₀ next s t) (h : next < t.count) where
    -- what was dropped so far
    pub onward_few : q₀.again + q₀.inside ≤ 1 → Few (suc (next * 256)) t.dropped
    onward_few few = record { few = omega (arith, w.dropped, w.live.shown.again, w.live.shown.inside) }

    pub onward : capacity * slot_length n ≤ length s₀ → capacity ≤ most_slots → q₀.again + q₀.inside ≤ 1 →
        Going b capacity (suc (next * 256)) s t
    onward long most few = record {
      base = s₀;
      state = w.state;
      live = w.live;
      long = long;
      few = most;
      dropped = onward_few few;
    }

    pub here : At w.state.kept next
    here = nth_at w.state.kept next (omega (arith, w.live.shown.number))

    sound-node : SoundNode b here.node
    sound-node = w.live.sound.nodes next here.node here.nth

    pub few : next < capacity
    few = omega (arith, w.live.shown.number, w.live.sound.most)

    module _ {at : ℕ} (e : at ≡ next * slot_length n) where
      slot : SlotAt n (n≤ b a) s next here.node
      slot = stored_slot b a w.live.shown next here.node here.nth

      pub slot_inside : capacity * slot_length n ≤ length s₀ → at + slot_length n ≤ length s
      slot_inside long = slot_fits (slot_length n) h (live_slots b a long w.live) e

      pub location : slot_location (take (length s - at) (drop at s)) ≡ pos here.node.at
      location =
          let z : at + 0 ≡ at = omega arith in
          ap slot_location (lent_part s at) ∙ get_or-drop at s 0 (pos 0) ∙ ap (λ (i : ℕ). get_or s i (pos 0)) z
          ∙ location_at n (n≤ b a) s next here.node e slot

      pub asks_decode : capacity * slot_length n ≤ length s₀ →
          ((n ≤ 9) × (slot_length n ≤ length (take (length s - at) (drop at s)))) ×
          ((i : ℕ) → i < n * n → pos 0 ≤ℤ get_or (take (length s - at) (drop at s)) (p_at i) (pos 0))
      asks_decode long = ((n≤ b a, omega (arith, lent_length s at, slot_inside long)), read_counts b a s next at here.node e slot)

      module _ {z : List Pair} (ez : z ≡ zone_of n (take (length s - at) (drop at s))) where
        zone≡ : z ≡ here.node.zone
        zone≡ = ez ∙ read_zone b a s next at here.node e slot sound-node

        pub sound_zone : SoundZone b z
        sound_zone = subst (SoundZone b) (sym zone≡) (record { ranged = sound-node.ranged; framed = sound-node.framed })

        -- s' and t' are what the expansion left
        module _ {l : ℕ} (el : slot_location (take (length s - at) (drop at s)) ≡ pos l) {s' : List ℤ} {t' : Turn}
            (g : (c : Came) (p : List ℕ) → Continues b capacity s t
            (expand (system_of b) (zones_of b) capacity next (node_at l c p z) (edges b) 0) s' t') where
          abbrev expanded : ZoneState
          expanded = expand (system_of b) (zones_of b) capacity next here.node (edges b) 0 w.state

          at≡ : l ≡ here.node.at
          at≡ = let e : pos l ≡ pos here.node.at = sym el ∙ location in cc

          same_node : node_at l here.node.came here.node.path z ≡ here.node
          same_node = λ i. record { at = at≡ i; zone = zone≡ i; came = here.node.came; path = here.node.path }

          shown : Shown n s₀ expanded s' t'
          shown = rw same_node at ((g here.node.came here.node.path).shows s₀ w.state w.live)

          sound : SoundState b capacity expanded
          sound = expand_sound b a capacity next here.node w.state here.nth w.live.sound

          rest : taken b capacity (capacity - (next + 1)) (next + 1) expanded ≡ taken b capacity capacity 0 q₀
          rest =
              let f : capacity - next ≡ suc (capacity - (next + 1)) = omega (arith, few) in
              let c : suc next ≡ next + 1 = omega arith in
              sym (ap (λ (m : ℕ). taken b capacity m next w.state) f
              ∙ take-one (system_of b) (zones_of b) capacity (capacity - (next + 1)) next w.state here.node _
              (nth_tail w.state.kept next here.node here.nth)
              ∙ ap (λ (j : ℕ). taken b capacity (capacity - (next + 1)) j expanded) c) ∙ w.rest

          drops : expanded.again + expanded.inside ≤ (next + 1) * 256 + (q₀.again + q₀.inside)
          drops =
              let m = expand_drops (system_of b) (zones_of b) capacity next here.node (edges b) 0 w.state in
              omega (arith, m, w.dropped, a.complete.edges≤)

          pub turned : Turned b capacity s₀ q₀ next s' t'
          turned = record {
            same_length = λ long. live-length b a long shown sound;
            goes_on = λ c. record { state = expanded; live = still shown sound c; rest = rest; dropped = drops };
            stops = stays (take-later (system_of b) (zones_of b) capacity (capacity - (next + 1)) (next + 1) expanded) rest shown;
          }
