-- The edges of a taken node: what each turn of the code's loop shows.
-- Assumes nothing.
use Prim.Native.Nat.{ℕ, suc, ◌+◌, ◌-◌, ◌*◌, ◌<◌, ◌≤◌}
use mathlib.Core.Path.{◌≡◌, refl, sym, ap, ◌∙◌, subst}
use mathlib.Core.Bool.{true, false}
use mathlib.Core.List.{List, [], ◌∷◌, ◌++◌}
use lib.IntN.{ℤ}
use lib.ListN.{length}
use borrow.Author.Tests.{ne_eqb}
use native.Mathlib.Omega.{arith}
use Rattle.zones.specs.declared.pair.Pair.{Pair}
use Rattle.zones.specs.declared.zone.Work.{Work}
use Rattle.zones.specs.Ranges.{Fits32}
use Rattle.search.specs.Outcomes.{SearchTurn as Turn}
use Rattle.search.specs.Outcomes.{Few, outcome_of, has_ended, most_offers}
use Rattle.automata.specs.Accepted.{Accepted}
use Rattle.automata.specs.Automata.{clocks, edges, from, to}
use Rattle.search.specs.Exploring.{SoundState, SoundZone, Shown, Live, Going, Offers, node_at, successor_of}
use Rattle.search.specs.Instance.{ZoneState, ZoneNode, work_of, result_of, following, zones_of}
use Rattle.reachability.specs.Search.{Came, by_edge, going, child, follow, expand}
use Rattle.automata.specs.Semantics.{system_of}
use Rattle.slots.specs.declared.slot.Origin.{Origin}
use Rattle.slots.specs.Slots.{slot_length, origin_along}
use Rattle.search.specs.Store.{origin_of, most_slots}
use Rattle.reachability.proofs.Accounts.{offer_drops}
use Rattle.reachability.proofs.Judged.{followed, follow_on}
use Rattle.reachability.proofs.Later.{expand_later}
use Rattle.search.proofs.exploration.Ending.{still, stays}
use Rattle.search.proofs.exploration.Sounding.{follow_sound, offer_sound}

along : (j i : ℕ) → origin_of (by_edge j i) ≡ origin_along j i
unfolding origin_of
along j i = refl

module _ (b : List ℕ) (capacity j l : ℕ) (z : List Pair) (c : Came) (p : List ℕ) where
  abbrev node : ZoneNode
  node = node_at l c p z

  abbrev pub opened : ℕ → ℕ → ZoneState → ZoneState
  opened m i q = expand (system_of b) (zones_of b) capacity j node m i q

  -- after i edges: a state that goes on, from which the rest leads where the whole does
  pub record Between (s₀ : List ℤ) (q₀ : ZoneState) (i : ℕ) (s : List ℤ) (t : Turn) : Type 0 where
    pub state : ZoneState
    pub live : Live b capacity s₀ state s t
    pub rest : opened (edges b - i) i state ≡ opened (edges b) 0 q₀
    pub few : state.again + state.inside ≤ i + (q₀.again + q₀.inside)

  pub begins : {s₀ : List ℤ} {q₀ : ZoneState} {s : List ℤ} {t : Turn} → Live b capacity s₀ q₀ s t → Between s₀ q₀ 0 s t
  begins {q₀ = q₀} h =
      record {
        state = q₀;
        live = h;
        rest = let e : edges b - 0 ≡ edges b = omega arith in ap (λ (m : ℕ). opened m 0 q₀) e;
        few = omega arith;
      }

  -- one edge more, which leads to q'
  one-edge : (i : ℕ) (q : ZoneState) {q' : ZoneState} → i < edges b → follow (system_of b) (zones_of b) capacity j node i q ≡ q' →
      opened (edges b - i) i q ≡ opened (edges b - (i + 1)) (i + 1) q'
  unfolding expand
  one-edge i q h g =
      let e : edges b - i ≡ suc (edges b - (i + 1)) = omega arith in
      let f : suc i ≡ i + 1 = omega arith in
      ap (λ (m : ℕ). opened m i q) e ∙ (λ k. opened (edges b - (i + 1)) (f k) (g k))

  follow_off : (i : ℕ) (q : ZoneState) → q.outcome ≡ going → (from b i ≡ l → ⊥) → follow (system_of b) (zones_of b) capacity j node i q ≡ q
  unfolding follow
  follow_off i q e h =
      rw (follow, e, ne_eqb (from b i) l h)
      (λ k. record { kept = q.kept; frac = q.frac; outcome = e k; again = q.again; inside = q.inside })

module _ {b : List ℕ} {capacity j l : ℕ} {z : List Pair} {c : Came} {p : List ℕ} {s₀ : List ℤ} {q₀ : ZoneState} {i : ℕ} {s : List ℤ} {t : Turn}
    (w : Between b capacity j l z c p s₀ q₀ i s t) where
  -- what the next call asks
  -- what was dropped so far
  pub between_few : q₀.again + q₀.inside ≤ suc (j * 256) → j < most_slots → i < 256 → Few most_offers t.dropped
  between_few few hj hi = record { few = omega (arith, w.few, w.live.shown.again, w.live.shown.inside) }

  pub between_going : capacity * slot_length (suc (clocks b)) ≤ length s₀ → capacity ≤ most_slots → q₀.again + q₀.inside ≤ suc (j * 256) →
      j < most_slots → i < 256 → Going b capacity most_offers s t
  between_going long most few hj hi = record {
    base = s₀;
    state = w.state;
    live = w.live;
    long = long;
    few = most;
    dropped = between_few few hj hi;
  }

  pub ends : edges b ≤ i → Shown (suc (clocks b)) s₀ (opened b capacity j l z c p (edges b) 0 q₀) s t
  unfolding expand
  ends h =
      let e : edges b - i ≡ 0 = omega arith in
      rw (sym (ap (λ (m : ℕ). opened b capacity j l z c p m i w.state) e) ∙ w.rest) at w.live.shown

  module _ (hi : i < edges b) where
    -- an edge of another location
    pub passes : (from b i ≡ l → ⊥) → Between b capacity j l z c p s₀ q₀ (i + 1) s t
    passes h = record {
      state = w.state;
      live = w.live;
      rest = sym (one-edge b capacity j l z c p i _ hi (follow_off b capacity j l z c p i w.state w.live.goes h)) ∙ w.rest;
      few = omega (arith, w.few);
    }

    -- an edge of this one: v is the zone with the running fraction
    module _ (a : Accepted b) (sz : SoundZone b z) {v : Work} (e : v ≡ work_of z t.exact) where
      pub taken_fits : Fits32 v.fraction
      taken_fits = subst Fits32 (sym (ap (λ (x : Work). x.fraction) e ∙ w.live.shown.exact)) w.live.sound.exact

      taken_safe : Fits32 t.safe
      taken_safe = subst Fits32 (sym w.live.shown.safe) w.live.sound.safe

      pub taken-sound : SoundZone b v.zone
      taken-sound = subst (λ (x : Work). SoundZone b x.zone) (sym e) sz

      -- s' and t' are what the offer of its successor left
      module _ (at : from b i ≡ l) {o : Origin} (eo : o ≡ origin_along j i) {s' : List ℤ} {t' : Turn}
          (g : Offers b capacity s t (to b i) o (successor_of b i v) s' t') where
        abbrev next : ZoneState
        next = followed (system_of b) (zones_of b) capacity j (node_at l c p z) i w.state

        -- the definition's successor is what was offered
        offered : result_of t.safe (successor_of b i v) ≡ (zones_of b).succ i z w.state.frac
        unfolding following
        offered =
            let f = e ∙ ap (work_of z) w.live.shown.exact in
            λ k. result_of (w.live.shown.safe k) (successor_of b i (f k))

        shown : Shown (suc (clocks b)) s₀ next s' t'
        shown = rw offered at ((g (record { came = by_edge j i; path = p ++ (i ∷ []); told = along j i ∙ sym eo })).shows s₀ w.state w.live)

        sound : SoundState b capacity next
        sound =
            rw (← offered)
            (offer_sound b a capacity (to b i) (a.to< i hi) (by_edge j i) (p ++ (i ∷ [])) w.state w.live.sound t.safe taken_safe _
            (follow_sound b a i hi v.zone v.fraction taken-sound.ranged taken-sound.framed taken_fits))

        rest : opened b capacity j l z c p (edges b - (i + 1)) (i + 1) next ≡ opened b capacity j l z c p (edges b) 0 q₀
        rest =
            sym (one-edge b capacity j l z c p i _ hi
            (follow_on (system_of b) (zones_of b) capacity j (node_at l c p z) i w.state w.live.goes at))
            ∙ w.rest

        pub goes_on : has_ended (outcome_of t'.outcome) ≡ false → Between b capacity j l z c p s₀ q₀ (i + 1) s' t'
        goes_on f = record {
          state = next;
          live = still shown sound f;
          rest = rest;
          few = omega (
            arith,
            w.few,
            offer_drops (system_of b) (zones_of b) capacity w.state (child (system_of b) j (node_at l c p z) i)
                ((zones_of b).succ i z w.state.frac),
          );
        }

        -- a search that has stopped stays as it is
        pub stops : has_ended (outcome_of t'.outcome) ≡ true → Shown (suc (clocks b)) s₀ (opened b capacity j l z c p (edges b) 0 q₀) s' t'
        stops f = stays (expand_later (system_of b) (zones_of b) capacity j (node_at l c p z) (edges b - (i + 1)) (i + 1) next) rest shown f
