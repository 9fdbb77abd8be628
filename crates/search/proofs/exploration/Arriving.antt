-- What a taken zone comes to along an edge: empty after the guard, or reset, entered and judged. Either way the definition's successor is
-- what is offered.
-- Assumes nothing.
use Rattle.zones.specs.Reductions.{is_empty, safe_of}
use Prim.Native.Nat.{ℕ, suc, ◌*◌, ◌<◌}
use mathlib.Core.Path.{◌≡◌, refl, sym, ap, ◌∙◌, subst}
use mathlib.Core.Bool.{true, false}
use mathlib.Core.List.{List}
use lib.IntN.{ℤ}
use native.Mathlib.Omega.{arith}
use Rattle.zones.specs.declared.reduction.Reduced.{Reduced}
use Rattle.zones.specs.declared.zone.Work.{Work}
use Rattle.zones.specs.Ranges.{Fits32, Sized, counts}
use Rattle.zones.specs.Settled.{Settled}
use Rattle.zones.specs.Successors.{meet_of}
use Rattle.zones.specs.Zones.{set_of}
use Rattle.automata.specs.declared.fields.Edge.{Edge}
use Rattle.search.specs.Outcomes.{emptied_by}
use Rattle.search.specs.Outcomes.{SearchTurn as Turn}
use Rattle.automata.specs.Accepted.{Accepted}
use Rattle.automata.specs.Automata.{clocks, edges, locations, to, guard_of, resets_of, invariant_of}
use Rattle.search.specs.Exploring.{Offers, arrival_of, successor_of, SoundResult, SoundZone}
use Rattle.automata.specs.Opened.{edge_of}
use Rattle.slots.specs.declared.slot.Origin.{Origin}
use Rattle.search.proofs.exploration.Judging.{gives_empty}
use Rattle.search.proofs.exploration.Sounding.{node_sized, follow_sound}
use Rattle.search.proofs.successor.Stepping.{followed_none, followed, guard_scale, met_safe, met_sized, met_settled, resets_are}

-- an offer gives the same, by whatever name its location and its zone go
pub gives_of : (b : List ℕ) (capacity : ℕ) (s : List ℤ) (turn : Turn) (s' : List ℤ) (t : Turn) {l l' : ℕ} {o : Origin} {r r' : Reduced} →
    l ≡ l' → r ≡ r' → Offers b capacity s turn l o r s' t → Offers b capacity s turn l' o r' s' t
gives_of b capacity s turn s' t e f g p = rw (← e, ← f) (g p)

module _ (b : List ℕ) (a : Accepted b) (i : ℕ) (hi : i < edges b) (w : Work) (z : SoundZone b w.zone) (fits : Fits32 w.fraction) where
  pub taken_sized : Sized counts (suc (clocks b)) w
  taken_sized = node_sized b a w.zone w.fraction z.ranged fits

  -- r is what the guard leaves
  module _ {r : Reduced} (e : r ≡ meet_of (clocks b) (guard_of b i) w) where
    -- what the safe fraction is then lowered by is in range
    pub emptied_fits : Fits32 (safe_of r)
    emptied_fits =
        met_safe (clocks b) a.complete.clocks≤ w refl counts (omega arith) (omega arith) (guard_of b i) (guard_scale b a i hi) taken_sized e

    pub follows_none : is_empty r ≡ true → (capacity : ℕ) (s : List ℤ) (turn : Turn) (o : Origin) → {t : Turn} →
        t ≡ emptied_by turn r.work.fraction (safe_of r) → Offers b capacity s turn (to b i) o (successor_of b i w) s t
    follows_none f capacity s turn o {t} g =
        gives_of b capacity s turn s t refl
        (followed_none (clocks b) a.complete.clocks≤ w refl (guard_of b i) (resets_of b i) (invariant_of b (to b i)) e f)
        (λ p. gives_empty b capacity s turn (to b i) r p f g)

    module _ (live : is_empty r ≡ false) where
      pub arrives : Sized (10 * counts) (suc (clocks b)) r.work × Settled (suc (clocks b)) r.work
      arrives = (
        met_sized (clocks b) a.complete.clocks≤ w refl counts (omega arith) (omega arith) (guard_of b i) (guard_scale b a i hi) taken_sized e live,
        met_settled (clocks b) a.complete.clocks≤ w refl counts (omega arith) (omega arith) (guard_of b i)
            (guard_scale b a i hi) taken_sized e live,
      )

      -- with the edge as it was fetched
      module _ {edge : Edge} (f : edge ≡ edge_of b i) where
        pub edge_to : edge.to ≡ to b i
        edge_to = ap (λ (x : Edge). x.to) f

        pub arrives_at : edge.to < locations b
        arrives_at = subst (λ (l : ℕ). l < locations b) (sym edge_to) (a.to< i hi)

        pub follows : arrival_of b edge.to (set_of edge.resets) r.work ≡ successor_of b i w
        follows =
            let R = resets_are b a i hi (ap (λ (x : Edge). x.resets) f) in
            (λ k. arrival_of b (edge_to k) (R k) r.work)
            ∙ followed (clocks b) a.complete.clocks≤ w refl (guard_of b i) (resets_of b i) (invariant_of b (to b i)) e live

        pub follows_offer : (capacity : ℕ) (s : List ℤ) (turn : Turn) (s' : List ℤ) (t : Turn) {o : Origin} →
            Offers b capacity s turn edge.to o (arrival_of b edge.to (set_of edge.resets) r.work) s' t →
            Offers b capacity s turn (to b i) o (successor_of b i w) s' t
        follows_offer capacity s turn s' t = gives_of b capacity s turn s' t edge_to follows

        pub arrives_sound : SoundResult b (arrival_of b edge.to (set_of edge.resets) r.work)
        arrives_sound = subst (SoundResult b) (sym follows) (follow_sound b a i hi w.zone w.fraction z.ranged z.framed fits)
