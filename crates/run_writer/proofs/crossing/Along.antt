-- A kept zone on its way along an edge that it crosses: it stays in range.
-- Assumes nothing.
use Rattle.zones.specs.Reductions.{is_empty}
use Prim.Native.Nat.{ℕ, suc, ◌*◌, ◌<◌, ◌≤◌}
use mathlib.Core.Path.{◌≡◌, refl, ap, ◌∙◌}
use mathlib.Core.Bool.{false}
use mathlib.Core.List.{List}
use native.Mathlib.Omega.{arith}
use Rattle.runs.specs.Limits.{scale}
use Rattle.zones.specs.declared.pair.Pair.{Pair}
use Rattle.zones.specs.declared.reduction.Reduced.{Reduced}
use Rattle.zones.specs.declared.zone.Work.{Work}
use Rattle.zones.specs.Fractions.{no_limit}
use Rattle.zones.specs.Ranges.{Fits32, Sized, counts}
use Rattle.zones.specs.Settled.{Settled}
use Rattle.zones.specs.Successors.{meet_of}
use Rattle.zones.specs.Zones.{set_of, reset_of}
use Rattle.automata.specs.declared.fields.Edge.{Edge}
use Rattle.automata.specs.Accepted.{Accepted}
use Rattle.automata.specs.Automata.{clocks, edges, locations, to, invariant_of, resets_of}
use Rattle.automata.specs.Opened.{edge_of}
use Rattle.search.specs.Exploring.{SoundZone}
use Rattle.search.specs.Instance.{work_of}
use Rattle.search.proofs.exploration.Arriving.{taken_sized, arrives, arrives_at}
use Rattle.search.proofs.successor.Stepping.{met_sized, reset_enters, invariant_scale, resets_are}
use Rattle.witness.specs.declared.Crossing.{Crossing}
use Rattle.witness.specs.Sizes.{Spans}
use Rattle.witness.specs.Witnesses.{back_of, landing_of}
use Rattle.run_writer.specs.Crossing.{guarded_by, arrived_by, Crossed, Crosses, back_along, landing_along}

whole_fits : Fits32 no_limit
whole_fits = record { n = omega arith; d = omega arith }

sized_spans : (P n : ℕ) (w : Work) → Sized P n w → Spans scale n w.zone
sized_spans P n w h x y hx hy = (h.ranged.bounded x y hx hy).m

pub zone_sized : (b : List ℕ) → Accepted b → (i : ℕ) → i < edges b → (z : List Pair) → SoundZone b z →
    Sized counts (suc (clocks b)) (work_of z no_limit)
zone_sized b a i hi z s = taken_sized b a i hi (work_of z no_limit) s whole_fits

module _ (b : List ℕ) (a : Accepted b) (i : ℕ) (z : List Pair) (x : Crosses b i z) where
  n≤ : suc (clocks b) ≤ 9
  n≤ = omega (arith, a.complete.clocks≤)

  -- ---- in range
  guarded_fits : Sized (10 * counts) (suc (clocks b)) (guarded_by b i z).work × Settled (suc (clocks b)) (guarded_by b i z).work
  guarded_fits = arrives b a i x.edge (work_of z no_limit) x.sound whole_fits refl x.live.guarded

  arrived_sized : Sized (10 * (10 * counts)) (suc (clocks b)) (arrived_by b i z).work
  arrived_sized =
      let c = clocks b in
      let c≤ = a.complete.clocks≤ in
      let q = reset_enters c c≤ (guarded_by b i z).work refl (10 * counts) (omega arith) (omega arith) (resets_of b i) refl guarded_fits in
      met_sized c c≤ (reset_of (suc c) (resets_of b i) (guarded_by b i z).work) refl (10 * counts) (omega arith) (omega arith)
      (invariant_of b (to b i)) (invariant_scale b a (to b i) (a.to< i x.edge)) q.0 refl x.live.entered

  guarded_spans : Spans scale (suc (clocks b)) (guarded_by b i z).work.zone
  guarded_spans = sized_spans (10 * counts) (suc (clocks b)) (guarded_by b i z).work guarded_fits.0

  arrived_spans : Spans scale (suc (clocks b)) (arrived_by b i z).work.zone
  arrived_spans = sized_spans (10 * (10 * counts)) (suc (clocks b)) (arrived_by b i z).work arrived_sized

  -- ---- the zone that met the guard, and the edge, as they were fetched
  module _ {edge : Edge} (f : edge ≡ edge_of b i) {r : Reduced} (e : r ≡ guarded_by b i z) where
    live : is_empty r ≡ false
    live = ap is_empty e ∙ x.live.guarded

    pub arrived_asks : (edge.to < locations b) × (Sized (10 * counts) (suc (clocks b)) r.work × Settled (suc (clocks b)) r.work)
    arrived_asks = (
      arrives_at b a i x.edge (work_of z no_limit) x.sound whole_fits e live f,
      arrives b a i x.edge (work_of z no_limit) x.sound whole_fits e live,
    )

    -- and with k indices what arrives
    module _ {m : Reduced}
        (g : m ≡ meet_of (clocks b) (invariant_of b edge.to) (reset_of (suc (clocks b)) (set_of edge.resets) r.work)) {k : ℕ}
        (s : k ≡ suc (clocks b)) where
      resets≡ : set_of edge.resets ≡ resets_of b i
      resets≡ = resets_are b a i x.edge (ap (λ (y : Edge). y.resets) f)

      arrived≡ : m ≡ arrived_by b i z
      arrived≡ = g ∙ (λ j. meet_of (clocks b) (invariant_of b (f j).to) (reset_of (suc (clocks b)) (resets≡ j) (e j).work))

      pub squares : (k ≤ 9) × Spans scale k r.work.zone × Spans scale k m.work.zone
      squares = rw (s, e, arrived≡) (n≤, guarded_spans, arrived_spans)

      pub crossed : {y : Crossing} → y.guarded.pairs ≡ r.work.zone → y.arrived.pairs ≡ m.work.zone → y.resets ≡ edge.resets →
          y.arrived.size ≡ k → Crossed b i z y
      crossed p q t n = record {
        guarded = p ∙ ap (λ (v : Reduced). v.work.zone) e;
        arrived = q ∙ ap (λ (v : Reduced). v.work.zone) arrived≡;
        resets = ap set_of t ∙ resets≡;
        size = n ∙ s;
      }

-- ---- through the crossing as it was made
module _ {b : List ℕ} {i : ℕ} {z : List Pair} {y : Crossing} (e : Crossed b i z y) where
  pub landing_is : landing_of y.arrived.pairs y.arrived.size ≡ landing_along b i z
  unfolding landing_along
  landing_is = λ j. landing_of (e.arrived j) (e.size j)

  pub back_is : (v : List ℕ) → back_of v y.arrived.pairs y.guarded.pairs (set_of y.resets) y.arrived.size ≡ back_along b i z v
  unfolding back_along
  back_is v = λ j. back_of v (e.arrived j) (e.guarded j) (e.resets j) (e.size j)
