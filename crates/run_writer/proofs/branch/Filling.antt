-- The run written from its end back: what stands in the buffer after each turn, and how the definition goes on from there.
use Prim.Native.Nat.{ℕ, suc, ◌+◌, ◌-◌, ◌*◌, ◌≤◌}
use mathlib.Core.Bool.{true}
use mathlib.Core.List.{List, [], ◌∷◌, ◌++◌, append_assoc}
use mathlib.Core.Path.{◌≡◌, sym, ap, ◌∙◌}
use lib.IntN.{ℤ, pos}
use lib.ListN.{length, get_or, drop, take, set, take-append-drop, length-append}
use lib.Seq.{take-suc, set_at, length-take-le, append_snoc}
use native.Mathlib.Omega.{arith}
use Rattle.automata.specs.Automata.{clocks}
use Rattle.automata.specs.Semantics.{system_of}
use Rattle.reachability.specs.Witnesses.{back_to, last_state}
use Rattle.reachability.proofs.Lists.{All, nth_tail}
use Rattle.reachability.proofs.Robust.{exact_there}
use Rattle.reachability.proofs.Same.{Tight, all_tight}
use Rattle.runs.specs.Runs.{Step, wait, jump, jumps}
use Rattle.runs.specs.Written.{numbers, written}
use Rattle.search.specs.Answers.{state_of}
use Rattle.search.specs.Instance.{ZoneNode, zones_of, meaning_of}
use Rattle.search.specs.Outcomes.{came_of}
use Rattle.search.specs.Store.{origin_of, capacity_of}
use Rattle.search.proofs.exploration.Judging.{came_back}
use Rattle.search.proofs.instance.Obeys.{laws}
use Rattle.slots.specs.declared.slot.Origin.{Origin}
use Rattle.slots.specs.Slots.{slot_length, is_along}
use Rattle.witness.specs.Witnesses.{StepBack}
use Rattle.witness.specs.Witnesses.{clocks_of}
use Rattle.zones.specs.declared.pair.Pair.{Pair}
use Rattle.zones.specs.Integers.{up}
use Rattle.run_writer.specs.Branch.{kept_of, Ended, Standing, jumps_before}
use Rattle.run_writer.specs.Crossing.{witnesses_of, Crosses, Leaves, back_along, landing_along}
use Rattle.run_writer.specs.Writing.{run_of}
use Rattle.run_writer.proofs.Witnessing.{crosses}
use Rattle.run_writer.proofs.branch.Stepping.{source, sound_zone, asks_slot, reads_counts, reads_zone}
use Rattle.run_writer.proofs.branch.Walking.{Along, along, edge_is}

module _ {b : List ℕ} {amount : ℕ} {s : List ℤ} (e : Ended b amount s) {o : Origin} (st : Standing b amount o) where
  abbrev ks : List ZoneNode
  ks = kept_of b amount

  tights : All (Tight (system_of b) (zones_of b) (meaning_of b) 1 0) (kept_of b amount)
  tights =
      let L = laws b e.accepted in
      let c = capacity_of (suc (clocks b)) amount in
      all_tight (system_of b) (zones_of b) (meaning_of b) 1 0 1 0 L.shapes L.exact (L.exact_falls 1 0) c
      (exact_there (system_of b) (zones_of b) (meaning_of b) 1 0 L c)

  -- ---- a zone that came along an edge
  module _ (h : is_along o ≡ true) where
    abbrev a : Along st
    a = along st h

    pub crosses_back : {i : ℕ} {z : List Pair} → i ≡ up o.edge → z ≡ (source e st h).zone → Crosses b i z
    crosses_back f g =
        let k = source e st h in
        let j = a.jumps in
        let t = tights a.parent k j.kept in
        rw (f ∙ edge_is st a, g)
        (crosses b e.accepted a.edge k.zone st.node.zone j.before j.after j.edge (sound_zone e st h) t.shape t.fit
        j.made j.fine.1)

    -- its slot, as the code reads it
    pub leaves_back : {i slot stride : ℕ} → i ≡ up o.edge → slot ≡ up o.parent → stride ≡ slot_length (suc (clocks b)) →
        Leaves b i (take (length s - slot * stride) (drop (slot * stride) s))
    leaves_back f es ed = record {
      long = asks_slot e st h es ed;
      natural = reads_counts e st h es ed;
      crosses = crosses_back f (reads_zone e st h es ed);
    }

    -- the last state of the run to it
    pub last_along : {i : ℕ} {z : List Pair} {r : List ℕ} → i ≡ up o.edge → z ≡ (source e st h).zone → r ≡ landing_along b i z
        → r ≡ last_state (witnesses_of b) (kept_of b amount) (came_of o)
    unfolding last_state
    last_along f g r =
        let k = source e st h in
        r ∙ (λ x. landing_along b ((f ∙ edge_is st a) x) (g x))
        ∙ sym (rw (a.came, last_state, nth_tail ks a.parent k a.jumps.kept))

    -- one step of the definition
    pub back_step : (m : ℕ) (v : List ℕ) (xs : List Step) {i : ℕ} {z : List Pair} {r : StepBack} {o' : Origin} → i ≡ up o.edge
        → z ≡ (source e st h).zone → r ≡ back_along b i z v → o' ≡ origin_of (source e st h).came
        → back_to (witnesses_of b) (suc m) (kept_of b amount) (came_of o) v xs
        ≡ back_to (witnesses_of b) m (kept_of b amount) (came_of o') r.valuation (jump i ∷ wait r.wait ∷ xs)
    unfolding back_to
    back_step m v xs {r = w} f g r p =
        let k = source e st h in
        let i≡ = f ∙ edge_is st a in
        let w≡ = r ∙ (λ x. back_along b (i≡ x) (g x) v) in
        let c≡ = ap came_of p ∙ came_back k.came in
        rw (a.came, back_to, nth_tail ks a.parent k a.jumps.kept)
        (λ x. back_to (witnesses_of b) m ks (sym c≡ x) (sym w≡ x).valuation (jump (sym i≡ x) ∷ wait (sym w≡ x).wait ∷ xs))

-- ---- the buffer: two numbers become x and y
two_more : (r R : List ℤ) (n : ℕ) (x y : ℤ) → n + 2 ≤ length r → set (set (take (n + 2) r ++ R) n x) (n + 1) y ≡ take n r ++ (x ∷ y ∷ R)
two_more r R n x y h =
    let p = get_or r n (pos 0) in
    let q = get_or r (suc n) (pos 0) in
    let front = take n r in
    let size : length front ≡ n = length-take-le n r (omega arith) in
    let two : n + 2 ≡ suc (suc n) = omega arith in
    let one : n + 1 ≡ suc n = omega arith in
    let split : take (suc (suc n)) r ++ R ≡ front ++ (p ∷ q ∷ R) =
    rw (take-suc r (suc n) (pos 0) (omega arith), take-suc r n (pos 0) (omega arith)) (simp append_assoc) in
    let last : length (front ++ (x ∷ [])) ≡ suc n = length-append front (x ∷ []) ∙ omega (arith, size) in
    rw (two, one, split, set_at front p (q ∷ R) x n size, ← append_snoc front x (q ∷ R))
    (set_at (front ++ (x ∷ [])) q R y (suc n) last ∙ append_snoc front x (y ∷ R))

-- ---- with `left` jumps to go: the steps after them are written, and the definition goes on from the state v of a zone of the origin o
pub record Filled (b : List ℕ) (amount : ℕ) (r₀ run : List ℤ) (k : ℕ) (o₀ o : Origin) (v : List ℕ) (left : ℕ) : Type 0 where
  pub steps : List Step
  pub rest : back_to (witnesses_of b) left (kept_of b amount) (came_of o) v steps ≡ run_of b (state_of b amount) (came_of o₀)
  pub count : length (jumps steps) + left ≡ k
  pub buffer : run ≡ take (2 * left + 2) r₀ ++ (numbers steps ++ drop (2 * k + 2) r₀)

pub fill_none : {b : List ℕ} {amount : ℕ} {o : Origin} {k : ℕ} {v : List ℕ} (r : List ℤ) → k ≡ jumps_before b amount o
    → v ≡ last_state (witnesses_of b) (kept_of b amount) (came_of o) → Filled b amount r r k o o v k
fill_none {b} {amount} {o} {k} r e f = record {
  steps = [];
  rest = λ x. back_to (witnesses_of b) (e x) (kept_of b amount) (came_of o) (f x) [];
  count = omega arith;
  buffer = sym (take-append-drop (2 * k + 2) r);
}

module _ {b : List ℕ} {amount : ℕ} {r₀ run : List ℤ} {k : ℕ} {o₀ o : Origin} {v : List ℕ} where
  -- one jump more
  pub fill_turn : {left' left : ℕ} (i : ℕ) (r : StepBack) {o' : Origin} → left' ≡ left + 1 → 2 * left' + 2 ≤ length r₀
      → Filled b amount r₀ run k o₀ o v left'
      → ((m : ℕ) (xs : List Step) → back_to (witnesses_of b) (suc m) (kept_of b amount) (came_of o) v xs
      ≡ back_to (witnesses_of b) m (kept_of b amount) (came_of o') r.valuation (jump i ∷ wait r.wait ∷ xs))
      → Filled b amount r₀ (set (set run (2 * left + 2) (pos i)) (2 * left + 2 + 1) (pos r.wait)) k o₀ o' r.valuation left
  fill_turn {left'} {left} i r e l d step =
      let one : left' ≡ suc left = omega (arith, e) in
      let rest : back_to (witnesses_of b) (suc left) (kept_of b amount) (came_of o) v d.steps ≡ run_of b (state_of b amount) (came_of o₀) =
      rw one at d.rest in
      let n : 2 * left' ≡ 2 * left + 2 = omega (arith, e) in
      record {
        steps = jump i ∷ wait r.wait ∷ d.steps;
        rest = sym (step left d.steps) ∙ rest;
        count = omega (arith, d.count, e);
        buffer = rw (d.buffer, n) (two_more r₀ (numbers d.steps ++ drop (2 * k + 2) r₀) (2 * left + 2) (pos i) (pos r.wait) (omega (arith, n, l)));
      }

  -- the first wait, and the count
  pub fill_all : {left : ℕ} → left ≡ 0 → 2 ≤ length r₀ → Filled b amount r₀ run k o₀ o v left
      → set (set run 0 (pos (2 * k + 2))) 1 (pos (clocks_of v 1)) ≡ written (run_of b (state_of b amount) (came_of o₀)) ++ drop (2 * k + 2) r₀
  unfolding back_to
  fill_all {left} z m d =
      let R = numbers d.steps ++ drop (2 * k + 2) r₀ in
      let whole : wait (clocks_of v 1) ∷ d.steps ≡ run_of b (state_of b amount) (came_of o₀) = rw z at d.rest in
      let size : length (jumps d.steps) ≡ k = omega (arith, d.count) in
      let here : run ≡ take 2 r₀ ++ R = d.buffer ∙ ap (λ (i : ℕ). take (2 * i + 2) r₀ ++ R) z in
      rw (here, ← whole, size) (two_more r₀ R 0 (pos (2 * k + 2)) (pos (clocks_of v 1)) m)
