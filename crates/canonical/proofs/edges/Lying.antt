-- The edges of an automaton lie behind its invariants, to the end of its bytes.
-- Assumes nothing.
use Prim.Native.Nat.{ℕ, ◌+◌, ◌-◌, ◌*◌, ◌≤◌}
use mathlib.Core.Bool.{Bool}
use mathlib.Core.List.{List}
use mathlib.Core.Path.{◌≡◌, sym, ap, ◌∙◌}
use lib.ListN.{length, take, drop, length-drop}
use lib.Seq.{take_all}
use native.Mathlib.Omega.{arith}
use Rattle.order.specs.Edges.{rising}
use Rattle.order.specs.Laid.{edges_from, first_edges}
use Rattle.order.proofs.Laid.{from-drop}
use Rattle.automata.specs.Accepted.{Complete}
use Rattle.automata.specs.Automata.{edges}
use Rattle.automata.specs.Canonical.{edge_size, invariants_size, in_order}
use Rattle.automata.proofs.canonical.Shape.{whole}
use Rattle.canonical.specs.declared.edges.Edges.{Edges}
use Rattle.canonical.specs.Edges.{EdgesOf}

-- the part that is lent from there on
pub lent_part : (b : List ℕ) (at : ℕ) → take (length b - at) (drop at b) ≡ drop at b
lent_part b at = take_all (length b - at) (drop at b) (omega (arith, length-drop at b))

module _ (b : List ℕ) (w : Complete b) {at : ℕ} (a : at ≡ 11 + invariants_size b) where
  pub at_inside : at ≤ length b
  at_inside = omega (arith, whole b w)

  pub part_whole : {count size : ℕ} → count ≡ edges b → size ≡ edge_size b → count * size ≤ length (take (length b - at) (drop at b))
  part_whole c s =
      let k = ap length (lent_part b at) ∙ length-drop at b in
      rw (c, s) (omega (arith, whole b w, k))

-- those that lie there are those as drawn
pub lying : (b : List ℕ) {e : Edges} → EdgesOf b e
    → first_edges e.size e.bytes.now e.count ≡ edges_from (edge_size b) b (11 + invariants_size b) (edges b)
lying b {e} q =
    let z : e.at + 0 ≡ 11 + invariants_size b = omega (arith, q.at) in
    ap (λ (s : List ℕ). edges_from e.size s 0 e.count) q.bytes
    ∙ sym (from-drop e.size b e.at 0 e.count) ∙ (λ i. edges_from (q.size i) b (z i) (q.count i))

pub rising_drawn : (b : List ℕ) {e : Edges} → EdgesOf b e → {r : Bool} → r ≡ rising (first_edges e.size e.bytes.now e.count) → r ≡ in_order b
unfolding in_order
rising_drawn b q h = h ∙ ap rising (lying b q)

pub ruleset lies = (at_inside, part_whole, lent_part)
