-- An automaton and its form are alike, each way.
-- Assumes nothing.
use Prim.Native.Nat.{ℕ, ◌+◌, ◌*◌, ◌<◌}
use mathlib.Core.List.{List, []}
use mathlib.Core.Path.{◌≡◌, sym, ap, ◌∙◌}
use lib.ListN.{length, get_or, drop}
use lib.Seq.{get_or-take, get_or-drop}
use native.Mathlib.Omega.{arith}
use Rattle.order.specs.Edges.{Edge}
use Rattle.order.specs.Laid.{edge_bytes}
use Rattle.order.proofs.Laid.{from_at}
use Rattle.order.proofs.Places.{StandsAt, number-sorted, number-drawn}
use Rattle.automata.specs.Accepted.{Complete}
use Rattle.automata.specs.Automata.{clocks, edges, edge_in, edge_at}
use Rattle.automata.specs.Canonical.{edge_size, invariants_size, drawn, ordered, canonical_of, to_form, to_drawn}
use Rattle.automata.specs.Forms.{SameNumbered}
use Rattle.automata.proofs.canonical.Alike.{Agree, Alike}
use Rattle.automata.proofs.canonical.Shape.{many_drawn, clocks_same, locations_same, start_same, target_same, edges_form}
use Rattle.automata.proofs.canonical.Shape.{form_invariants, form_drawn}

-- ---- equal edges
-- the bytes of edge i
drawn_at : (b : List ℕ) (i : ℕ) → i < edges b → get_or (drawn b) i [] ≡ edge_bytes (edge_size b) b (edge_at b i)
unfolding edge_in
drawn_at b i h = from_at (edge_size b) b (11 + invariants_size b) (edges b) i h

edges_agree : (size : ℕ) (b c : List ℕ) (p q : ℕ) → edge_bytes size b p ≡ edge_bytes size c q → Agree b c p q size
unfolding edge_bytes
edges_agree size b c p q e = record {
  byte = λ k h.
      sym (get_or-drop p b k 0) ∙ sym (get_or-take size (drop p b) k 0 h)
      ∙ ap (λ (l : List ℕ). get_or l k 0) e ∙ get_or-take size (drop q c) k 0 h ∙ get_or-drop q c k 0;
}

-- edge i of b has the bytes of edge j of c
same_edge : (b c : List ℕ) (i j : ℕ) → clocks c ≡ clocks b → i < edges b → j < edges c → get_or (drawn c) j [] ≡ get_or (drawn b) i []
    → Agree b c (edge_at b i) (edge_at c j) (edge_size b)
same_edge b c i j g h m e =
    edges_agree (edge_size b) b c (edge_at b i) (edge_at c j)
    (sym (drawn_at b i h) ∙ sym e ∙ drawn_at c j m ∙ ap (λ (n : ℕ). edge_bytes (3 + 8 * n) c (edge_at c j)) g)

module _ (b : List ℕ) (w : Complete b) where
  -- ---- numbers
  many_ordered : edges (canonical_of b) ≡ length (ordered b)
  many_ordered = edges_form b w.head w.edges≤

  there : (i : ℕ) → i < edges b → StandsAt (ordered b) (get_or (drawn b) i []) (to_form b i)
  there i h = number-sorted (drawn b) i (omega (arith, many_drawn b))

  there< : (i : ℕ) → i < edges b → to_form b i < edges (canonical_of b)
  there< i h = omega (arith, (there i h).inside, many_ordered)

  back : (j : ℕ) → j < edges (canonical_of b) → StandsAt (drawn b) (get_or (ordered b) j []) (to_drawn b j)
  back j h = number-drawn (drawn b) j (omega (arith, many_ordered))

  back< : (j : ℕ) → j < edges (canonical_of b) → to_drawn b j < edges b
  back< j h = omega (arith, (back j h).inside, many_drawn b)

  -- edge j of the form
  form_at : (j : ℕ) → get_or (drawn (canonical_of b)) j [] ≡ get_or (ordered b) j []
  form_at j = ap (λ (es : List Edge). get_or es j []) (form_drawn b w)

  -- "up to the numbering of edges"
  pub numbered_there : SameNumbered b (canonical_of b) (to_form b)
  numbered_there = record { inside = there<; bytes = λ i h. form_at (to_form b i) ∙ (there i h).bytes }

  pub numbered-back : SameNumbered (canonical_of b) b (to_drawn b)
  numbered-back = record { inside = back<; bytes = λ j h. (back j h).bytes ∙ sym (form_at j) }

  size_same : invariants_size (canonical_of b) ≡ invariants_size b
  size_same = λ t. 8 * clocks_same b w.head t * locations_same b w.head t

  -- ---- alike
  pub form_alike : Alike b (canonical_of b) (to_form b)
  form_alike = record {
    clocks≡ = clocks_same b w.head;
    locations≡ = locations_same b w.head;
    start≡ = start_same b w.head;
    target≡ = target_same b w.head;
    invariants = form_invariants b w;
    edge = there<;
    bytes = λ i h. same_edge b (canonical_of b) i (to_form b i) (clocks_same b w.head) h (there< i h) (numbered_there.bytes i h);
  }

  pub drawn_alike : Alike (canonical_of b) b (to_drawn b)
  drawn_alike = record {
    clocks≡ = sym (clocks_same b w.head);
    locations≡ = sym (locations_same b w.head);
    start≡ = sym (start_same b w.head);
    target≡ = sym (target_same b w.head);
    invariants = record { byte = λ k h. sym ((form_invariants b w).byte k (omega (arith, size_same))) };
    edge = back<;
    bytes = λ j h. same_edge (canonical_of b) b j (to_drawn b j) (sym (clocks_same b w.head)) h (back< j h) (numbered-back.bytes j h);
  }
