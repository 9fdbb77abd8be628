-- The form is what stands before the edges, and then the edges by their numbers in order.
-- Assumes nothing.
use Prim.Native.Nat.{ℕ, ◌+◌, ◌-◌, ◌*◌, ◌≤◌, ◌<◌}
use mathlib.Core.List.{List, ◌++◌, append_assoc}
use mathlib.Core.Path.{◌≡◌, refl, sym, ap, ◌∙◌, subst}
use lib.ListN.{length, take, drop, length-map}
use native.Mathlib.Omega.{arith}
use Rattle.encoding.specs.Numbers.{be16, be32}
use Rattle.encoding.specs.Placing.{placed}
use Rattle.encoding.proofs.Placed.{goes_on}
use Rattle.order.specs.Edges.{sorted}
use Rattle.order.specs.Laid.{nth_edge, numbered, joined}
use Rattle.automata.specs.Accepted.{Complete}
use Rattle.automata.specs.Canonical.{invariants_size, ordered, form_length, canonical_of}
use Rattle.automata.proofs.canonical.Shape.{form_length_lem, small}
use Rattle.canonical.specs.declared.edges.Edges.{Edges}
use Rattle.canonical.specs.declared.ordering.Order.{Order}
use Rattle.canonical.specs.Edges.{EdgesOf}
use Rattle.canonical.specs.Numbers.{Lists, listed_bytes}
use Rattle.canonical.specs.Parts.{Sorted, front_of}
use Rattle.canonical.proofs.edges.Lying.{at_inside, lying}
use Rattle.canonical.proofs.writing.Front.{front_length}

pub sorted_in : (b : List ℕ) (o : Order) {e : Edges} → Complete b → EdgesOf b e → o.edges ≡ e
    → Lists e.size e.bytes.now e.count o.numbers.items → Sorted b o
sorted_in b o w q h l = record {
  complete = w;
  edges = subst (EdgesOf b) (sym h) q;
  order = subst (λ (k : Edges). Lists k.size k.bytes.now k.count o.numbers.items) (sym h) l;
}

module _ (b : List ℕ) (o : Order) (s : Sorted b o) where
  pub edges-ordered : numbered o.edges.size o.edges.bytes.now o.numbers.items ≡ ordered b
  edges-ordered = s.order.edges ∙ ap sorted (lying b s.edges)

  count_ordered : length o.numbers.items ≡ length (ordered b)
  count_ordered = sym (length-map o.numbers.items (nth_edge o.edges.size o.edges.bytes.now)) ∙ ap length edges-ordered

  form_length_is : o.edges.at + length o.numbers.items * o.edges.size ≡ form_length b
  form_length_is = λ i. s.edges.at i + count_ordered i * s.edges.size i

  at≤ : o.edges.at ≤ length b
  at≤ = at_inside b s.complete s.edges.at

  pub total_is : {n : ℕ} → n ≡ length o.numbers.items → o.edges.at + n * o.edges.size ≡ length (canonical_of b)
  total_is e = (λ i. o.edges.at + e i * o.edges.size) ∙ form_length_is ∙ sym (form_length_lem b s.complete)

  pub total-small : length (canonical_of b) < 4294967296
  total-small = omega (arith, form_length_lem b s.complete, small b s.complete)

  -- ---- what its front asks of a buffer of n bytes that has room for it
  module _ (n : ℕ) {total count : ℕ} (t : total ≡ length (canonical_of b)) (k : count ≡ length o.numbers.items) (h : total ≤ n) where
    pub asks_front : ((11 ≤ o.edges.at) × (o.edges.at ≤ length b) × (o.edges.at ≤ n)) × ((total < 4294967296) × (count < 4294967296))
    asks_front = (
      (omega (arith, s.edges.at), at≤, omega (arith, total_is refl)),
      (omega (arith, total-small), omega (arith, s.order.few, o.edges.few)),
    )

  -- ---- the whole of it
  form_parts : (total count : ℕ) → total ≡ length (canonical_of b) → count ≡ length o.numbers.items
      → front_of b o.edges.at total count ++ listed_bytes o.edges.size o.edges.bytes.now o.numbers.items ≡ canonical_of b
  unfolding front_of canonical_of
  form_parts total count t c =
      let n : total ≡ form_length b = t ∙ form_length_lem b s.complete in
      let m : count ≡ length (ordered b) = c ∙ count_ordered in
      let k : o.edges.at - 11 ≡ invariants_size b = omega (arith, s.edges.at) in
      simp append_assoc (λ i. be32 (n i) ++ (take 5 (drop 4 b) ++ (be16 (m i) ++ (take (k i) (drop 11 b) ++ joined (edges-ordered i)))))

  -- put one behind the other
  pub form_put : (form : List ℕ) {total count : ℕ} {one two : List ℕ} → total ≡ length (canonical_of b) → count ≡ length o.numbers.items
      → one ≡ placed 0 (front_of b o.edges.at total count) form
      → two ≡ placed o.edges.at (listed_bytes o.edges.size o.edges.bytes.now o.numbers.items) one → two ≡ placed 0 (canonical_of b) form
  form_put form {total} {count} t c p q =
      let front = front_of b o.edges.at total count in
      let long = front_length b o.edges.at total count (omega (arith, s.edges.at)) at≤ in
      goes_on form front (listed_bytes o.edges.size o.edges.bytes.now o.numbers.items) 0 o.edges.at (omega arith) (omega (arith, long)) p refl q
      ∙ ap (λ (l : List ℕ). placed 0 l form) (form_parts total count t c)
