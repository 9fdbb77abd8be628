-- The parts of the form: its head is the automaton's but for the length and the number of edges, then the invariants, then the edges in order.
-- Assumes nothing.
use Prim.Native.Nat.{ℕ, ◌+◌, ◌*◌, ◌<◌, ◌≤◌}
use mathlib.Core.List.{List, [], ◌∷◌, ◌++◌, append-nil}
use mathlib.Core.Path.{◌≡◌, sym, ap, ◌∙◌}
use lib.ListN.{length, get_or, take, drop, length-drop, length-append, get_or-append}
use lib.Seq.{get_or-take, get_or-drop, drop-drop, drop_at, length-take-le}
use native.Mathlib.Nat.{mul-le-mul_right}
use native.Mathlib.Omega.{arith}
use Rattle.std.proofs.lemmas.Grind.{common_steps}
use Rattle.encoding.specs.Numbers.{be16_at, be32_at, be16, be32}
use Rattle.order.specs.Laid.{edges_from, joined}
use Rattle.order.proofs.Sorted.{sorted-length, sorted_member}
use Rattle.order.proofs.Laid.{Sized, read_back, from_sized, from-length, from-drop, joined_length}
use Rattle.automata.specs.Accepted.{Complete}
use Rattle.automata.specs.Automata.{length_field, version, clocks, locations, start, target, edges, edge_in, formula}
use Rattle.automata.specs.Canonical.{edge_size, invariants_size, drawn, ordered, form_length, canonical_of}
use Rattle.automata.proofs.canonical.Alike.{Agree}
use Rattle.encoding.proofs.Numbers.{be16-back, be32-back}

pub many_drawn : (b : List ℕ) → length (drawn b) ≡ edges b
many_drawn b = from-length (edge_size b) b (11 + invariants_size b) (edges b)

pub fewer : (b : List ℕ) → length (ordered b) ≤ edges b
fewer b = omega (arith, sorted-length (drawn b), many_drawn b)

-- what follows the head
abbrev rest : List ℕ → List ℕ
rest b = take (invariants_size b) (drop 11 b) ++ joined (ordered b)

-- ---- the head
module _ (b : List ℕ) (h : 11 ≤ length b) where
  -- the five bytes that stay
  pub kept : take 5 (drop 4 b) ≡ version b ∷ clocks b ∷ locations b ∷ start b ∷ target b ∷ []
  kept = grind (arith, common_steps)

  -- the form, byte by byte up to the invariants
  laid : canonical_of b
      ≡ be32 (form_length b) ++ (version b ∷ clocks b ∷ locations b ∷ start b ∷ target b ∷ (be16 (length (ordered b)) ++ rest b))
  unfolding canonical_of
  laid = ap (λ (l : List ℕ). be32 (form_length b) ++ (l ++ (be16 (length (ordered b)) ++ rest b))) kept

  pub version_same : version (canonical_of b) ≡ version b
  unfolding be32
  version_same = ap version laid

  pub clocks_same : clocks (canonical_of b) ≡ clocks b
  unfolding be32
  clocks_same = ap clocks laid

  pub locations_same : locations (canonical_of b) ≡ locations b
  unfolding be32
  locations_same = ap locations laid

  pub start_same : start (canonical_of b) ≡ start b
  unfolding be32
  start_same = ap start laid

  pub target_same : target (canonical_of b) ≡ target b
  unfolding be32
  target_same = ap target laid

  pub edges_form : edges b ≤ 256 → edges (canonical_of b) ≡ length (ordered b)
  unfolding be32 be16 be16_at
  edges_form g = ap edges laid ∙ be16-back (length (ordered b)) [] (omega (arith, fewer b))

  pub body : drop 11 (canonical_of b) ≡ rest b
  unfolding be32 be16
  body = ap (drop 11) laid

-- ---- what follows it
module _ (b : List ℕ) (w : Complete b) where
  pub whole : 11 + invariants_size b + edges b * edge_size b ≤ length b
  unfolding edge_in
  whole = omega (arith, w.size)

  pub invariants_length : length (take (invariants_size b) (drop 11 b)) ≡ invariants_size b
  invariants_length = length-take-le (invariants_size b) (drop 11 b) (omega (arith, whole, length-drop 11 b))

  ordered_sized : Sized (edge_size b) (ordered b)
  ordered_sized x m = from_sized (edge_size b) b (11 + invariants_size b) (edges b) whole x ((sorted_member (drawn b) x).0 m)

  -- ---- lengths
  pub form_length_lem : length (canonical_of b) ≡ form_length b
  unfolding be32 be16
  form_length_lem =
      ap length (laid b w.head)
      ∙ omega (
        arith,
        length-append (take (invariants_size b) (drop 11 b)) (joined (ordered b)),
        invariants_length,
        joined_length (edge_size b) (ordered b) ordered_sized,
      )

  pub form_formula : formula (canonical_of b) ≡ form_length b
  unfolding edge_in
  form_formula =
      let c = clocks_same b w.head in
      let l = locations_same b w.head in
      λ t. 11 + 8 * c t * l t + edges_form b w.head w.edges≤ t * (3 + 8 * c t)

  pub small : form_length b < 4294967296
  small =
      let e : 8 * clocks b ≤ 64 = omega (arith, w.clocks≤) in
      omega (
        arith,
        mul-le-mul_right (locations b) e,
        w.locations≤,
        mul-le-mul_right (edge_size b) (fewer b),
        mul-le-mul_right (edge_size b) w.edges≤,
        w.clocks≤,
      )

  -- the length is read from the first bytes, whatever follows
  pub form_field : (more : List ℕ) → length_field (canonical_of b ++ more) ≡ form_length b
  unfolding canonical_of be32 be32_at be16_at
  form_field more = be32-back (form_length b) [] small

  -- ---- parts
  pub form_invariants : Agree b (canonical_of b) 11 11 (invariants_size b)
  form_invariants = record {
    byte = λ k h.
        sym (get_or-drop 11 b k 0) ∙ sym (get_or-take (invariants_size b) (drop 11 b) k 0 h)
        ∙ sym (get_or-append (take (invariants_size b) (drop 11 b)) (joined (ordered b)) 0 k (omega (arith, invariants_length)))
        ∙ sym (ap (λ (l : List ℕ). get_or l k 0) (body b w.head)) ∙ get_or-drop 11 (canonical_of b) k 0;
  }

  -- the bytes behind the invariants are the edges in order
  form_edges : drop (11 + invariants_size b) (canonical_of b) ≡ joined (ordered b)
  form_edges =
      sym (drop-drop (invariants_size b) 11 (canonical_of b)) ∙ ap (drop (invariants_size b)) (body b w.head)
      ∙ drop_at (take (invariants_size b) (drop 11 b)) (joined (ordered b)) (invariants_size b) invariants_length

  pub form_drawn : drawn (canonical_of b) ≡ ordered b
  form_drawn =
      let at : ℕ = 11 + invariants_size b in
      let n : ℕ = length (ordered b) in
      let c = clocks_same b w.head in
      let l = locations_same b w.head in
      let z : at + 0 ≡ at = omega arith in
      (λ t. edges_from (3 + 8 * c t) (canonical_of b) (11 + 8 * c t * l t) (edges_form b w.head w.edges≤ t))
      ∙ ap (λ (m : ℕ). edges_from (edge_size b) (canonical_of b) m n) (sym z)
      ∙ from-drop (edge_size b) (canonical_of b) at 0 n
      ∙ ap (λ (l : List ℕ). edges_from (edge_size b) l 0 n) (form_edges ∙ sym (append-nil (joined (ordered b))))
      ∙ read_back (edge_size b) (ordered b) [] ordered_sized
