-- The form depends on the set of edges alone; written again it does not change.
-- Assumes nothing.
use Prim.Native.Nat.{ℕ, ◌+◌, ◌*◌}
use mathlib.Core.List.{List, [], ◌∷◌, ◌++◌}
use mathlib.Core.Path.{◌≡◌, sym, ap, ◌∙◌}
use lib.ListN.{length, take, drop}
use lib.Seq.{take_at}
use Rattle.encoding.specs.Numbers.{be16, be32}
use Rattle.order.specs.Edges.{sorted}
use Rattle.order.specs.Laid.{joined}
use Rattle.order.proofs.Sorted.{same_sorted, sorted_again}
use Rattle.automata.specs.Accepted.{Complete, Accepted}
use Rattle.automata.specs.Automata.{version, clocks, locations}
use Rattle.automata.specs.Canonical.{invariants_size, drawn, ordered, canonical_of}
use Rattle.automata.specs.Forms.{SameAutomaton}
use Rattle.automata.proofs.canonical.Shape.{kept, clocks_same, locations_same, body, invariants_length, form_drawn}

-- equal parts, equal forms
parts_same : (b c : List ℕ) → clocks b ≡ clocks c → locations b ≡ locations c → take 5 (drop 4 b) ≡ take 5 (drop 4 c)
    → take (invariants_size b) (drop 11 b) ≡ take (invariants_size c) (drop 11 c) → ordered b ≡ ordered c → canonical_of b ≡ canonical_of c
unfolding canonical_of
parts_same b c k l m v o = λ t.
    be32 (11 + 8 * k t * l t + length (o t) * (3 + 8 * k t)) ++ (m t ++ (be16 (length (o t)) ++ (v t ++ joined (o t))))

-- "Two cards that differ only in order and repeats of edges give equal bytes"
pub forms_same : (b c : List ℕ) → Accepted b → Accepted c → SameAutomaton b c → canonical_of b ≡ canonical_of c
forms_same b c p q s =
    let v : version b ≡ version c = p.version≡ ∙ sym q.version≡ in
    let five : take 5 (drop 4 b) ≡ take 5 (drop 4 c) =
    kept b p.complete.head ∙ (λ t. v t ∷ s.clocks≡ t ∷ s.locations≡ t ∷ s.start≡ t ∷ s.target≡ t ∷ []) ∙ sym (kept c q.complete.head)
    in
    parts_same b c s.clocks≡ s.locations≡ five s.invariants (same_sorted (drawn b) (drawn c) s.edges)

module _ (b : List ℕ) (w : Complete b) where
  five_again : take 5 (drop 4 (canonical_of b)) ≡ take 5 (drop 4 b)
  unfolding canonical_of be32
  five_again = take_at (take 5 (drop 4 b)) _ 5 (ap length (kept b w.head))

  invariants_again : take (invariants_size (canonical_of b)) (drop 11 (canonical_of b)) ≡ take (invariants_size b) (drop 11 b)
  invariants_again =
      (λ t. take (8 * clocks_same b w.head t * locations_same b w.head t) (body b w.head t))
      ∙ take_at (take (invariants_size b) (drop 11 b)) (joined (ordered b)) (invariants_size b) (invariants_length b w)

  -- "writing again changes nothing"
  pub again : canonical_of (canonical_of b) ≡ canonical_of b
  again =
      parts_same (canonical_of b) b (clocks_same b w.head) (locations_same b w.head) five_again invariants_again
      (ap sorted (form_drawn b w) ∙ sorted_again (drawn b))
