-- What document 02, Change 1, says of the form of an automaton.
use Rattle.std.specs.Prelude.{ℕ, ◌<◌, true, List, [], ◌++◌, ◌↔◌, ◌≡◌, length, get_or, take, drop}
use Rattle.order.specs.Edges.{SameEdges}
use Rattle.runs.specs.Runs.{Reaches}
use Rattle.runs.specs.Renumbering.{RunsAs}
use Rattle.automata.specs.Automata.{length_field, clocks, locations, start, target, edges}
use Rattle.automata.specs.Refusals.{refusal_of}
use Rattle.automata.specs.Semantics.{system_of}
use Rattle.automata.specs.Canonical.{invariants_size, drawn, in_order, canonical_of, to_form, to_drawn}

-- "up to the numbering of edges": edge i of b has the bytes of edge ρ i of c
pub record SameNumbered (b c : List ℕ) (ρ : ℕ → ℕ) : Type 0 where
  pub inside : (i : ℕ) → i < edges b → ρ i < edges c
  pub bytes : (i : ℕ) → i < edges b → get_or (drawn c) (ρ i) [] ≡ get_or (drawn b) i []

-- "Two cards that differ only in order and repeats of edges": the same edges, however many times
pub record SameAutomaton (b c : List ℕ) : Type 0 where
  pub clocks≡ : clocks b ≡ clocks c
  pub locations≡ : locations b ≡ locations c
  pub start≡ : start b ≡ start c
  pub target≡ : target b ≡ target c
  pub invariants : take (invariants_size b) (drop 11 b) ≡ take (invariants_size c) (drop 11 c)
  pub edges : SameEdges (drawn b) (drawn c)

-- not turned down, and in its own form
abbrev pub OwnForm : List ℕ → Type 0
OwnForm b = (refusal_of b ≡ 0) × (canonical_of b ≡ b)

-- each is a byte, as in all that is lent
pub record Bytes (b : List ℕ) : Type 0 where
  pub byte : (k : ℕ) → get_or b k 0 < 256

-- of an automaton b that is not turned down (proofs/canonical/Theorems, `form_laws`)
pub record FormLaws (b : List ℕ) : Type 0 where
  -- its form is not turned down either, and "it stands whatever follows"
  pub accepted : refusal_of (canonical_of b) ≡ 0
  pub own_length : length_field (canonical_of b) ≡ length (canonical_of b)
  pub stands : (rest : List ℕ) → take (length_field (canonical_of b ++ rest)) (canonical_of b ++ rest) ≡ canonical_of b
  -- "with exactly the card's runs, up to the numbering of edges": there, and back; so both reach the target at the same errors
  pub edges_there : SameNumbered b (canonical_of b) (to_form b)
  pub edges-back : SameNumbered (canonical_of b) b (to_drawn b)
  pub there : RunsAs (system_of b) (system_of (canonical_of b)) (to_form b) (λ v. v)
  pub back : RunsAs (system_of (canonical_of b)) (system_of b) (to_drawn b) (λ v. v)
  pub reaches : (s e : ℕ) → Reaches (system_of b) s e ↔ Reaches (system_of (canonical_of b)) s e
  -- "writing again changes nothing", and `in_order` decides whether it would
  pub rises : in_order (canonical_of b) ≡ true
  pub again : canonical_of (canonical_of b) ≡ canonical_of b
  pub decided : Bytes b → in_order b ≡ true ↔ canonical_of b ≡ b
  -- "Two cards that differ only in order and repeats of edges give equal bytes"
  pub alike : (c : List ℕ) → refusal_of c ≡ 0 → SameAutomaton b c → canonical_of b ≡ canonical_of c
