-- What records say of an automaton, in any layout L: the first one with its bytes.
use Rattle.std.specs.Prelude.{ℕ, Bool, true, false, cond, ◌&&◌, List, [], ◌∷◌, Option, Some, None}
use Rattle.encoding.specs.Bytes.{same_bytes}
use Rattle.search.specs.declared.verdict.Answer.{Answer}
use Rattle.cache.specs.declared.layout.Layout.{Layout}
use Rattle.cache.specs.Records.{record_automaton, filed_as}

unfoldable pub look_up : Layout → List (List ℕ) → List ℕ → Option Answer
look_up L [] b = None
look_up L (r ∷ rs) b = cond (same_bytes (record_automaton L r) b) (Some (filed_as L r)) (look_up L rs b)

abbrev pub is_absent : Option Answer → Bool
is_absent (Some a) = false
is_absent None = true

abbrev pub neither_filed : Layout → List (List ℕ) → List ℕ → List ℕ → Bool
neither_filed L rs a b = is_absent (look_up L rs a) && is_absent (look_up L rs b)

-- two automata that differ, and neither is filed
abbrev pub both_new : Layout → List (List ℕ) → List ℕ → List ℕ → Bool
both_new L rs a b = cond (same_bytes b a) false (neither_filed L rs a b)
