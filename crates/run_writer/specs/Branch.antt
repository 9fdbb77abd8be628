-- What the walk back over the slots asks: the store in which a search has ended, and an origin that one of its zones has.
use Rattle.std.specs.Prelude.{ℕ, suc, ◌≤◌, List, ◌≡◌, ℤ, length}
use Rattle.automata.specs.Accepted.{Accepted}
use Rattle.automata.specs.Automata.{clocks}
use Rattle.automata.specs.Semantics.{system_of}
use Rattle.reachability.specs.Branches.{Branch, path_of}
use Rattle.reachability.specs.Search.{Came}
use Rattle.search.specs.Answers.{state_of}
use Rattle.search.specs.Instance.{ZoneNode, zones_of, meaning_of}
use Rattle.search.specs.Outcomes.{came_of}
use Rattle.search.specs.Store.{origin_of, store_of}
use Rattle.slots.specs.declared.slot.Origin.{Origin}

abbrev pub kept_of : List ℕ → ℕ → List ZoneNode
kept_of b amount = (state_of b amount).kept

-- the node k, kept at the place j or the one that met the target, came so
abbrev pub CameBy : List ℕ → ℕ → ℕ → ZoneNode → Came → Type 0
CameBy b amount j k c = Branch (system_of b) (zones_of b) (λ f. (meaning_of b).Exact f 1 0) (kept_of b amount) j k c

-- the store s in which the search of b in `amount` numbers has ended
pub record Ended (b : List ℕ) (amount : ℕ) (s : List ℤ) : Type 0 where
  pub accepted : Accepted b
  pub base : List ℤ
  pub size : length base ≡ amount
  pub shown : s ≡ store_of (suc (clocks b)) (kept_of b amount) base

-- a zone of that search has the origin o: a kept one, or the one that met the target
pub record Standing (b : List ℕ) (amount : ℕ) (o : Origin) : Type 0 where
  pub came : Came
  pub told : origin_of came ≡ o
  pub place : ℕ
  pub most : place ≤ length (kept_of b amount)
  pub node : ZoneNode
  pub branch : CameBy b amount place node came

-- both, where the store is as long as it was lent
pub record Stands (b : List ℕ) (s : List ℤ) (o : Origin) : Type 0 where
  pub ended : Ended b (length s) s
  pub standing : Standing b (length s) o

-- how many jumps lead there
abbrev pub jumps_before : List ℕ → ℕ → Origin → ℕ
jumps_before b amount o = length (path_of (kept_of b amount) (came_of o))
