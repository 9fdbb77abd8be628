-- Document 02, Change 5, added up: every zone that has entered came out empty, was kept, or was dropped, as again or as inside. What has entered
-- is said without the search: the first zone, and of each kept node its successor along each edge that leaves its location.
use Rattle.std.specs.Prelude.{ℕ, zero, suc, ◌+◌, true, false, List, [], ◌∷◌, ◌≡◌, eqb, length}
use Rattle.runs.specs.Runs.{System}
use Rattle.reachability.specs.Search.{Result, empty, zone, Zones, Node, State}

-- what one result counts for: as a zone that has entered, as one that is empty, as one that is not
abbrev pub one : {Z F : Type 0} → Result Z F → ℕ
one r = 1

abbrev pub one_if_empty : {Z F : Type 0} → Result Z F → ℕ
one_if_empty (empty f) = 1
one_if_empty (zone z f) = 0

abbrev pub one_if_live : {Z F : Type 0} → Result Z F → ℕ
one_if_live (empty f) = 0
one_if_live (zone z f) = 1

-- how much all results count for, by `count`; the fractions are f throughout
module _ {Z F : Type 0} (A : System) (O : Zones Z F) (f : F) (count : Result Z F → ℕ) where
  -- of the node k, along the edges from i on, m of them
  unfoldable pub along : Node Z → ℕ → ℕ → ℕ
  along k zero i = 0
  along k (suc m) i = elim (eqb (A.from i) k.at) [ true ↦ count (O.succ i k.zone f) + along k m (suc i) | false ↦ along k m (suc i) ]

  -- of all nodes
  unfoldable pub from : List (Node Z) → ℕ
  from [] = 0
  from (k ∷ ks) = along k A.edges 0 + from ks

  -- with the first zone
  abbrev pub entered : List (Node Z) → ℕ
  entered ks = count (O.enter f) + from ks

-- ---- whether a successor is empty does not depend on the fractions
pub record Regardless {Z F : Type 0} (O : Zones Z F) : Type 0 where
  pub succ : (i : ℕ) (z : Z) (f g : F) → one_if_live (O.succ i z f) ≡ one_if_live (O.succ i z g)

-- ---- the account of a state: the zones kept and those dropped are those that came out not empty; with the empty ones they are all
pub record Accounted {Z F : Type 0} (A : System) (O : Zones Z F) (q : State Z F) : Type 0 where
  pub live : length q.kept + q.again + q.inside ≡ entered A O O.top one_if_live q.kept
  pub all : length q.kept + q.again + q.inside + entered A O O.top one_if_empty q.kept ≡ entered A O O.top one q.kept
