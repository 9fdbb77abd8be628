-- Document 02: "the slot it came from and the edge taken". What they say of a kept node, and of the zone that met the target.
use Rattle.std.specs.Prelude.{ℕ, ◌<◌, List, [], ◌∷◌, ◌++◌, ◌≡◌, length, drop}
use Rattle.runs.specs.Runs.{System}
use Rattle.reachability.specs.Search.{zone, Zones, Came, first_zone, by_edge, Node, Nth}

-- of a node k at the place j, among the nodes ks; `Fine` is what every running fraction has
module _ {Z F : Type 0} (A : System) (O : Zones Z F) (Fine : F → Type 0) (ks : List (Node Z)) (j : ℕ) (k : Node Z) where
  -- it is the first zone
  pub record Starts : Type 0 where
    pub at : k.at ≡ A.start
    pub path : k.path ≡ []
    pub before : F
    pub after : F
    pub made : O.enter before ≡ zone k.zone after
    pub fine : Fine after

  -- it came from the node at `from`, which is older, by the edge i: its path is that node's and this edge
  pub record Jumps (from i : ℕ) : Type 0 where
    pub earlier : from < j
    pub parent : Node Z
    pub kept : Nth ks from parent
    pub edge : i < A.edges
    pub leaves : A.from i ≡ parent.at
    pub at : k.at ≡ A.to i
    pub path : k.path ≡ parent.path ++ (i ∷ [])
    pub before : F
    pub after : F
    pub made : O.succ i parent.zone before ≡ zone k.zone after
    pub fine : Fine after

  abbrev pub Branch : Came → Type 0
  Branch first_zone = Starts
  Branch (by_edge from i) = Jumps from i

module _ {Z F : Type 0} (A : System) (O : Zones Z F) (Fine : F → Type 0) where
  abbrev pub BranchOf : List (Node Z) → ℕ → Node Z → Type 0
  BranchOf ks j k = Branch A O Fine ks j k k.came

  abbrev pub Branches : List (Node Z) → Type 0
  Branches ks = (j : ℕ) (k : Node Z) → Nth ks j k → BranchOf ks j k

  -- the zone that met the target, which is not kept, came so
  pub record Arrived (ks : List (Node Z)) (c : Came) : Type 0 where
    pub node : Node Z
    pub came : node.came ≡ c
    pub there : node.at ≡ A.target
    pub branch : BranchOf ks (length ks) node

-- the edges that lead to a zone that came so, among the nodes ks: "the search's branch"
unfoldable pub path_of : {Z : Type 0} → List (Node Z) → Came → List ℕ
path_of ks first_zone = []
path_of ks (by_edge j i) = elim (drop j ks) [ [] ↦ [] | k ∷ more ↦ k.path ++ (i ∷ []) ]
