-- The search of document 01 over any zones. A node keeps the edges that lead to it, and document 02's "slot it came from and the edge taken".
use Rattle.std.specs.Prelude.{ℕ, zero, suc, List, [], ◌∷◌, ◌++◌, Bool, true, false, length, drop, ◌≡◌, ltb, eqb}
use Rattle.runs.specs.Runs.{System}

-- what an operation on zones gives: empty, or a zone, and the running fractions after it
pub data Result (Z F : Type 0) : Type 0 where
  empty : F → Result Z F
  zone : Z → F → Result Z F

abbrev pub frac_of : {Z F : Type 0} → Result Z F → F
frac_of (empty f) = f
frac_of (zone z f) = f

pub data Found (X : Type 0) : Type 0 where
  none : Found X
  found : X → Found X

-- zones Z with running fractions F. `within z y`: z is contained in y, by the test. `equal z y`: the two have the same pairs. `lowered z y f`: f
-- after a test that holds. `big z`: its error count is too large to be kept
pub record Zones (Z F : Type 0) : Type 0 where
  pub top : F
  pub enter : F → Result Z F
  pub succ : ℕ → Z → F → Result Z F
  pub within : Z → Z → Bool
  pub equal : Z → Z → Bool
  pub lowered : Z → Z → F → F
  pub big : Z → Bool

-- "the slot it came from and the edge taken, counted from 0, both −1 for the first zone": the place of a kept node, and an edge of it
pub data Came : Type 0 where
  first_zone : Came
  by_edge : ℕ → ℕ → Came

-- a zone to be kept: its location, where it came from, and the edges that lead to it
pub record Node (Z : Type 0) : Type 0 where
  pub at : ℕ
  pub zone : Z
  pub came : Came
  pub path : List ℕ

-- the element at j is k
abbrev pub Nth : {X : Type 0} → List X → ℕ → X → Type 0
Nth [] j k = ⊥
Nth (x ∷ xs) zero k = x ≡ k
Nth (x ∷ xs) (suc j) k = Nth xs j k

-- why a search has stopped: the target is reached, by a zone that came so, or a refusal by its number, 9 or 10
pub data End : Type 0 where
  reached : Came → End
  refused : ℕ → End

-- "When nothing is left to take, the card holds": a search that is still going then
pub data Outcome : Type 0 where
  going : Outcome
  ended : End → Outcome

-- with the numbers of zones dropped so far: `again` of those equal to the kept zone that contains them, `inside` of the others
pub record State (Z F : Type 0) : Type 0 where
  pub kept : List (Node Z)
  pub frac : F
  pub outcome : Outcome
  pub again : ℕ
  pub inside : ℕ

module _ {Z F : Type 0} where
  -- ---- what may become of a state
  abbrev pub passed : State Z F → F → State Z F
  passed q f = record { kept = q.kept; frac = f; outcome = going; again = q.again; inside = q.inside }

  abbrev pub stopped : State Z F → F → End → State Z F
  stopped q f x = record { kept = q.kept; frac = f; outcome = ended x; again = q.again; inside = q.inside }

  abbrev pub keeping : State Z F → F → Node Z → State Z F
  keeping q f k = record { kept = q.kept ++ (k ∷ []); frac = f; outcome = going; again = q.again; inside = q.inside }

  -- "A zone dropped by containment is then counted as again when every pair equals that of the kept zone, and as inside otherwise": which of the two
  -- is the test's
  unfoldable pub dropping : State Z F → F → Bool → State Z F
  dropping q f true = record { kept = q.kept; frac = f; outcome = going; again = suc q.again; inside = q.inside }
  dropping q f false = record { kept = q.kept; frac = f; outcome = going; again = q.again; inside = suc q.inside }

module _ {Z : Type 0} (A : System) where
  -- "The first zone .. enters the start."
  abbrev pub first_node : Z → Node Z
  first_node z = record { at = A.start; zone = z; came = first_zone; path = [] }

  -- a zone that came from k, the node at j, by the edge i
  abbrev pub child : ℕ → Node Z → ℕ → Z → Node Z
  child j k i z = record { at = A.to i; zone = z; came = by_edge j i; path = k.path ++ (i ∷ []) }

module _ {Z F : Type 0} (A : System) (O : Zones Z F) where
  -- the oldest kept zone of location l that contains z
  unfoldable pub find : List (Node Z) → ℕ → Z → Found (Node Z)
  find [] l z = none
  find (k ∷ ks) l z =
      elim (eqb k.at l) [ true ↦ elim (O.within z k.zone) [ true ↦ found k | false ↦ find ks l z ] | false ↦ find ks l z ]

  module _ (capacity : ℕ) where
    -- "A zone that has entered, non-empty, is judged thus", as the node k
    unfoldable pub judge : State Z F → Node Z → F → State Z F
    judge q k f =
        elim (eqb k.at A.target) [
          | true ↦ stopped q f (reached k.came)
          | false ↦ elim (find q.kept k.at k.zone) [
            | found y ↦ dropping q (O.lowered k.zone y.zone f) (O.equal k.zone y.zone)
            | none ↦ elim (O.big k.zone) [
              | true ↦ stopped q f (refused 9)
              | false ↦ elim (ltb (length q.kept) capacity) [ true ↦ keeping q f k | false ↦ stopped q f (refused 10) ]
            ]
          ]
        ]

    -- what has entered, as the node that it would be kept as. "An empty zone is dropped at any point."
    unfoldable pub offer : State Z F → (Z → Node Z) → Result Z F → State Z F
    offer q c (empty f) = passed q f
    offer q c (zone z f) = judge q (c z) f

    -- one edge of k, the node at j; a search that has stopped stays as it is
    unfoldable pub follow : ℕ → Node Z → ℕ → State Z F → State Z F
    follow j k i q =
        elim q.outcome [
          | going ↦ elim (eqb (A.from i) k.at) [ true ↦ offer q (child A j k i) (O.succ i k.zone q.frac) | false ↦ q ]
          | ended x ↦ q
        ]

    -- the edges from i on, m of them
    unfoldable pub expand : ℕ → Node Z → ℕ → ℕ → State Z F → State Z F
    expand j k zero i q = q
    expand j k (suc m) i q = expand j k m (suc i) (follow j k i q)

    -- the kept nodes from the one at `next` on; the first number is the slots not yet taken
    unfoldable pub take_from : ℕ → ℕ → State Z F → State Z F
    take_from zero next q = q
    take_from (suc left) next q = elim (drop next q.kept) [ [] ↦ q | k ∷ ks ↦ take_from left (suc next) (expand next k A.edges 0 q) ]

    abbrev pub nothing : State Z F
    nothing = record { kept = []; frac = O.top; outcome = going; again = 0; inside = 0 }

    abbrev pub begin : State Z F
    begin = offer nothing (first_node A) (O.enter O.top)

    unfoldable pub search : State Z F
    search = take_from capacity 0 begin
