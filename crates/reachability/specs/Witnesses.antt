-- A run along a branch, found from its end back: each step back gives a wait and a state of the zone before.
use Rattle.std.specs.Prelude.{ℕ, zero, suc, ◌<◌, List, [], ◌∷◌, ◌≡◌, length, drop}
use Rattle.runs.specs.Runs.{System, Step, wait, jump, jumps, first, last, Run}
use Rattle.runs.specs.Written.{ByTurns}
use Rattle.reachability.specs.Search.{zone, Zones, Came, first_zone, by_edge, Node}
use Rattle.reachability.specs.Meaning.{Meaning}
use Rattle.reachability.specs.Branches.{path_of}

-- the wait that leads to a state, and the state before the jump before it
pub record Back (S : Type 0) : Type 0 where
  pub time : ℕ
  pub state : S

-- states S, each of a valuation: the start's, one in which the edge i arrives from a zone, the step back from a state of the successor along
-- i into the zone, and how long a state of the first zone has waited
pub record Witnesses (A : System) (Z : Type 0) : Type 1 where
  pub S : Type 0
  pub val : S → A.Val
  pub begin : S
  pub landing : ℕ → Z → S
  pub back : ℕ → Z → S → Back S
  pub since : S → ℕ

module _ {A : System} {Z : Type 0} (W : Witnesses A Z) where
  -- the steps xs with those before them, back from the state v of a zone that came so; the first number is the jumps to go back
  unfoldable pub back_to : ℕ → List (Node Z) → Came → W.S → List Step → List Step
  back_to zero ks c v xs = wait (W.since v) ∷ xs
  back_to (suc m) ks first_zone v xs = wait (W.since v) ∷ xs
  back_to (suc m) ks (by_edge j i) v xs =
      elim (drop j ks) [
        | [] ↦ xs
        | k ∷ more ↦ back_to m ks k.came (W.back i k.zone v).state (jump i ∷ wait (W.back i k.zone v).time ∷ xs)
      ]

  -- the last state: of a zone that came so
  unfoldable pub last_state : List (Node Z) → Came → W.S
  last_state ks first_zone = W.begin
  last_state ks (by_edge j i) = elim (drop j ks) [ [] ↦ W.begin | k ∷ more ↦ W.landing i k.zone ]

  -- the run to a zone that came so
  abbrev pub run_to : List (Node Z) → Came → List Step
  run_to ks c = back_to (length (path_of ks c)) ks c (last_state ks c) []

-- ---- what is asked of them at an error e/s
module _ {Z F : Type 0} (A : System) (O : Zones Z F) (M : Meaning A Z F) (W : Witnesses A Z) (s e : ℕ) where
  -- from the state of r in y, along i and by its wait, to v
  pub record Leads (i : ℕ) (y : Z) (v : A.Val) (r : Back W.S) : Type 0 where
    pub inside : M.In y s e (W.val r.state)
    pub may : A.guard s e i (W.val r.state)
    pub lands : A.inv s e (A.to i) (A.reset i (W.val r.state))
    pub stays : A.inv s e (A.to i) (A.pass r.time (A.reset i (W.val r.state)))
    pub same : A.pass r.time (A.reset i (W.val r.state)) ≡ v

  pub record WitnessLaws : Type 0 where
    pub begins : W.val W.begin ≡ A.origin
    pub since_is : (v : W.S) (t : ℕ) → A.pass t A.origin ≡ W.val v → W.since v ≡ t
    pub lands_in : (i : ℕ) (y z : Z) (f g : F) → i < A.edges → M.Shape y → M.Fit y s e → O.succ i y f ≡ zone z g → M.Exact g s e
        → M.In z s e (W.val (W.landing i y))
    pub leads : (i : ℕ) (y z : Z) (f g : F) (v : W.S) → i < A.edges → M.Shape y → M.Fit y s e → O.succ i y f ≡ zone z g → M.Exact g s e
        → M.In z s e (W.val v) → Leads i y (W.val v) (W.back i y v)

-- ---- what holds of the steps: a run of the form of document 02 along the path, and its last state is at the target
pub record RunAlong (A : System) (s e : ℕ) (p : List ℕ) (xs : List Step) : Type 0 where
  pub turns : ByTurns xs
  pub run : Run A s e xs
  pub takes : jumps xs ≡ p
  pub there : (last A (first A) xs).at ≡ A.target
