-- Document 02, Change 1: "exactly the card's runs, up to the numbering of edges".
use Rattle.std.specs.Prelude.{ℕ, ◌<◌, List, [], ◌∷◌, map, ◌≡◌}
use Rattle.runs.specs.Runs.{System, Step, wait, jump, Stand, Run, first, after}

-- Two systems that share all but the numbering of edges: edge i of A is edge ρ i of B.
-- Of invariants they share those of the locations that a run can be in, all of them below `locations`.
-- `same` takes a valuation of A to the same one of B; where both have one type of valuations it is λ v. v.
pub record Renumbers (A B : System) (ρ : ℕ → ℕ) (same : A.Val → B.Val) : Type 0 where
  pub locations : ℕ
  pub start< : A.start < locations
  pub to< : (i : ℕ) → i < A.edges → A.to i < locations
  pub start : B.start ≡ A.start
  pub target : B.target ≡ A.target
  pub origin : B.origin ≡ same A.origin
  pub pass : (t : ℕ) (v : A.Val) → B.pass t (same v) ≡ same (A.pass t v)
  pub inv : (s e l : ℕ) (v : A.Val) → l < locations → A.inv s e l v → B.inv s e l (same v)
  pub edge : (i : ℕ) → i < A.edges → ρ i < B.edges
  pub from : (i : ℕ) → i < A.edges → B.from (ρ i) ≡ A.from i
  pub to : (i : ℕ) → i < A.edges → B.to (ρ i) ≡ A.to i
  pub guard : (s e i : ℕ) (v : A.Val) → i < A.edges → A.guard s e i v → B.guard s e (ρ i) (same v)
  pub reset : (i : ℕ) (v : A.Val) → i < A.edges → B.reset (ρ i) (same v) ≡ same (A.reset i v)

-- a run's jumps by the other numbers
abbrev pub renumbered : (ℕ → ℕ) → List Step → List Step
renumbered ρ [] = []
renumbered ρ (wait t ∷ xs) = wait t ∷ renumbered ρ xs
renumbered ρ (jump i ∷ xs) = jump (ρ i) ∷ renumbered ρ xs

-- a state with the same clocks
abbrev pub carried : {P Q : Type 0} → (P → Q) → Stand P → Stand Q
carried same q = record { at = q.at; clocks = same q.clocks }

-- the states of a run, one after another
abbrev pub states : (A : System) → Stand A.Val → List Step → List (Stand A.Val)
states A q [] = q ∷ []
states A q (x ∷ xs) = q ∷ states A (after A q x) xs

-- every run of A, its jumps renumbered, is a run of B through the same states, and the same location is forbidden
pub record RunsAs (A B : System) (ρ : ℕ → ℕ) (same : A.Val → B.Val) : Type 0 where
  pub target : B.target ≡ A.target
  pub run : (s e : ℕ) (xs : List Step) → Run A s e xs → Run B s e (renumbered ρ xs)
  pub through : (s e : ℕ) (xs : List Step) → Run A s e xs → states B (first B) (renumbered ρ xs) ≡ map (carried same) (states A (first A) xs)
