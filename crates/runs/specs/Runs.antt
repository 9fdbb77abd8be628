-- What a run is. This is what a reader must believe.
use Rattle.std.specs.Prelude.{ℕ, ◌<◌, List, [], ◌∷◌, ◌≡◌, ◌⊎◌}

-- A machine: its graph, its clocks as one valuation, and its loosened limits at s ticks a unit and an error of e ticks.
pub record System : Type 1 where
  pub edges : ℕ
  pub from : ℕ → ℕ
  pub to : ℕ → ℕ
  pub start : ℕ
  pub target : ℕ
  pub Val : Type 0
  pub origin : Val
  pub pass : ℕ → Val → Val
  pub reset : ℕ → Val → Val
  pub guard : (s e i : ℕ) → Val → Type 0
  pub inv : (s e l : ℕ) → Val → Type 0

pub data Step : Type 0 where
  wait : ℕ → Step
  jump : ℕ → Step

-- the edges that a list of steps takes
abbrev pub jumps : List Step → List ℕ
jumps [] = []
jumps (wait t ∷ xs) = jumps xs
jumps (jump i ∷ xs) = i ∷ jumps xs

-- a state of a run
pub record Stand (Val : Type 0) : Type 0 where
  pub at : ℕ
  pub clocks : Val

module _ (A : System) where
  abbrev pub first : Stand A.Val
  first = record { at = A.start; clocks = A.origin }

  -- the state that a step leaves
  abbrev pub after : Stand A.Val → Step → Stand A.Val
  after q (wait t) = record { at = q.at; clocks = A.pass t q.clocks }
  after q (jump i) = record { at = A.to i; clocks = A.reset i q.clocks }

  abbrev pub last : Stand A.Val → List Step → Stand A.Val
  last q [] = q
  last q (x ∷ xs) = last (after q x) xs

  -- one of the states, the first and the last included, is at l
  abbrev pub StandsIn : ℕ → Stand A.Val → List Step → Type 0
  StandsIn l q [] = q.at ≡ l
  StandsIn l q (x ∷ xs) = (q.at ≡ l) ⊎ StandsIn l (after q x) xs

  module _ (s e : ℕ) where
    -- a step may be made
    abbrev pub Can : Stand A.Val → Step → Type 0
    Can q (wait t) = A.inv s e q.at (A.pass t q.clocks)
    Can q (jump i) = (i < A.edges) × (A.from i ≡ q.at) × A.guard s e i q.clocks × A.inv s e (A.to i) (A.reset i q.clocks)

    -- each step is made from the state that the one before left
    abbrev pub Steps : Stand A.Val → List Step → Type 0
    Steps q [] = Unit {0}
    Steps q (x ∷ xs) = Can q x × Steps (after q x) xs

    abbrev pub Run : List Step → Type 0
    Run xs = A.inv s e A.start A.origin × Steps first xs

    -- some run that takes exactly the edges p ends at l with v
    pub record Ends (p : List ℕ) (l : ℕ) (v : A.Val) : Type 0 where
      pub steps : List Step
      pub run : Run steps
      pub takes : jumps steps ≡ p
      pub here : last first steps ≡ record { at = l; clocks = v }

    -- some run stands in the target
    pub record Reaches : Type 0 where
      pub steps : List Step
      pub run : Run steps
      pub stands : StandsIn A.target first steps
