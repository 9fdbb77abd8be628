-- What zones mean: the valuations of a zone at an error, and the errors below the safe and the exact fraction. Demands 2 and 3 are said by it.
use Rattle.std.specs.Prelude.{ℕ, ◌↔◌}
use Rattle.runs.specs.Runs.{System, Ends}
use Rattle.reachability.specs.Search.{Node}

pub record Meaning (A : System) (Z F : Type 0) : Type 1 where
  pub Error : (s e : ℕ) → Type 0  -- the errors that are spoken of: s is at least 1
  pub In : Z → (s e : ℕ) → A.Val → Type 0
  pub Shape : Z → Type 0  -- what every zone has, at any error
  pub Fit : Z → (s e : ℕ) → Type 0  -- what a zone has below the exact fraction (closed, diagonal 0)
  pub Safe : F → (s e : ℕ) → Type 0
  pub Exact : F → (s e : ℕ) → Type 0

-- demand 2, of a kept node: its zone is the exact set
abbrev pub SameSet : {Z F : Type 0} (A : System) (M : Meaning A Z F) (s e : ℕ) → Node Z → Type 0
SameSet A M s e k = (v : A.Val) → M.In k.zone s e v ↔ Ends A s e k.path k.at v

-- document 02: "a kept zone contains the exact set", at an error
abbrev pub Contains : {Z F : Type 0} (A : System) (M : Meaning A Z F) (s e : ℕ) → Node Z → Type 0
Contains A M s e k = (v : A.Val) → Ends A s e k.path k.at v → M.In k.zone s e v
