-- Worked example: "Two offices listed the same canopy's edges in different orders", one of them with a repeat.
use Rattle.std.specs.Prelude.{ℕ, true, false, List, [], ◌∷◌, ◌++◌, ◌≡◌}
use Rattle.automata.specs.Refusals.{refusal_of}
use Rattle.automata.specs.Canonical.{in_order, canonical_of, to_form, to_drawn}

-- one clock, two locations with limits 0 to 5 and 0 to 9, start 0, target 1: so many bytes, so many edges
abbrev pub head : ℕ → ℕ → List ℕ
head size edges = 0 ∷ 0 ∷ 0 ∷ size ∷ 1 ∷ 1 ∷ 2 ∷ 0 ∷ 1 ∷ 0 ∷ edges ∷ 0 ∷ 0 ∷ 0 ∷ 0 ∷ 0 ∷ 0 ∷ 0 ∷ 5 ∷ 0 ∷ 0 ∷ 0 ∷ 0 ∷ 0 ∷ 0 ∷ 0 ∷ 9 ∷ []

-- from 0 to 1 with guard lo 7, and back, resetting
abbrev pub across : List ℕ
across = 0 ∷ 1 ∷ 0 ∷ 0 ∷ 0 ∷ 0 ∷ 7 ∷ 255 ∷ 255 ∷ 255 ∷ 255 ∷ []

abbrev pub back : List ℕ
back = 1 ∷ 0 ∷ 1 ∷ 0 ∷ 0 ∷ 0 ∷ 0 ∷ 255 ∷ 255 ∷ 255 ∷ 255 ∷ []

abbrev pub north : List ℕ
north = head 49 2 ++ (back ++ across)

abbrev pub south : List ℕ
south = head 60 3 ++ (across ++ (back ++ across))

abbrev pub one : List ℕ
one = head 49 2 ++ (across ++ back)

pub record Shown : Type 0 where
  -- neither is turned down, and they have one form
  pub north_free : refusal_of north ≡ 0
  pub south_free : refusal_of south ≡ 0
  pub north_form : canonical_of north ≡ one
  pub south_form : canonical_of south ≡ one
  pub again : canonical_of one ≡ one
  pub falls : in_order north ≡ false
  pub repeats : in_order south ≡ false
  pub rises : in_order one ≡ true
  -- edge 0 of north is edge 1 of the form; edge 2 of south is edge 0 of it, which stands first in south
  pub there : to_form north 0 ≡ 1
  pub twice : to_form south 2 ≡ 0
  pub home : to_drawn south 0 ≡ 0
