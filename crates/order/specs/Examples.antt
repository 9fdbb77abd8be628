-- Worked examples of the order of edges.
use Rattle.std.specs.Prelude.{true, false, List, [], ◌∷◌, ◌≡◌}
use Rattle.order.specs.Edges.{Edge, bytes_less, rising, sorted}
use Rattle.order.specs.Places.{number_in}
use Rattle.order.specs.Laid.{edges_from, joined}

-- four edges of two bytes as drawn, one of them twice, and in order
abbrev pub four : List Edge
four = (2 ∷ 1 ∷ []) ∷ (1 ∷ 9 ∷ []) ∷ (1 ∷ 2 ∷ []) ∷ (1 ∷ 9 ∷ []) ∷ []

abbrev pub three : List Edge
three = (1 ∷ 2 ∷ []) ∷ (1 ∷ 9 ∷ []) ∷ (2 ∷ 1 ∷ []) ∷ []

pub record Shown : Type 0 where
  -- the first byte that differs decides, whatever follows
  pub less : bytes_less (0 ∷ 255 ∷ []) (1 ∷ 0 ∷ []) ≡ true
  pub equal : bytes_less (1 ∷ 9 ∷ []) (1 ∷ 9 ∷ []) ≡ false
  -- repeats are dropped, and only what has none rises
  pub order : sorted four ≡ three
  pub drawn : rising four ≡ false
  pub rises : rising three ≡ true
  pub twice : rising ((1 ∷ 9 ∷ []) ∷ (1 ∷ 9 ∷ []) ∷ []) ≡ false
  -- the last edge of the four is the second of the three, and that is the second of the four
  pub there : number_in four three 3 ≡ 1
  pub back : number_in three four 1 ≡ 1
  -- as they lie, behind one other byte
  pub laid : edges_from 2 (7 ∷ joined four) 1 4 ≡ four
