-- Where an edge stands in a list: the renumbering between a list of edges and its order.
use Rattle.std.specs.Prelude.{ℕ, suc, cond, List, [], ◌∷◌, get_or}
use Rattle.order.specs.Edges.{Edge, bytes_less}

-- the first place with these bytes
unfoldable pub place_in : List Edge → Edge → ℕ
place_in [] x = 0
place_in (y ∷ ys) x = cond (bytes_less x y) (suc (place_in ys x)) (cond (bytes_less y x) (suc (place_in ys x)) 0)

-- edge i of xs, by its number in ys
unfoldable pub number_in : List Edge → List Edge → ℕ → ℕ
number_in xs ys i = place_in ys (get_or xs i [])
