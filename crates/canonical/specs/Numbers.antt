-- Numbers of edges in a list: what it means that they list the edges in order.
use Rattle.std.specs.Prelude.{ℕ, ◌+◌, ◌-◌, ◌*◌, ◌<◌, ◌≤◌, Bool, true, false, cond, ◌&&◌, Option, Some, None, List, ◌≡◌, leb, length, get_or}
use Rattle.order.specs.Edges.{Edge, bytes_less, insert_edge, sorted}
use Rattle.order.specs.Laid.{nth_edge, edges_from, first_edges, numbered, joined}

-- the bytes of the listed edges, one after another
abbrev pub listed_bytes : ℕ → List ℕ → List ℕ → List ℕ
listed_bytes size s ns = joined (numbered size s ns)

-- where edge x belongs: what stands before r is less, what stands at r is not
pub record Belongs (size : ℕ) (s : List ℕ) (ns : List ℕ) (count : ℕ) (x : ℕ) (r : ℕ) : Type 0 where
  pub inside : r ≤ count
  pub before : 0 < r → bytes_less (nth_edge size s (get_or ns (r - 1) 0)) (nth_edge size s x) ≡ true
  pub behind : r < count → bytes_less (nth_edge size s (get_or ns r 0)) (nth_edge size s x) ≡ false

-- and its bytes are new: nothing stands at r, or what x is less than
pub record Positioned (size : ℕ) (s : List ℕ) (ns : List ℕ) (count : ℕ) (x : ℕ) (r : ℕ) (isNew : Bool) : Type 0 where
  pub belongs : Belongs size s ns count x r
  pub fresh : isNew ≡ true → r < count → bytes_less (nth_edge size s x) (nth_edge size s (get_or ns r 0)) ≡ true
  pub there : isNew ≡ false → (r < count) × (bytes_less (nth_edge size s x) (nth_edge size s (get_or ns r 0)) ≡ false)

-- what is found of edge x: the place where it is new among all that are listed, or none, as its bytes are there
abbrev pub Found : ℕ → List ℕ → List ℕ → ℕ → Option ℕ → Type 0
Found size s ns x (Some r) = Positioned size s ns (length ns) x r true
Found size s ns x None = (r : ℕ) × Positioned size s ns (length ns) x r false

-- the last that is listed is not less than edge x
abbrev pub LastNotLess : ℕ → List ℕ → List ℕ → ℕ → Type 0
LastNotLess size s ns x = bytes_less (nth_edge size s (get_or ns (length ns - 1) 0)) (nth_edge size s x) ≡ false

-- edge x was put in its place, if its bytes were not there
pub record Inserted (size : ℕ) (s : List ℕ) (old : List ℕ) (x : ℕ) (ns : List ℕ) : Type 0 where
  pub more : length ns ≤ length old + 1
  pub edges : numbered size s ns ≡ insert_edge (nth_edge size s x) (numbered size s old)

-- the numbers are those of these n edges in order
pub record ListsOf (size : ℕ) (s : List ℕ) (es : List Edge) (n : ℕ) (ns : List ℕ) : Type 0 where
  pub few : length ns ≤ n
  pub edges : numbered size s ns ≡ sorted es

-- those of the first n
abbrev pub Lists : ℕ → List ℕ → (n : ℕ) → List ℕ → Type 0
Lists size s n ns = ListsOf size s (first_edges size s n) n ns

-- ---- edges taken one by one, from the last to the first where they fall
-- the first two fall
unfoldable pub falling : ℕ → List ℕ → ℕ → Bool
falling size s n = leb 2 n && bytes_less (nth_edge size s 1) (nth_edge size s 0)

-- the one that is taken after i others
abbrev pub taken_at : Bool → (n i : ℕ) → ℕ
taken_at down n i = cond down (n - 1 - i) i

-- a function that may be called at each i below n gives it
pub record Takes (down : Bool) (n : ℕ) (pre : ℕ → Type 0) (post : ℕ → ℕ → Type 0) : Type 0 where
  pub may : (i : ℕ) → i < n → pre i
  pub gives : (i x : ℕ) → i < n → post i x → x ≡ taken_at down n i

-- the first i that are taken, in the automaton's order
abbrev pub taken : ℕ → List ℕ → Bool → (n i : ℕ) → List Edge
taken size s down n i = cond down (edges_from size s ((n - i) * size) i) (first_edges size s i)
