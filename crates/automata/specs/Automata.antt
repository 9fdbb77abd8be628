-- Document 01's card: a timed automaton as bytes, with big-endian numbers. Every definition is total on all lists of bytes.
use Rattle.std.specs.Prelude.{ℕ, zero, suc, ◌+◌, ◌-◌, ◌*◌, ◌/◌, ◌%◌, ◌^◌, Bool, false, List, [], ◌∷◌, eqb, get_or}
use Rattle.runs.specs.Limits.{Limits}
use Rattle.encoding.specs.Numbers.{be16_at, be32_at}

-- ---- the fields, "in this order"
abbrev pub length_field : List ℕ → ℕ
length_field s = be32_at s 0

abbrev pub version : List ℕ → ℕ
version s = get_or s 4 0

abbrev pub clocks : List ℕ → ℕ
clocks s = get_or s 5 0

abbrev pub locations : List ℕ → ℕ
locations s = get_or s 6 0

abbrev pub start : List ℕ → ℕ
start s = get_or s 7 0

abbrev pub target : List ℕ → ℕ
target s = get_or s 8 0

abbrev pub edges : List ℕ → ℕ
edges s = be16_at s 9

-- "8n each" for each location: where the limits of location l stand, with n clocks
unfoldable pub invariant_in : ℕ → ℕ → ℕ
invariant_in n l = 11 + 8 * n * l

abbrev pub invariant_at : List ℕ → ℕ → ℕ
invariant_at s l = invariant_in (clocks s) l

-- "3 + 8n each" for each edge: where edge i stands, with n clocks and m locations
unfoldable pub edge_in : ℕ → ℕ → ℕ → ℕ
edge_in n m i = 11 + 8 * n * m + i * (3 + 8 * n)

abbrev pub edge_at : List ℕ → ℕ → ℕ
edge_at s i = edge_in (clocks s) (locations s) i

abbrev pub from : List ℕ → ℕ → ℕ
from s i = get_or s (edge_at s i) 0

abbrev pub to : List ℕ → ℕ → ℕ
to s i = get_or s (edge_at s i + 1) 0

abbrev pub reset_byte : List ℕ → ℕ → ℕ
reset_byte s i = get_or s (edge_at s i + 2) 0

-- "Length is 11 + 8nm + E(3 + 8n)"
abbrev pub formula : List ℕ → ℕ
formula s = edge_at s (edges s)

-- "lo and hi (4 bytes each) for each clock", from 1, of the limits that stand at `at`
abbrev pub lo_at : List ℕ → ℕ → ℕ → ℕ
lo_at s at x = be32_at s (at + 8 * (x - 1))

abbrev pub hi_at : List ℕ → ℕ → ℕ → ℕ
hi_at s at x = be32_at s (at + 8 * (x - 1) + 4)

-- "A guard's hi may be FFFFFFFF, meaning no upper limit"
abbrev pub no_upper : ℕ
no_upper = 4294967295

unfoldable pub limits_at : List ℕ → ℕ → Limits
limits_at s at = record { lo = lo_at s at; hi = hi_at s at; absent = λ x. eqb (hi_at s at x) no_upper }

unfoldable pub invariant_of : List ℕ → ℕ → Limits
invariant_of s l = limits_at s (invariant_at s l)

unfoldable pub guard_of : List ℕ → ℕ → Limits
guard_of s i = limits_at s (edge_at s i + 3)

-- "reset byte (bit 0 is clock 1)": whether clock x is reset
unfoldable pub in_byte : ℕ → ℕ → Bool
in_byte b zero = false
in_byte b (suc x) = eqb (b / 2 ^ x % 2) 1

unfoldable pub resets_of : List ℕ → ℕ → ℕ → Bool
resets_of s i x = in_byte (reset_byte s i) x

-- f 0, f 1 and so on, n of them
unfoldable pub firsts : ℕ → (ℕ → Bool) → List Bool
firsts zero f = []
firsts (suc n) f = f 0 ∷ firsts n (λ x. f (suc x))

-- a reset byte as a list by clock, from 0
unfoldable pub reset_set : ℕ → List Bool
reset_set b = firsts 9 (in_byte b)
