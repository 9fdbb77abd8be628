-- Document 01, "Turned down": the numbers of an automaton at reading, 1 to 8.
use Rattle.std.specs.Prelude.{ℕ, zero, suc, ◌+◌, ◌^◌, Bool, true, false, not, cond, ◌&&◌, ◌||◌, List, ltb, leb, eqb, length}
use Rattle.runs.specs.Limits.{scale}
use Rattle.automata.specs.Automata.{length_field, version, clocks, locations, start, target, edges, from, to, reset_byte, formula, lo_at, hi_at}
use Rattle.automata.specs.Automata.{no_upper, invariant_at, edge_at}

-- one of the numbers below k passes the test
unfoldable pub some : ℕ → (ℕ → Bool) → Bool
some zero f = false
some (suc k) f = cond (f k) true (some k f)

-- "n, m or E outside its range"
abbrev pub out_of_counts : ℕ → ℕ → ℕ → Bool
out_of_counts n m e = eqb n 0 || (ltb 8 n || (eqb m 0 || (ltb 64 m || ltb 256 e)))

abbrev pub counts_out_of_range : List ℕ → Bool
counts_out_of_range s = out_of_counts (clocks s) (locations s) (edges s)

-- "start, target, from or to is m or more"
abbrev pub misplaced : ℕ → ℕ → ℕ → Bool
misplaced m a b = leb m a || leb m b

abbrev pub no_such_location : List ℕ → Bool
no_such_location s = misplaced (locations s) (start s) (target s) || some (edges s) (λ i. misplaced (locations s) (from s i) (to s i))

-- "a reset bit above clock n"
abbrev pub no_such_clock : List ℕ → Bool
no_such_clock s = some (edges s) (λ i. leb (2 ^ clocks s) (reset_byte s i))

-- "lo and hi run from 0 to 1,000,000": the limits of a clock, of which hi may lack or not
abbrev pub out_of_range : Bool → ℕ → ℕ → Bool
out_of_range mayLack lo hi = ltb scale lo || (ltb scale hi && not (mayLack && eqb hi no_upper))

-- and those of every clock, at `at`
unfoldable pub out_of_range_at : List ℕ → Bool → ℕ → Bool
out_of_range_at s mayLack at = some (clocks s) (λ x. out_of_range mayLack (lo_at s at (suc x)) (hi_at s at (suc x)))

abbrev pub invariant_out_of_range : List ℕ → Bool
invariant_out_of_range s = some (locations s) (λ l. out_of_range_at s false (invariant_at s l))

abbrev pub guard_out_of_range : List ℕ → Bool
guard_out_of_range s = some (edges s) (λ i. out_of_range_at s true (edge_at s i + 3))

abbrev pub limit_out_of_range : List ℕ → Bool
limit_out_of_range s = invariant_out_of_range s || guard_out_of_range s

-- "the smallest of 1 to 8 that applies", and 0 where none does
unfoldable pub refusal_of : List ℕ → ℕ
refusal_of s =
    cond (ltb (length s) 11) 1
    (cond (not (eqb (length_field s) (length s))) 2
    (cond (not (eqb (version s) 1)) 3
    (cond (counts_out_of_range s) 4
    (cond (not (eqb (length_field s) (formula s))) 5
    (cond (no_such_location s) 6
    (cond (no_such_clock s) 7
    (cond (limit_out_of_range s) 8 0)))))))
