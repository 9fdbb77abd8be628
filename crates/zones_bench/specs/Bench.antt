-- What the benchmark computes.
use Rattle.std.specs.Prelude.{ℕ, zero, suc, ◌+◌, ◌-◌, ◌*◌, ◌/◌, ◌%◌, cond, List, ltb, eqb, pos, set}
use Rattle.zones.specs.declared.pair.Pair.{Pair}
use Rattle.zones.specs.declared.zone.Work.{Work}
use Rattle.zones.specs.Fractions.{no_limit}
use Rattle.zones.specs.Pairs.{zero_pair}
use Rattle.zones.specs.Zones.{entry, first_work}
use Rattle.zones.specs.Reductions.{reduce_of}

abbrev pub prime : ℕ
prime = 1000003

-- the entry at the place k = i * 9 + j: (0, 0) on the diagonal
unfoldable pub bench_pair : ℕ → Pair
bench_pair k = cond (eqb (k / 9) (k % 9)) zero_pair
    (record { m = pos ((17 * (k / 9) + 13 * (k % 9)) % 31 + 1); p = (13 * (k / 9) + 3 * (k % 9)) % 29 })

-- the first k places filled
unfoldable pub bench_places : ℕ → List Pair
bench_places zero = first_work.zone
bench_places (suc k) = set (bench_places k) k (bench_pair k)

abbrev pub bench_square : List Pair
bench_square = bench_places 81

-- entry (1, 0), at place 9, goes with t
unfoldable pub bench_work : ℕ → Work
bench_work t = record { zone = set bench_square 9 (record { m = pos (t % 64); p = t % 16 }); fraction = no_limit }

-- the error count of entry (0, size − 1), and the fraction's n
unfoldable pub probe_of : ℕ → Work → ℕ
probe_of size w = (entry w 0 (size - 1)).p % prime + w.fraction.n % prime

unfoldable pub bench_once : ℕ → ℕ → ℕ
bench_once size t = probe_of size (reduce_of size (bench_work t)).work

-- the sum over the first t reductions
unfoldable pub bench_total : ℕ → ℕ → ℕ
bench_total size zero = 0
bench_total size (suc t) = (bench_total size t + bench_once size t) % prime

-- size 0 and a size above 9 are no zone
unfoldable pub bench_of : ℕ → ℕ → ℕ
bench_of size times = cond (ltb 0 size) (cond (ltb 9 size) 0 (bench_total size times)) 0
