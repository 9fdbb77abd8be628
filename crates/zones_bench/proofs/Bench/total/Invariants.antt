-- The loop of `Bench::total`: what it keeps.
use Prim.Native.Nat.{◌<◌}
use mathlib.Core.Path.{◌≡◌}
use Rattle.zones_bench.specs.Bench.{bench_total}
use Rattle.zones_bench.proofs.Bench.total.Given as goal

abbrev pub invariant-loop-t : goal.invariant-loop-t
invariant-loop-t l = (l.sum < 1000003) × (l.sum ≡ bench_total l.self.size l.t)
