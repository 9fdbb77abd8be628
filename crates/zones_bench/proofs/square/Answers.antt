-- The square has the entry of each place.
-- Assumes nothing.
use mathlib.Core.Path.{sym, ◌∙◌}
use native.Mathlib.Omega.{arith}
use Rattle.std.proofs.Common.{rules}
use Rattle.std.proofs.lemmas.List.{ext_get_or}
use Rattle.zones.specs.Pairs.{zero_pair}
use Rattle.zones_bench.specs.Bench.{bench_square}
use Rattle.zones_bench.proofs.Filling.{places_size, places_at}
use Rattle.zones_bench.proofs.square.Goals as goal

pub returns : goal.returns
returns c =
    let made = c.from_fn.ensures.items in
    ext_get_or zero_pair _ bench_square (made.long ∙ sym (places_size 81))
    (λ i h. let at = made.at i zero_pair (omega (arith, made.long)) in search rules ∙ sym (places_at 81 i (omega arith) (omega (arith, made.long))))
