-- `write_numbers` meets its contract: kind, n and d, each right behind the one before.
use mathlib.Core.List.{[], ◌∷◌}
use native.Mathlib.Omega.{arith}
use Rattle.encoding.specs.Numbers.{be32}
use Rattle.cache.specs.Records.{number_bytes}
use Rattle.encoding.proofs.Placed.{goes_on}
use Rattle.cache.proofs.record.Entry.write_numbers.Goals as goal

pub returns : goal.returns
unfolding number_bytes be32
returns c =
    let e = c.args.self.now in
    let L = e.layout in
    let laid = e.laid in
    let room = c.requires in
    let x = c.from-x.result in
    let s = c.args.free.now in
    let kind-n = goes_on s (x.kind ∷ []) (be32 x.n) L.kind L.n (omega (arith, laid)) (omega (arith, laid))
    c.put.ensures c.bytes_of.ensures c.put-2.ensures in
    rw (← c.from-x.ensures) (goes_on s (x.kind ∷ be32 x.n) (be32 x.d) L.kind L.d (omega (arith, laid)) (omega (arith, laid))
    kind-n c.bytes_of-2.ensures c.put-3.ensures)
