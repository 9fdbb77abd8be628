-- `write` meets its contract: the length, the numbers, the zone count and the automaton, each right behind the one before.
use Prim.Native.Nat.{◌+◌}
use mathlib.Core.List.{◌++◌}
use mathlib.Core.Path.{refl}
use lib.ListN.{length}
use native.Mathlib.Omega.{arith}
use Rattle.encoding.specs.Numbers.{be32}
use Rattle.search.specs.Verdicts.{numbers_of}
use Rattle.cache.specs.Records.{number_bytes, record_of}
use Rattle.encoding.proofs.Placed.{goes_on}
use Rattle.cache.proofs.record.Entry.write.Goals as goal

pub returns : goal.returns
unfolding record_of number_bytes be32
returns c =
    let e = c.args.self.now in
    let L = e.layout in
    let laid = e.laid in
    let x = numbers_of e.answer.verdict in
    let z = e.answer.zones in
    let b = e.automaton.now in
    let s = c.args.free.now in
    let size = be32 (L.head + length b) in
    let begun = goes_on s size (number_bytes x) 0 L.kind (omega arith) (omega (arith, laid))
    (rw (c.bytes_of.ensures, c.length.ensures) at c.put.ensures) refl c.write_numbers.ensures in
    let told = goes_on s (size ++ number_bytes x) (be32 z) 0 L.zones (omega arith) (omega (arith, laid))
    begun c.bytes_of-2.ensures c.put-2.ensures in
    goes_on s (size ++ (number_bytes x ++ be32 z)) b 0 L.head (omega arith) (omega (arith, laid)) told refl c.put-3.ensures
