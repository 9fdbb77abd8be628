-- The loop of `write_edges`: the edges up to number k are written.
use Rattle.std.proofs.Common.{◌≡◌, take}
use Rattle.encoding.specs.Placing.{placed}
use Rattle.canonical.specs.Numbers.{listed_bytes}
use Rattle.canonical.proofs.writing.write_edges.Given as goal

abbrev pub invariant-loop-k : goal.invariant-loop-k
invariant-loop-k l = l.form ≡ placed l.order.edges.at (listed_bytes l.order.edges.size l.order.edges.bytes.now (take l.k l.i-items)) l.initial.form
