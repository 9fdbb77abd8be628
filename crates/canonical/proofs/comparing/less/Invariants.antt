-- The loops of `less`: what they keep.
use Rattle.std.proofs.Common.{◌*◌, ◌≡◌}
use Rattle.order.specs.Edges.{bytes_less}
use Rattle.canonical.specs.Comparing.{less_from}
use Rattle.canonical.proofs.comparing.less.Given as goal

abbrev pub invariant-loop-i : goal.invariant-loop-i
invariant-loop-i l = less_from l.a l.b (4 * l.i) ≡ bytes_less l.a l.b

abbrev pub invariant-loop-i-2 : goal.invariant-loop-i-2
invariant-loop-i-2 l = less_from l.a l.b l.i ≡ bytes_less l.a l.b
