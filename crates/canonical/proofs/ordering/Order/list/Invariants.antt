-- The loop of `list`: the edges that are taken are in order, from whichever end it takes them.
use Rattle.std.proofs.Common.{◌≡◌, Bool}
use Rattle.canonical.specs.Numbers.{ListsOf, Takes, taken}
use Rattle.canonical.proofs.ordering.Order.list.Given as goal

abbrev pub invariant-loop-i : goal.invariant-loop-i
invariant-loop-i g l =
    let e = l.fn.self.edges in
    (l.self.edges ≡ e)
    × ((down : Bool) → Takes down e.count (goal.F-pre g l.taken) (goal.F-post g l.taken)
    → ListsOf e.size e.bytes.now (taken e.size e.bytes.now down e.count l.i) l.i l.self.numbers.items)
