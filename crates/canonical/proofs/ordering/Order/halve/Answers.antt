-- `halve` meets its contract: the place is between lo and hi.
use Prim.Native.Nat.{ℕ}
use mathlib.Core.List.{List}
use mathlib.Core.Path.{◌≡◌, ap, ◌∙◌}
use lib.ListN.{get_or}
use native.Mathlib.Omega.{arith}
use Rattle.encoding.specs.Bytes.{same_bytes}
use Rattle.order.specs.Laid.{nth_edge}
use Rattle.canonical.proofs.ordering.Placing.{place_new, place_none}
use Rattle.canonical.proofs.ordering.Order.halve.Goals as goal
use Rattle.canonical.proofs.ordering.Order.halve.Goals.{After-same}

compared : (c : After-same) → let e = c.args.self.now.edges in
    let listed = get_or c.args.self.now.numbers.items c.loop-lo.lo 0 in
    c.same.result ≡ same_bytes (nth_edge e.size e.bytes.now c.args.x) (nth_edge e.size e.bytes.now listed)
compared c =
    let e = c.args.self.now.edges in
    let listed = c.from-2.ensures ∙ ap (λ (ns : List ℕ). get_or ns c.loop-lo.lo 0) c.as_slice-numbers.ensures.value in
    let there = c.nth-2.ensures.bytes ∙ ap (nth_edge e.size e.bytes.now) listed in
    c.same.ensures ∙ (λ t. same_bytes (c.nth-edge.ensures.bytes t) (there t))

pub returns-then-same : goal.returns-then-same
returns-then-same c =
    let l = c.loop-lo in
    let here = compared (goal.at.returns-then-same c).After-same in
    place_none _ _ _ _ l.lo l.hi l.invariant (omega arith) here c.if-same.true

pub returns : goal.returns
returns c =
    let l = c.loop-lo in
    let here = compared (goal.at.returns c).After-same in
    place_new _ _ _ _ l.lo l.hi l.invariant (omega arith) here c.if-same.false
