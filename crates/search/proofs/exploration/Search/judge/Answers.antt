-- A zone that has entered a location: each of the four ways out gives what the definition's offer comes to.
-- Assumes nothing.
use Prim.Native.Nat.{◌+◌}
use native.Mathlib.Omega.{arith}
use Rattle.encoding.specs.Placing.{placed}
use Rattle.search.proofs.exploration.Judging.{Entered, enters, asks_find, asks_largest, new_length, slot_within, next_within}
use Rattle.search.proofs.exploration.Judging.{asks_inside, asks_drop, gives_inside, gives_big, gives_full, gives_kept}
use Rattle.search.proofs.exploration.Search.judge.Goals as goal
use Rattle.search.proofs.exploration.Search.judge.Goals.{Start}

entered : (c : Start) → Entered c.args.self.automaton.now.bytes.now c.args.l c.args.origin c.args.w c.args.self.capacity c.args.turn
    c.args.store.now (c.args.self.automaton.now.clocks + 1)
entered c = enters c.args.self.automaton.now c.args.origin c.requires.there c.requires.going c.requires.sized

pub find-requires : goal.find-requires
find-requires c = asks_find (entered (goal.at.find-requires c).Start) c.encode-numbers.ensures c.slot_length-stride.ensures

-- ---- a kept slot contains it
pub slice_bounds-old-end : goal.slice_bounds-old-end
slice_bounds-old-end c =
    let e = c.slot_length-stride.ensures in
    omega (arith, e, slot_within (entered (goal.at.slice_bounds-old-end c).Start) e c.in-Some.ensures.0)

pub inside_of-requires : goal.inside_of-requires
inside_of-requires c =
    let places = goal.at.inside_of-requires c in
    asks_inside (entered places.Start) c.encode-numbers.ensures c.slot_length-stride.ensures c.in-Some.ensures.1 c.in-Some.ensures.0

pub contained-requires : goal.contained-requires
contained-requires c =
    let places = goal.at.contained-requires c in
    asks_drop (entered places.Start) c.encode-numbers.ensures c.slot_length-stride.ensures c.in-Some.ensures.1 c.in-Some.ensures.0
    c.inside_of.ensures

pub returns-in-Some : goal.returns-in-Some
returns-in-Some c =
    let places = goal.at.returns-in-Some c in
    gives_inside (entered places.Start) c.encode-numbers.ensures c.slot_length-stride.ensures c.in-Some.ensures.1 c.in-Some.ensures.0
    c.inside_of.ensures c.contained.ensures

-- ---- none does
pub largest_count-requires : goal.largest_count-requires
largest_count-requires c = asks_largest (entered (goal.at.largest_count-requires c).Start) c.encode-numbers.ensures c.slot_length-stride.ensures

pub returns-then-largest_count-gt-COUNTS : goal.returns-then-largest_count-gt-COUNTS
returns-then-largest_count-gt-COUNTS c =
    rw c.refused.ensures
    (gives_big (entered (goal.at.returns-then-largest_count-gt-COUNTS c).Start) c.encode-numbers.ensures c.slot_length-stride.ensures
    c.in_default.ensures (omega arith) c.largest_count.ensures c.if-largest_count-gt-COUNTS.true)

pub keep-requires : goal.keep-requires
keep-requires c =
    let here = entered (goal.at.keep-requires c).Start in
    let e = c.slot_length-stride.ensures in
    omega (arith, e, new_length here c.encode-numbers.ensures e, next_within here e c.if-turn-self.true)

pub returns-then-turn-self : goal.returns-then-turn-self
unfolding placed
returns-then-turn-self c =
    gives_kept (entered (goal.at.returns-then-turn-self c).Start) c.encode-numbers.ensures c.slot_length-stride.ensures
    c.in_default.ensures (omega arith) c.largest_count.ensures c.if-largest_count-gt-COUNTS.false c.if-turn-self.true c.keep.ensures

pub returns : goal.returns
returns c =
    rw c.refused-2.ensures
    (gives_full (entered (goal.at.returns c).Start) c.encode-numbers.ensures c.slot_length-stride.ensures c.in_default.ensures (omega arith)
    c.largest_count.ensures c.if-largest_count-gt-COUNTS.false c.if-turn-self.false)
