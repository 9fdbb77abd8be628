-- `Work::reset` meets its contract: the places passed are reset, and an entry that is still to be read is as it was.
use Prim.Native.Nat.{◌+◌, ◌*◌, ◌<◌}
use mathlib.Core.Path.{◌≡◌, refl, ◌∙◌}
use mathlib.Core.Logic.{inl, inr}
use lib.ListN.{length}
use native.Mathlib.Omega.{arith}
use Rattle.zones.specs.Zones.{set_of, home, reset_places}
use Rattle.zones.proofs.places.Places.{home_is, reset_next, reset_as, reset_all}
use Rattle.zones.proofs.zone.Work.reset.Goals as goal
use Rattle.zones.proofs.zone.Work.reset.Goals.{Joined-marked-i, Joined-marked-j, then-marked-i, else-marked-i, then-marked-j, else-marked-j}

pub loop-i-init : goal.loop-i-init
unfolding reset_places
loop-i-init c = (refl, refl)

-- the index whose row or column an index has
row : (c : Joined-marked-i) →
    (c.if-marked-i.a < 9) × (c.if-marked-i.a ≡ home (set_of c.args.marked) c.loop-i.i)
row c =
    let h = home_is _ _ (elim c.if-marked-i.branch
    [ then-marked-i w ↦ inl (w.if-marked-i.true, w.a-is) | else-marked-i w ↦ inr (w.if-marked-i.false, w.a-is) ]) in
    (h.0 (omega arith), h.1)

column : (c : Joined-marked-j) →
    (c.if-marked-j.b < 9) × (c.if-marked-j.b ≡ home (set_of c.args.marked) c.loop-j.j)
column c =
    let h = home_is _ _ (elim c.if-marked-j.branch
    [ then-marked-j w ↦ inl (w.if-marked-j.true, w.b-is) | else-marked-j w ↦ inr (w.if-marked-j.false, w.b-is) ]) in
    (h.0 (omega arith), h.1)

pub loop-j-init : goal.loop-j-init
loop-j-init c = let none : c.loop-i.i * 9 ≡ c.loop-i.i * 9 + 0 = omega arith in (refl, λ y size e. reset_as _ y none e)

pub loop-j-preserved : goal.loop-j-preserved
loop-j-preserved c =
    let r = row (goal.at.loop-j-preserved c).Joined-marked-i in
    let b = column (goal.at.loop-j-preserved c).Joined-marked-j in (
      c.loop-j.invariant.0,
      λ y size e. reset_next _ y _ _ size (omega arith) (omega arith) (c.loop-j.invariant.1 y size e) r.1 b.1,
    )

pub loop-i-preserved : goal.loop-i-preserved
loop-i-preserved c =
    let size : length c.args.self.zone ≡ 81 = c.well_formed.0.1.1.0.1.0.1 in
    let next : c.loop-i.i * 9 + c.loop-j.j ≡ (c.loop-i.i + 1) * 9 = omega arith in
    let done = c.loop-j.invariant in
    (reset_as _ _ next (done.1 _ size c.loop-i.invariant.0), done.0 ∙ c.loop-i.invariant.1)

pub returns : goal.returns
returns c =
    let last : c.loop-i.i * 9 ≡ c.args.size * 9 = omega arith in
    reset_all _ _ _ last c.loop-i.invariant.0 c.loop-i.invariant.1

pub overflow_add-q : goal.overflow_add-q
overflow_add-q c =
    omega (arith, (row (goal.at.overflow_add-q c).Joined-marked-i).0, (column (goal.at.overflow_add-q c).Joined-marked-j).0)

pub offset_bounds-work-a : goal.offset_bounds-work-a
offset_bounds-work-a c =
    omega (arith, (row (goal.at.offset_bounds-work-a c).Joined-marked-i).0, (column (goal.at.offset_bounds-work-a c).Joined-marked-j).0)

pub bounds-work-a : goal.bounds-work-a
bounds-work-a c =
    omega (arith, (row (goal.at.bounds-work-a c).Joined-marked-i).0, (column (goal.at.bounds-work-a c).Joined-marked-j).0)
