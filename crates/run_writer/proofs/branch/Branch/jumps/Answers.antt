-- As many jumps come as lead to the zone.
-- Assumes nothing.
use Prim.Native.Nat.{◌+◌}
use mathlib.Core.List.{List, [], ◌∷◌}
use mathlib.Core.Logic.{∥∥₁_elim, inl}
use mathlib.Core.Path.{◌≡◌, ap, ◌∙◌}
use lib.ListN.{length}
use native.Mathlib.Omega.{arith}
use Rattle.std.proofs.Props.{props}
use Rattle.std.specs.Iterator.{Yields, Drains}
use Rattle.run_writer.specs.declared.branch.Branch.{Branch}
use Rattle.run_writer.specs.declared.crossing.Jump.{Jump}
use Rattle.run_writer.specs.Walks.{jumps_left, Walks}
use Rattle.run_writer.proofs.branch.Stepping.{jumps_few, no_jumps}
use Rattle.run_writer.proofs.branch.Branch.jumps.Goals as goal

yielded : (xs : List Jump) (x y : Branch) → Yields Walks x xs y → jumps_left x ≡ length xs + jumps_left y
yielded [] x y e = omega (arith, ap jumps_left e)
yielded (j ∷ xs) x y (z, w, r) = omega (arith, w.fewer, yielded xs z y r)

drained : (xs : List Jump) (x : Branch) → Drains Walks x xs → length xs ≡ jumps_left x
drained xs x (u, (y, ys, none)) = omega (arith, yielded xs x y ys, no_jumps y none.0)

pub count-requires-clause-fits : goal.count-requires-clause-fits
count-requires-clause-fits c =
    inl (∥∥₁_elim c.args.self.stands (Prim.hlevel props) (λ s. omega (arith, jumps_few s.ended s.standing)))

pub returns : goal.returns
returns c = let ran = c.count.ensures.ran in ran.2 ∙ drained ran.0 c.args.self ran.1
