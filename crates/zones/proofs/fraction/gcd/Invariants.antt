-- The loop of `gcd`: what it keeps, and what falls.
use mathlib.Core.Path.{◌≡◌}
use Rattle.zones.specs.Fractions.{gcd_of}
use Rattle.zones.proofs.fraction.gcd.Given as goal

abbrev pub invariant-loop-b : goal.invariant-loop-b
invariant-loop-b l = gcd_of l.a l.b ≡ gcd_of l.x l.y

abbrev pub decreases-loop-b : goal.decreases-loop-b
decreases-loop-b l = l.b
