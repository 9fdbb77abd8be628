-- `fraction::gcd` meets its contract: at the end the second number is 0.
use mathlib.Core.Path.{◌≡◌}
use native.Mathlib.Omega.{arith}
use Rattle.zones.proofs.fractions.Lowest.{gcd-zero}
use Rattle.zones.proofs.fraction.gcd.Goals as goal

pub returns : goal.returns
returns c =
    let e : c.loop-b.b ≡ 0 = omega arith in
    rw (e, gcd-zero) at c.loop-b.invariant
