-- A verdict's numbers: one law for each branch of their definitions, and what holds of those of a verdict that is given out: they say
-- that verdict, are sound, and take four bytes each.
-- Assumes nothing.
use Prim.Native.Nat.{ℕ, ◌<◌}
use mathlib.Core.Bool.{true}
use mathlib.Core.List.{List}
use mathlib.Core.Path.{◌≡◌, refl, sym, ap}
use borrow.Author.Tests.{le-leb, eq-eqb}
use native.Mathlib.Omega.{arith}
use Rattle.zones.specs.Fractions.{gcd_of}
use Rattle.std.specs.Prelude.{Ok}
use Rattle.search.specs.declared.verdict.Numbers.{Numbers}
use Rattle.search.specs.declared.verdict.Verdict.{Verdict}
use Rattle.search.specs.declared.verdict.Verdict.TheVariants.{Reached, Holds}
use Rattle.search.specs.Given.{Lowest, Given}
use Rattle.search.specs.Verdicts.{fraction_of, numbers_of, verdict_of, sound_numbers}

-- ---- a verdict that is given out
pub numbers-back : (b : List ℕ) (v : Verdict) (zones : ℕ) → Given b (Ok (record { verdict = v; zones = zones })) → verdict_of (numbers_of v) ≡ v
unfolding Given Lowest numbers_of verdict_of
numbers-back b Reached zones g = refl
numbers-back b (Holds h) zones g = ap Holds (sym g.0.1)

pub numbers_are_sound : (b : List ℕ) (v : Verdict) (zones : ℕ) → Given b (Ok (record { verdict = v; zones = zones })) →
    sound_numbers (numbers_of v) ≡ true
unfolding Given Lowest numbers_of sound_numbers
numbers_are_sound b Reached zones g = refl
numbers_are_sound b (Holds h) zones g =
    rw (le-leb 1 (fraction_of h).n g.0.0.least, eq-eqb (gcd_of (fraction_of h).n (fraction_of h).d) 1 g.0.0.lowest) refl

-- its n, d and zone count take four bytes, its kind one
pub record Short (x : Numbers) (zones : ℕ) : Type 0 where
  pub kind< : x.kind < 256
  pub n< : x.n < 4294967296
  pub d< : x.d < 4294967296
  pub zones< : zones < 4294967296

pub numbers-short : (b : List ℕ) (v : Verdict) (zones : ℕ) → Given b (Ok (record { verdict = v; zones = zones })) → Short (numbers_of v) zones
unfolding Given Lowest numbers_of
numbers-short b Reached zones g = record { kind< = omega arith; n< = omega arith; d< = omega arith; zones< = omega (arith, g.1) }
numbers-short b (Holds h) zones g = record { kind< = omega arith; n< = g.0.0.n<; d< = g.0.0.d<; zones< = omega (arith, g.1) }
