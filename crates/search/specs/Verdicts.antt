-- A verdict, with document 01's numbers and values for each of its cases, and which numbers are those of a verdict.
use Rattle.std.specs.Prelude.{Bool, cond, ◌&&◌, leb, eqb}
use Rattle.zones.specs.declared.fraction.Fraction.{Fraction}
use Rattle.zones.specs.Fractions.{no_limit, gcd_of}
use Rattle.search.specs.declared.verdict.Holding.{Holding}
use Rattle.search.specs.declared.verdict.Holding.TheVariants.{AnyError, Below}
use Rattle.search.specs.declared.verdict.Numbers.{Numbers}
use Rattle.search.specs.declared.verdict.Verdict.{Verdict}
use Rattle.search.specs.declared.verdict.Verdict.TheVariants.{Reached, Holds}

-- ---- a holding and its fraction
-- holding at any error counts as 1/0, as demand 3 has it
abbrev pub fraction_of : Holding → Fraction
fraction_of AnyError = no_limit
fraction_of (Below f) = f

-- up to which error a fraction says that it holds
unfoldable pub holding_of : Fraction → Holding
holding_of f = cond (eqb f.d 0) AnyError (Below f)

-- ---- a verdict and its numbers: "kind (0 reached, 1 holds)", n and d. "Reached has 0 and 0."
unfoldable pub numbers_of : Verdict → Numbers
numbers_of Reached = record { kind = 0; n = 0; d = 0 }
numbers_of (Holds h) = record { kind = 1; n = (fraction_of h).n; d = (fraction_of h).d }

-- the verdict that numbers say
unfoldable pub verdict_of : Numbers → Verdict
verdict_of x = cond (eqb x.kind 0) Reached (Holds (holding_of (record { n = x.n; d = x.d })))

-- "kinds and fractions as above, a holding record's n at least 1 and in lowest terms (d of 0 only with n of 1)": the greatest common
-- divisor of n and 0 is n
unfoldable pub sound_numbers : Numbers → Bool
sound_numbers x =
    cond (eqb x.kind 0) (eqb x.n 0 && eqb x.d 0)
    (eqb x.kind 1 && (leb 1 x.n && eqb (gcd_of x.n x.d) 1))
