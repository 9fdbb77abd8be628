-- The documents' lines, a refusal by its number and by its name in the table, and a line with longer numbers.
use Rattle.std.specs.Prelude.{ℕ, List, [], ◌∷◌, ◌≡◌, Result, Ok, Err}
use Rattle.automata.specs.declared.refusals.Refusal.TheVariants.{StoreFull}
use Rattle.search.specs.declared.verdict.Findings.{Findings}
use Rattle.search.specs.declared.verdict.Holding.TheVariants.{AnyError, Below}
use Rattle.search.specs.declared.verdict.Verdict.{Verdict}
use Rattle.search.specs.declared.verdict.Verdict.TheVariants.{Reached, Holds}
use Rattle.zones.specs.Fractions.{no_limit}
use Rattle.robustness.specs.Lines.{numbered, line_of}

pub record Example : Type 0 where
  pub findings : Result Findings ℕ
  pub line : List ℕ

abbrev pub AllRight : List Example → Type 0
AllRight [] = Unit {0}
AllRight (x ∷ xs) = (line_of x.findings ≡ x.line) × AllRight xs

-- a verdict, the zones kept, and those dropped as again and as inside; the line does not have the exact fraction
abbrev found : Verdict → ℕ → ℕ → ℕ → Result Findings ℕ
found v zones again inside =
    Ok (record { answer = record { verdict = v; zones = zones }; exact = no_limit; dropped = record { again = again; inside = inside } })

abbrev pub examples : List Example
examples =
    -- `holds 1/1 zones 1 again 0 inside 0`: A
    record {
      findings = found (Holds (Below (record { n = 1; d = 1 }))) 1 0 0;
      line = 104 ∷ 111 ∷ 108 ∷ 100 ∷ 115 ∷ 32 ∷ 49 ∷ 47 ∷ 49 ∷ 32 ∷ 122 ∷ 111 ∷ 110 ∷ 101 ∷ 115 ∷ 32 ∷ 49 ∷ 32 ∷ 97 ∷ 103 ∷ 97 ∷ 105 ∷ 110 ∷ 32 ∷ 48
          ∷ 32 ∷ 105 ∷ 110 ∷ 115 ∷ 105 ∷ 100 ∷ 101 ∷ 32 ∷ 48 ∷ 10 ∷ [];
    }
    -- `holds any zones 1 again 1 inside 0`: H
    ∷ record {
      findings = found (Holds AnyError) 1 1 0;
      line = 104 ∷ 111 ∷ 108 ∷ 100 ∷ 115 ∷ 32 ∷ 97 ∷ 110 ∷ 121 ∷ 32 ∷ 122 ∷ 111 ∷ 110 ∷ 101 ∷ 115 ∷ 32 ∷ 49 ∷ 32 ∷ 97 ∷ 103 ∷ 97 ∷ 105 ∷ 110 ∷ 32
          ∷ 49 ∷ 32 ∷ 105 ∷ 110 ∷ 115 ∷ 105 ∷ 100 ∷ 101 ∷ 32 ∷ 48 ∷ 10 ∷ [];
    }
    -- `reached zones 1 again 0 inside 0`: B
    ∷ record {
      findings = found Reached 1 0 0;
      line = 114 ∷ 101 ∷ 97 ∷ 99 ∷ 104 ∷ 101 ∷ 100 ∷ 32 ∷ 122 ∷ 111 ∷ 110 ∷ 101 ∷ 115 ∷ 32 ∷ 49 ∷ 32 ∷ 97 ∷ 103 ∷ 97 ∷ 105 ∷ 110 ∷ 32 ∷ 48 ∷ 32 ∷ 105
          ∷ 110 ∷ 115 ∷ 105 ∷ 100 ∷ 101 ∷ 32 ∷ 48 ∷ 10 ∷ [];
    }
    -- `refused 10`
    ∷ record {
      findings = Err 10;
      line = 114 ∷ 101 ∷ 102 ∷ 117 ∷ 115 ∷ 101 ∷ 100 ∷ 32 ∷ 49 ∷ 48 ∷ 10 ∷ [];
    }
    -- the same, by its name in the table
    ∷ record {
      findings = numbered (Err StoreFull);
      line = 114 ∷ 101 ∷ 102 ∷ 117 ∷ 115 ∷ 101 ∷ 100 ∷ 32 ∷ 49 ∷ 48 ∷ 10 ∷ [];
    }
    -- longer numbers
    ∷ record {
      findings = found (Holds (Below (record { n = 1000000; d = 3 }))) 65535 12 345678;
      line = 104 ∷ 111 ∷ 108 ∷ 100 ∷ 115 ∷ 32 ∷ 49 ∷ 48 ∷ 48 ∷ 48 ∷ 48 ∷ 48 ∷ 48 ∷ 47 ∷ 51 ∷ 32 ∷ 122 ∷ 111 ∷ 110 ∷ 101 ∷ 115 ∷ 32 ∷ 54 ∷ 53 ∷ 53
          ∷ 51 ∷ 53 ∷ 32 ∷ 97 ∷ 103 ∷ 97 ∷ 105 ∷ 110 ∷ 32 ∷ 49 ∷ 50 ∷ 32 ∷ 105 ∷ 110 ∷ 115 ∷ 105 ∷ 100 ∷ 101 ∷ 32 ∷ 51 ∷ 52 ∷ 53 ∷ 54 ∷ 55 ∷ 56
          ∷ 10 ∷ [];
    }
    ∷ []
