-- The program "prints one line: verdict, then zones kept"; document 02: "The counts follow the zone count in the line". In ASCII:
-- `holds 1/1 zones 1 again 0 inside 0`, `holds any zones 1 again 1 inside 0`, `reached zones 1 again 0 inside 0`, `refused 10`.
use Rattle.std.specs.Prelude.{ℕ, zero, suc, ◌+◌, ◌/◌, ◌%◌, true, false, List, [], ◌∷◌, ◌++◌, ltb, Result, Ok, Err}
use Rattle.automata.specs.Numbers.{number}
use Rattle.automata.specs.declared.refusals.Refusal.{Refusal}
use Rattle.search.specs.declared.verdict.Findings.{Findings}
use Rattle.search.specs.declared.verdict.Holding.{Holding}
use Rattle.search.specs.declared.verdict.Holding.TheVariants.{AnyError, Below}
use Rattle.search.specs.declared.verdict.Verdict.{Verdict}
use Rattle.search.specs.declared.verdict.Verdict.TheVariants.{Reached, Holds}

-- ---- the words
-- "reached"
abbrev pub reached : List ℕ
reached = 114 ∷ 101 ∷ 97 ∷ 99 ∷ 104 ∷ 101 ∷ 100 ∷ []

-- "holds "
abbrev pub holds : List ℕ
holds = 104 ∷ 111 ∷ 108 ∷ 100 ∷ 115 ∷ 32 ∷ []

-- "any"
abbrev pub any : List ℕ
any = 97 ∷ 110 ∷ 121 ∷ []

-- " zones "
abbrev pub zones_word : List ℕ
zones_word = 32 ∷ 122 ∷ 111 ∷ 110 ∷ 101 ∷ 115 ∷ 32 ∷ []

-- " again "
abbrev pub again_word : List ℕ
again_word = 32 ∷ 97 ∷ 103 ∷ 97 ∷ 105 ∷ 110 ∷ 32 ∷ []

-- " inside "
abbrev pub inside_word : List ℕ
inside_word = 32 ∷ 105 ∷ 110 ∷ 115 ∷ 105 ∷ 100 ∷ 101 ∷ 32 ∷ []

-- "refused "
abbrev pub refused : List ℕ
refused = 114 ∷ 101 ∷ 102 ∷ 117 ∷ 115 ∷ 101 ∷ 100 ∷ 32 ∷ []

-- ---- a number in decimal, with no zero before it
-- its last digits, `more` of them at the most before the last
unfoldable pub digits_of : ℕ → ℕ → List ℕ
digits_of zero n = (48 + n % 10) ∷ []
digits_of (suc more) n = elim (ltb n 10) [ true ↦ (48 + n) ∷ [] | false ↦ digits_of more (n / 10) ++ ((48 + n % 10) ∷ []) ]

-- n digits are enough for n
unfoldable pub decimal : ℕ → List ℕ
decimal n = digits_of n n

-- ---- the line
-- what is found, with the number of a refusal
abbrev pub numbered : Result Findings Refusal → Result Findings ℕ
numbered (Ok x) = Ok x
numbered (Err k) = Err (number k)

unfoldable pub holding_text : Holding → List ℕ
holding_text AnyError = any
holding_text (Below f) = decimal f.n ++ (47 ∷ decimal f.d)

unfoldable pub verdict_text : Verdict → List ℕ
verdict_text Reached = reached
verdict_text (Holds h) = holds ++ holding_text h

unfoldable pub findings_text : Result Findings ℕ → List ℕ
findings_text (Ok x) =
    verdict_text x.answer.verdict ++ ((zones_word ++ decimal x.answer.zones) ++
    ((again_word ++ decimal x.dropped.again) ++ (inside_word ++ decimal x.dropped.inside)))
findings_text (Err k) = refused ++ decimal k

-- with the end of the line
unfoldable pub line_of : Result Findings ℕ → List ℕ
line_of r = findings_text r ++ (10 ∷ [])
