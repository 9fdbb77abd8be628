-- Document 01's table, "Turned down", with document 02's additions: the number of each refusal, and the refusal of each number.
use Rattle.std.specs.Prelude.{ℕ, cond, eqb, Result, Ok, Err}
use Rattle.automata.specs.declared.refusals.Refusal.{Refusal}
use Rattle.automata.specs.declared.refusals.Refusal.TheVariants.{TooShort, OtherLength, OtherVersion, CountsOutOfRange, UnevenLength, NoSuchLocation}
use Rattle.automata.specs.declared.refusals.Refusal.TheVariants.{NoSuchClock, LimitOutOfRange, ErrorCountTooLarge, StoreFull, UnsoundCache, CacheFull}
use Rattle.automata.specs.declared.refusals.Refusal.TheVariants.{FormTooLong, RunTooLong}

abbrev pub number : Refusal → ℕ
number TooShort = 1
number OtherLength = 2
number OtherVersion = 3
number CountsOutOfRange = 4
number UnevenLength = 5
number NoSuchLocation = 6
number NoSuchClock = 7
number LimitOutOfRange = 8
number ErrorCountTooLarge = 9
number StoreFull = 10
number UnsoundCache = 11
number CacheFull = 12
number FormTooLong = 13
number RunTooLong = 14

-- the refusal that has a number of the table; of any other number, which none has, the last
abbrev pub named : ℕ → Refusal
named k =
    cond (eqb k 1) TooShort
    (cond (eqb k 2) OtherLength
    (cond (eqb k 3) OtherVersion
    (cond (eqb k 4) CountsOutOfRange
    (cond (eqb k 5) UnevenLength
    (cond (eqb k 6) NoSuchLocation
    (cond (eqb k 7) NoSuchClock
    (cond (eqb k 8) LimitOutOfRange
    (cond (eqb k 9) ErrorCountTooLarge
    (cond (eqb k 10) StoreFull
    (cond (eqb k 11) UnsoundCache
    (cond (eqb k 12) CacheFull
    (cond (eqb k 13) FormTooLong
    RunTooLong))))))))))))

-- the number of an answer, 0 where it is no refusal
abbrev pub number_in : {X : Type 0} → Result X Refusal → ℕ
number_in (Ok x) = 0
number_in (Err k) = number k
