-- The text that std prints of a number of 64 bits is the number in decimal.
-- Assumes nothing.
use Rattle.std.proofs.Common.{◌≡◌, ℕ, zero, suc, ◌^◌, ◌<◌, List, [], arith, rules, sym}
use Rattle.std.proofs.lemmas.Fmt.{decimal_from_appends, length-decimal-le_succ, AppendsLastDigit}
use Rattle.std.specs.Fmt.{decimal as printed}
use Rattle.robustness.specs.Lines.{digits_of, decimal}

-- at most so many of the last digits
last : ℕ → ℕ → List ℕ
last zero n = []
last (suc more) n = digits_of more n

appends : AppendsLastDigit last
unfolding last digits_of
appends = search rules

pub printed_decimal : (n : ℕ) → n < 2 ^ 64 → printed n ≡ decimal n
unfolding decimal last
printed_decimal n h = sym (decimal_from_appends last appends (suc n) n h (omega (arith, length-decimal-le_succ n h)))
