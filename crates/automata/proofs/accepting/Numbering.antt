-- The table's numbers: each is above 0, and is that of one refusal.
-- Assumes nothing.
use Prim.Native.Nat.{ℕ, ◌<◌, ◌≤◌}
use mathlib.Core.List.{List}
use mathlib.Core.Path.{◌≡◌}
use Rattle.std.proofs.Common.{rules, tests}
use Rattle.automata.specs.declared.refusals.Refusal.{Refusal}
use Rattle.automata.specs.Numbers.{number, named}
use Rattle.automata.specs.Refusals.{refusal_of}

pub above : (k : Refusal) → 1 ≤ number k
above k = search (rules, tests)

pub named_number : (k : Refusal) → named (number k) ≡ k
named_number k = search (rules, tests)

-- the numbers of an automaton at reading are those of their refusals
pub named_refusal : (s : List ℕ) → 0 < refusal_of s → number (named (refusal_of s)) ≡ refusal_of s
unfolding refusal_of
named_refusal s h = search (rules, tests)
