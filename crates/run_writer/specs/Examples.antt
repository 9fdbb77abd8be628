-- Worked examples: document 01's card B, and an automaton whose start is its target.
use Rattle.std.specs.Prelude.{ℕ, List, [], ◌∷◌, ◌≡◌, ℤ, pos, Ok, Err}
use Rattle.automata.specs.declared.refusals.Refusal.TheVariants.{StoreFull, RunTooLong}
use Rattle.search.specs.declared.verdict.Verdict.TheVariants.{Reached}
use Rattle.run_writer.specs.Writing.{run_findings, run_buffer}

-- one clock; the start is 0 with limits 0 to 5, the target 1 with 0 to 9; one edge, with lo 5
abbrev pub card_b : List ℕ
card_b =
    0 ∷ 0 ∷ 0 ∷ 38 ∷ 1 ∷ 1 ∷ 2 ∷ 0 ∷ 1 ∷ 0 ∷ 1 ∷ 0 ∷ 0 ∷ 0 ∷ 0 ∷ 0 ∷ 0 ∷ 0 ∷ 5 ∷ 0 ∷ 0 ∷ 0 ∷ 0 ∷ 0 ∷ 0 ∷ 0 ∷ 9 ∷
    0 ∷ 1 ∷ 0 ∷ 0 ∷ 0 ∷ 0 ∷ 5 ∷ 255 ∷ 255 ∷ 255 ∷ 255 ∷ []

-- one location, its own target, with limits 0 to 5
abbrev pub at_once : List ℕ
at_once = 0 ∷ 0 ∷ 0 ∷ 19 ∷ 1 ∷ 1 ∷ 1 ∷ 0 ∷ 0 ∷ 0 ∷ 0 ∷ 0 ∷ 0 ∷ 0 ∷ 0 ∷ 0 ∷ 0 ∷ 0 ∷ 5 ∷ []

-- a buffer of five numbers, and of three
abbrev pub lent : List ℤ
lent = pos 7 ∷ pos 7 ∷ pos 7 ∷ pos 7 ∷ pos 7 ∷ []

abbrev pub short : List ℤ
short = pos 7 ∷ pos 7 ∷ pos 7 ∷ []

pub record AllRight : Type 0 where
  -- wait 5, take edge 0, wait 0; the number behind is as it was
  pub told : run_findings card_b 11 5
      ≡ Ok (record { answer = record { verdict = Reached; zones = 1 }; exact = record { n = 5; d = 1 }; dropped = record { again = 0; inside = 0 } })
  pub run : run_buffer card_b 11 lent ≡ pos 4 ∷ pos 5 ∷ pos 0 ∷ pos 0 ∷ pos 7 ∷ []
  -- 14 where one number lacks
  pub refused : run_findings card_b 11 3 ≡ Err RunTooLong
  pub untouched : run_buffer card_b 11 short ≡ short
  -- 10, where the start's zone has no slot
  pub full : run_findings card_b 10 5 ≡ Err StoreFull
  pub none : run_buffer card_b 10 lent ≡ lent
  -- with no jump the run is `2, 0`
  pub here : run_buffer at_once 0 short ≡ pos 2 ∷ pos 0 ∷ pos 7 ∷ []
