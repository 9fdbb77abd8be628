-- Worked examples: buffers judged against document 01's card B and others.
use Rattle.std.specs.Prelude.{ℕ, List, [], ◌∷◌, ◌++◌, ◌≡◌, true, false, pos, negsuc, Ok, Err}
use Rattle.automata.specs.Examples.{head}
use Rattle.automata.specs.declared.refusals.Refusal.TheVariants.{OtherLength}
use Rattle.run_judge.specs.Judging.{judgement_of}

-- "B: guard lo 5": start with limits 0 to 5, target with 0 to 9, one edge from 0 to 1
abbrev pub card_b : List ℕ
card_b = head 38 1 ++ (0 ∷ 1 ∷ 0 ∷ 0 ∷ 0 ∷ 0 ∷ 5 ∷ 255 ∷ 255 ∷ 255 ∷ 255 ∷ [])

-- "G: target lo 3, edge resets, guard lo 0": start 0 to 5, target 3 to 9
abbrev pub card_g : List ℕ
card_g =
    0 ∷ 0 ∷ 0 ∷ 38 ∷ 1 ∷ 1 ∷ 2 ∷ 0 ∷ 1 ∷ 0 ∷ 1 ∷ 0 ∷ 0 ∷ 0 ∷ 0 ∷ 0 ∷ 0 ∷ 0 ∷ 5 ∷ 0 ∷ 0 ∷ 0 ∷ 3 ∷ 0 ∷ 0 ∷ 0 ∷ 9
    ∷ 0 ∷ 1 ∷ 1 ∷ 0 ∷ 0 ∷ 0 ∷ 0 ∷ 255 ∷ 255 ∷ 255 ∷ 255 ∷ []

-- no edge, and the start, with limits 0 to 5, is also the target
abbrev pub still : List ℕ
still = 0 ∷ 0 ∷ 0 ∷ 27 ∷ 1 ∷ 1 ∷ 2 ∷ 0 ∷ 0 ∷ 0 ∷ 0 ∷ 0 ∷ 0 ∷ 0 ∷ 0 ∷ 0 ∷ 0 ∷ 0 ∷ 5 ∷ 0 ∷ 0 ∷ 0 ∷ 0 ∷ 0 ∷ 0 ∷ 0 ∷ 9 ∷ []

pub record Shown : Type 0 where
  -- a wait of 5, the jump, a wait of 0; "begins with": whatever follows
  pub there : judgement_of card_b (pos 4 ∷ pos 5 ∷ pos 0 ∷ pos 0 ∷ []) ≡ Ok true
  pub followed : judgement_of card_b (pos 4 ∷ pos 5 ∷ pos 0 ∷ pos 4 ∷ negsuc 6 ∷ pos 1 ∷ []) ≡ Ok true
  -- too soon for the guard, too late for the start's invariant, too long in the target
  pub soon : judgement_of card_b (pos 4 ∷ pos 4 ∷ pos 0 ∷ pos 0 ∷ []) ≡ Ok false
  pub late : judgement_of card_b (pos 4 ∷ pos 6 ∷ pos 0 ∷ pos 0 ∷ []) ≡ Ok false
  pub long : judgement_of card_b (pos 4 ∷ pos 5 ∷ pos 0 ∷ pos 5 ∷ []) ≡ Ok false
  -- not at the target
  pub stays : judgement_of card_b (pos 2 ∷ pos 5 ∷ []) ≡ Ok false
  -- "2k + 2 for k jumps": a count of 0, odd, below 0, above the length; no count
  pub none : judgement_of card_b (pos 0 ∷ pos 5 ∷ pos 0 ∷ pos 0 ∷ []) ≡ Ok false
  pub odd : judgement_of card_b (pos 3 ∷ pos 5 ∷ pos 0 ∷ pos 0 ∷ []) ≡ Ok false
  pub negative : judgement_of card_b (negsuc 3 ∷ pos 5 ∷ pos 0 ∷ pos 0 ∷ []) ≡ Ok false
  pub above : judgement_of card_b (pos 6 ∷ pos 5 ∷ pos 0 ∷ pos 0 ∷ []) ≡ Ok false
  pub empty : judgement_of card_b [] ≡ Ok false
  -- a wait of 2^63 − 1, and one below 0
  pub largest : judgement_of card_b (pos 4 ∷ pos 9223372036854775807 ∷ pos 0 ∷ pos 0 ∷ []) ≡ Ok false
  pub backwards : judgement_of card_b (pos 4 ∷ negsuc 0 ∷ pos 0 ∷ pos 0 ∷ []) ≡ Ok false
  -- an edge that does not exist, and one that leaves another location
  pub no_edge : judgement_of card_b (pos 4 ∷ pos 5 ∷ pos 1 ∷ pos 0 ∷ []) ≡ Ok false
  pub astray : judgement_of card_b (pos 6 ∷ pos 5 ∷ pos 0 ∷ pos 0 ∷ pos 0 ∷ pos 0 ∷ []) ≡ Ok false
  -- the invariant is met on arrival, after the reset
  pub reset : judgement_of card_g (pos 4 ∷ pos 4 ∷ pos 0 ∷ pos 3 ∷ []) ≡ Ok false
  -- no jump: a run has its first wait
  pub at_once : judgement_of still (pos 2 ∷ pos 3 ∷ []) ≡ Ok true
  -- "refuses by 1 to 8", whatever the buffer
  pub refused : judgement_of (0 ∷ card_b) (pos 4 ∷ pos 5 ∷ pos 0 ∷ pos 0 ∷ []) ≡ Err OtherLength
