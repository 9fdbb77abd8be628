-- Steps back worked by hand, with the definitions held to what comes out.
use Rattle.std.specs.Prelude.{ℕ, suc, ◌-◌, Bool, true, false, List, [], ◌∷◌, ◌≡◌, eqb, get_or}
use Rattle.runs.specs.Limits.{Limits}
use Rattle.zones.specs.Successors.{start_of}
use Rattle.zones.specs.Zones.{set_of}
use Rattle.witness.specs.Laws.{guard_met, arrived}
use Rattle.witness.specs.Witnesses.{StepBack, back_of, landing_of}

-- limits: the lower ones by clock, and the upper ones
abbrev no_upper : ℕ
no_upper = 4294967295

abbrev limits : List ℕ → List ℕ → Limits
limits lo hi = record { lo = λ x. get_or lo (x - 1) 0; hi = λ x. get_or hi (x - 1) 0; absent = λ x. eqb (get_or hi (x - 1) 0) no_upper }

-- an edge from the start of an automaton
record Edge : Type 0 where
  clocks : ℕ
  first : Limits
  guard : Limits
  resets : List Bool
  target : Limits

-- the step back along it from v, and its landing
abbrev back_from : Edge → List ℕ → StepBack
back_from e v =
    let R = set_of e.resets in
    let w = (start_of e.clocks e.first).work in
    back_of v (arrived e.clocks e.guard R e.target w).work.zone (guard_met e.clocks e.guard w).work.zone R (suc e.clocks)

abbrev lands_at : Edge → List ℕ
lands_at e =
    let w = (start_of e.clocks e.first).work in
    landing_of (arrived e.clocks e.guard (set_of e.resets) e.target w).work.zone (suc e.clocks)

-- one clock, up to 5 at the start; lo 5, no reset, into 0 to 9: the jump is at 5
abbrev single : Edge
single = record {
  clocks = 1;
  first = limits (0 ∷ []) (5 ∷ []);
  guard = limits (5 ∷ []) (no_upper ∷ []);
  resets = [];
  target = limits (0 ∷ []) (9 ∷ []);
}

-- two clocks that start together, up to 10; lo 3 for the second, the first is reset, into 0 to 4 and 0 to 12: on arrival the first is 0, and the
-- second is from 3 to 10
abbrev together : Edge
together = record {
  clocks = 2;
  first = limits (0 ∷ 0 ∷ []) (10 ∷ 10 ∷ []);
  guard = limits (0 ∷ 3 ∷ []) (no_upper ∷ no_upper ∷ []);
  resets = false ∷ true ∷ [];
  target = limits (0 ∷ 0 ∷ []) (4 ∷ 12 ∷ []);
}

pub record AllRight : Type 0 where
  -- 7 is 2 above 5
  pub one : back_from single (0 ∷ 7 ∷ 0 ∷ 0 ∷ 0 ∷ 0 ∷ 0 ∷ 0 ∷ 0 ∷ []) ≡ record { wait = 2; valuation = 0 ∷ 5 ∷ 0 ∷ 0 ∷ 0 ∷ 0 ∷ 0 ∷ 0 ∷ 0 ∷ [] }
  -- 4 is 4 above 0 and 11 is 1 above 10: the wait is 4, from 0 and 7 on arrival. Before the reset the first was what the second is, 7
  pub two : back_from together (0 ∷ 4 ∷ 11 ∷ 0 ∷ 0 ∷ 0 ∷ 0 ∷ 0 ∷ 0 ∷ []) ≡ record { wait = 4; valuation = 0 ∷ 7 ∷ 7 ∷ 0 ∷ 0 ∷ 0 ∷ 0 ∷ 0 ∷ 0 ∷ [] }
  -- each clock at its least on arrival
  pub lands : lands_at together ≡ 0 ∷ 0 ∷ 3 ∷ 0 ∷ 0 ∷ 0 ∷ 0 ∷ 0 ∷ 0 ∷ []
