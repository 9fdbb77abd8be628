-- "Cards on the table": document 01's cards A to J, that of document 02, Change 4, and one more, each with a store, and what the search finds and
-- leaves.
use Rattle.std.specs.Prelude.{ℕ, ◌/◌, ◌%◌, List, [], ◌∷◌, ◌++◌, ◌≡◌, ℤ, pos, negsuc, length, replicate, Result, Ok, Err}
use Rattle.automata.specs.declared.refusals.Refusal.{Refusal}
use Rattle.automata.specs.declared.refusals.Refusal.TheVariants.{CountsOutOfRange, NoSuchClock, StoreFull}
use Rattle.zones.specs.declared.fraction.Fraction.{Fraction}
use Rattle.search.specs.declared.verdict.Findings.{Findings}
use Rattle.search.specs.declared.verdict.Holding.TheVariants.{AnyError, Below}
use Rattle.search.specs.declared.verdict.Verdict.{Verdict}
use Rattle.search.specs.declared.verdict.Verdict.TheVariants.{Reached, Holds}
use Rattle.search.specs.Answers.{search_findings, search_store}

pub record Example : Type 0 where
  pub bytes : List ℕ
  pub store : List ℤ
  pub findings : Result Findings Refusal
  pub after : List ℤ

-- what is claimed of a card
abbrev pub Right : Example → Type 0
Right c = (search_findings c.bytes (length c.store) ≡ c.findings) × (search_store c.bytes c.store ≡ c.after)

abbrev pub AllRight : List Example → Type 0
AllRight [] = Unit {0}
AllRight (c ∷ cs) = Right c × AllRight cs

-- ---- their bytes
-- a number of four bytes
abbrev number : ℕ → List ℕ
number n = n / 16777216 ∷ n / 65536 % 256 ∷ n / 256 % 256 ∷ n % 256 ∷ []

abbrev limits : ℕ → ℕ → List ℕ
limits lo hi = number lo ++ number hi

abbrev no_upper : ℕ
no_upper = 4294967295

-- "Unless said otherwise: one clock, two locations, start 0 .., target 1 with 0 to 9": length, version, clocks, locations, start, target, edges
abbrev head : ℕ → ℕ → ℕ → ℕ → List ℕ
head size n target edges = number size ++ (1 ∷ n ∷ 2 ∷ 0 ∷ target ∷ 0 ∷ edges ∷ [])

-- one edge from 0
abbrev edge : ℕ → ℕ → ℕ → ℕ → List ℕ
edge to reset lo hi = 0 ∷ to ∷ reset ∷ limits lo hi

-- n clocks, the invariants of the two locations, and one edge
abbrev card : ℕ → List ℕ → List ℕ → List ℕ → List ℕ
card n start target edge = head 38 n 1 1 ++ (start ++ (target ++ edge))

abbrev first_bytes : List ℕ
first_bytes = card 1 (limits 0 5) (limits 0 9) (edge 1 0 7 no_upper)

-- ---- their stores
-- two slots and two numbers more
abbrev lent : List ℤ
lent = replicate 24 (pos 7)

-- the start's zone, of clock values from 0 to hi; it came from none
abbrev kept : ℕ → List ℤ
kept hi = pos 0 ∷ negsuc 0 ∷ negsuc 0 ∷ pos 0 ∷ pos 0 ∷ pos 0 ∷ pos 0 ∷ pos hi ∷ pos 1 ∷ pos 0 ∷ pos 0 ∷ []

abbrev first : ℕ → List ℤ
first hi = kept hi ++ replicate 13 (pos 7)

-- what is found: a verdict, the zones kept, the exact fraction, and the zones dropped, as again and as inside
abbrev dropping : Verdict → ℕ → Fraction → ℕ → ℕ → Result Findings Refusal
dropping v zones exact again inside =
    Ok (record { answer = record { verdict = v; zones = zones }; exact = exact; dropped = record { again = again; inside = inside } })

-- none is dropped
abbrev found : Verdict → ℕ → Fraction → Result Findings Refusal
found v zones exact = dropping v zones exact 0 0

abbrev over : ℕ → ℕ → Fraction
over n d = record { n = n; d = d }

abbrev below : ℕ → ℕ → Verdict
below n d = Holds (Below (over n d))

abbrev any : Verdict
any = Holds AnyError

-- ---- the cards, each with its safe fraction in the verdict and its exact one beside it
abbrev pub examples : List Example
examples =
    -- A: the guard has the threshold 7/1, and (x, x) = (−2, 2) makes it empty, 2/2
    record { bytes = first_bytes; store = lent; findings = found (below 1 1) 1 (over 1 1); after = first 5 }
    -- B: the guard's threshold is 5/1, and nothing is empty
    ∷ record { bytes = card 1 (limits 0 5) (limits 0 9) (edge 1 0 5 no_upper); store = lent; findings = found Reached 1 (over 5 1); after = first 5 }
    -- C: (x, x) = (3, 1) + (−5, 1)
    ∷ record { bytes = card 1 (limits 0 9) (limits 0 9) (edge 1 0 5 3); store = lent; findings = found (below 1 1) 1 (over 1 1); after = first 9 }
    -- D
    ∷ record { bytes = head 27 1 1 0 ++ (limits 0 5 ++ limits 0 9); store = lent; findings = found any 1 (over 1 0); after = first 5 }
    -- E: (x, x) = (0, 0) + (−2, 1); with an empty store; where the start is the target, too
    ∷ record { bytes = head 27 1 1 0 ++ (limits 2 5 ++ limits 0 9); store = lent; findings = found (below 2 1) 0 (over 2 1); after = lent }
    ∷ record { bytes = head 27 1 1 0 ++ (limits 2 5 ++ limits 0 9); store = []; findings = found (below 2 1) 0 (over 2 1); after = [] }
    ∷ record { bytes = head 27 1 0 0 ++ (limits 2 5 ++ limits 0 9); store = lent; findings = found (below 2 1) 0 (over 2 1); after = lent }
    -- F: the guard's threshold is 4/1
    ∷ record { bytes = card 1 (limits 0 5) (limits 0 9) (edge 1 1 4 no_upper); store = lent; findings = found Reached 1 (over 4 1); after = first 5 }
    -- G: (x, x) = (0, 0) + (−3, 1) at arrival
    ∷ record {
      bytes = card 1 (limits 0 5) (limits 3 9) (edge 1 1 0 no_upper);
      store = lent;
      findings = found (below 3 1) 1 (over 3 1);
      after = first 5;
    }
    -- H: the edge leads back to the start's own zone
    ∷ record {
      bytes = card 1 (limits 0 5) (limits 0 9) (edge 0 1 0 no_upper);
      store = lent;
      findings = dropping any 1 (over 1 0) 1 0;
      after = first 5;
    }
    -- I
    ∷ record { bytes = first_bytes; store = replicate 10 (pos 7); findings = Err StoreFull; after = replicate 10 (pos 7) }
    ∷ record { bytes = first_bytes; store = replicate 11 (pos 7); findings = found (below 1 1) 1 (over 1 1); after = kept 5 }
    -- J, and with n of 9
    ∷ record { bytes = card 1 (limits 0 5) (limits 0 9) (edge 1 2 7 no_upper); store = lent; findings = Err NoSuchClock; after = lent }
    ∷ record { bytes = card 9 (limits 0 5) (limits 0 9) (edge 1 0 7 no_upper); store = lent; findings = Err CountsOutOfRange; after = lent }
    -- document 02: "a start with limits 0 to 20, one edge back to itself with guard lo 1 that resets, and a target with no edge into it. We print
    -- 1/1", which is the exact fraction; "becomes holds at any error". The reset leads back to the same zone
    ∷ record {
      bytes = card 1 (limits 0 20) (limits 0 9) (edge 0 1 1 no_upper);
      store = lent;
      findings = dropping any 1 (over 1 1) 1 0;
      after = first 20;
    }
    -- the start has 0 to 9; its edge asks for 4 and does not reset, so that its zone has (0, x) = (−4, 1) where the kept one has (0, 0): inside,
    -- by a threshold of 4/1, which lowers both fractions
    ∷ record {
      bytes = card 1 (limits 0 9) (limits 0 9) (edge 0 0 4 no_upper);
      store = lent;
      findings = dropping (below 4 1) 1 (over 4 1) 0 1;
      after = first 9;
    }
    ∷ []
