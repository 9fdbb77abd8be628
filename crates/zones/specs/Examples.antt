-- Zones worked through by hand, with the definitions held to what comes out.
-- In the notes (a, b) is an entry, and k, i, j are middle index, row and column. A comparison is written `new vs there`; "thr" is the threshold
-- that it yields. Comparisons with i = k or j = k are left out of the notes: the pair added is (0, 0), so that both are equal and the one there
-- stays.
use Rattle.std.specs.Prelude.{Some}
use Rattle.std.specs.Prelude.{None}
use Rattle.std.specs.Prelude.{ℕ, zero, suc, ◌+◌, ◌-◌, ◌*◌, ◌/◌, ◌%◌, Bool, true, false, cond, List, [], ◌∷◌, ◌++◌, ◌≡◌, eqb, ltb, pos, neg_ℤ, get_or}
use Rattle.zones.specs.declared.fraction.Fraction.{Fraction}
use Rattle.zones.specs.declared.pair.Pair.{Pair}
use Rattle.zones.specs.declared.reduction.Reduced.{Reduced}
use Rattle.zones.specs.declared.zone.Work.{Work}
use Rattle.zones.specs.Containment.{within, equal, inside_below, largest_count}
use Rattle.zones.specs.Fractions.{no_limit, lowered_by, lowest_terms}
use Rattle.zones.specs.Pairs.{zero_pair}
use Rattle.zones.specs.Reductions.{reduce_of}
use Rattle.zones.specs.Successors.{enter_of, follow_of, start_of}
use Rattle.runs.specs.Limits.{Limits}
use Rattle.zones.specs.Zones.{meet_limits, raise_limits, reset_of, set_of}

-- what an operation or a test gives
pub data Result : Type 0 where
  zone : Work → Result
  reduced : Reduced → Result
  fraction : Fraction → Result
  test : Bool → Result
  count : ℕ → Result

pub record Example : Type 0 where
  pub computed : Result
  pub by_hand : Result

abbrev pub AllRight : List Example → Type 0
AllRight [] = Unit {0}
AllRight (c ∷ cs) = (c.computed ≡ c.by_hand) × AllRight cs

infix 80 ◌gives◌
abbrev ◌gives◌ : Result → Result → Example
a gives b = record { computed = a; by_hand = b }

-- ---- how they are written
-- pairs: plus 5 1 for (5, 1), less 7 1 for (−7, 1), o for (0, 0)
abbrev plus : ℕ → ℕ → Pair
plus m p = record { m = pos m; p = p }

abbrev less : ℕ → ℕ → Pair
less m p = record { m = neg_ℤ (pos m); p = p }

abbrev o : Pair
o = zero_pair

-- the last k places of a square, by row and column
abbrev places : (ℕ → ℕ → Pair) → ℕ → List Pair
places f zero = []
places f (suc k) = f ((80 - k) / 9) ((80 - k) % 9) ∷ places f k

-- a square whose n rows, of n pairs each, stand one behind the other
abbrev square : ℕ → List Pair → List Pair
square n z = places (λ i j. cond (ltb j n) (get_or z (i * n + j) o) o) 81

abbrev over : ℕ → ℕ → Fraction
over n d = record { n = n; d = d }

abbrev work : ℕ → List Pair → Fraction → Work
work n z f = record { zone = square n z; fraction = f }

abbrev live : ℕ → List Pair → Fraction → Result
live n z f = reduced (record { work = work n z f; emptied = None })

-- with what the safe fraction is lowered by
abbrev empty : ℕ → List Pair → Fraction → Fraction → Result
empty n z f safe = reduced (record { work = work n z f; emptied = Some safe })

-- limits: the lower ones by clock, and the upper ones
abbrev no_upper : ℕ
no_upper = 4294967295

abbrev limits : List ℕ → List ℕ → Limits
limits lo hi = record { lo = λ x. get_or lo (x - 1) 0; hi = λ x. get_or hi (x - 1) 0; absent = λ x. eqb (get_or hi (x - 1) 0) no_upper }

abbrev only : ℕ → ℕ → Limits
only lo hi = limits (lo ∷ []) (hi ∷ [])

-- ---- meeting limits, of one clock, on (0, 0) (0, 1) / (1, 0) (1, 1)
abbrev meets : ℕ → ℕ → List Pair → Result
meets lo hi z = zone (meet_limits (only lo hi) 1 (work 2 z no_limit))

abbrev pub meeting : List Example
meeting =
    -- (0, 1): (−3, 1) vs (0, 0), chosen, thr 3/1. hi is absent, and (1, 0) is left alone
    meets 3 no_upper (o ∷ o ∷ plus 8 2 ∷ o ∷ []) gives zone (work 2 (o ∷ less 3 1 ∷ plus 8 2 ∷ o ∷ []) (over 3 1))
    -- the same of card A: (−7, 1) vs (0, 0), chosen, thr 7/1
    ∷ meets 7 no_upper (o ∷ o ∷ plus 5 1 ∷ o ∷ []) gives zone (work 2 (o ∷ less 7 1 ∷ plus 5 1 ∷ o ∷ []) (over 7 1))
    -- (1, 0): (6, 1) vs (8, 2), chosen, p 1 below 2. (0, 1): as in the first
    ∷ meets 3 6 (o ∷ o ∷ plus 8 2 ∷ o ∷ []) gives zone (work 2 (o ∷ less 3 1 ∷ plus 6 1 ∷ o ∷ []) (over 3 1))
    -- (1, 0): (5, 1) vs (0, 0), stays. (0, 1): (0, 1) vs (0, 0), equal m, stays. No thr: the pairs chosen have p 0
    ∷ meets 0 5 (o ∷ o ∷ o ∷ o ∷ []) gives zone (work 2 (o ∷ o ∷ o ∷ o ∷ []) no_limit)
    -- at equal m the smaller p: (5, 1) vs (5, 3), (−3, 1) vs (−3, 2), both chosen. No thr
    ∷ meets 3 5 (o ∷ less 3 2 ∷ plus 5 3 ∷ o ∷ []) gives zone (work 2 (o ∷ less 3 1 ∷ plus 5 1 ∷ o ∷ []) no_limit)
    -- of equal pairs the one there stays. No thr
    ∷ meets 3 5 (o ∷ less 3 1 ∷ plus 5 1 ∷ o ∷ []) gives zone (work 2 (o ∷ less 3 1 ∷ plus 5 1 ∷ o ∷ []) no_limit)
    -- the pair there is chosen and has the larger p. (1, 0): (5, 1) vs (2, 3), thr 3/2. (0, 1): (−2, 1) vs (−6, 2), thr 4/1; 4 * 2 is not below 3 * 1
    ∷ meets 2 5 (o ∷ less 6 2 ∷ plus 2 3 ∷ o ∷ []) gives zone (work 2 (o ∷ less 6 2 ∷ plus 2 3 ∷ o ∷ []) (over 3 2))
    -- lo above hi, card C: (3, 1) vs (9, 1), chosen, p equal; (−5, 1) vs (0, 0), chosen, thr 5/1
    ∷ meets 5 3 (o ∷ o ∷ plus 9 1 ∷ o ∷ []) gives zone (work 2 (o ∷ less 5 1 ∷ plus 3 1 ∷ o ∷ []) (over 5 1))
    -- the largest constant: (1000000, 1) is there, stays; (−1000000, 1) vs (0, 0), chosen, thr 1000000/1
    ∷ meets 1000000 1000000 (o ∷ o ∷ plus 1000000 1 ∷ o ∷ [])
    gives zone (work 2 (o ∷ less 1000000 1 ∷ plus 1000000 1 ∷ o ∷ []) (over 1000000 1))
    ∷ []

-- ---- reduction
abbrev reduces : ℕ → List Pair → Fraction → Result
reduces n z f = reduced (reduce_of n (work n z f))

abbrev figure : List Pair
figure = o ∷ less 1 0 ∷ less 1 1 ∷ plus 3 2 ∷ o ∷ plus 2 3 ∷ plus 2 3 ∷ plus 1 3 ∷ o ∷ []

-- eight clocks, each at most 1 + e above the one before it, and the first at most 1 + e; 100 stands for no bound
abbrev chain : ℕ → ℕ → Pair
chain i j = cond (eqb i (suc j)) (plus 1 1) (cond (eqb i j) o (cond (eqb i 0) o (plus 100 0)))

abbrev linked : ℕ → ℕ → Pair
linked i j = cond (ltb i j) (plus i i) (plus (i - j) (i - j))

-- three steps by 1 + e, from 1 to 3, from 3 to 2 and from 2 to 0; 50 stands for no bound
abbrev detour : List Pair
detour =
    o ∷ o ∷ o ∷ o
    ∷ plus 50 0 ∷ o ∷ plus 50 0 ∷ plus 1 1
    ∷ plus 1 1 ∷ plus 50 0 ∷ o ∷ plus 50 0
    ∷ plus 50 0 ∷ plus 50 0 ∷ plus 1 1 ∷ o
    ∷ []

abbrev shortest : List Pair
shortest =
    o ∷ o ∷ o ∷ o
    ∷ plus 3 3 ∷ o ∷ plus 2 2 ∷ plus 1 1
    ∷ plus 1 1 ∷ plus 1 1 ∷ o ∷ plus 1 1
    ∷ plus 2 2 ∷ plus 2 2 ∷ plus 1 1 ∷ o
    ∷ []

abbrev pub reducing : List Example
reducing =
    -- card A. k 0: (1, 1): (5, 1) + (−7, 1) = (−2, 2) vs (0, 0), chosen, thr 2/2, 2 * 1 < 7 * 2. m below 0: empty, and the fraction is lowered.
    -- (1, 1) against (0, 0): 2/2, which the safe one is lowered by
    reduces 2 (o ∷ less 7 1 ∷ plus 5 1 ∷ o ∷ []) (over 7 1) gives empty 2 (o ∷ less 7 1 ∷ plus 5 1 ∷ less 2 2 ∷ []) (over 2 2) (over 2 2)
    -- the same with 1/1 there, which stays: 2 * 1 is not below 1 * 2
    ∷ reduces 2 (o ∷ less 7 1 ∷ plus 5 1 ∷ o ∷ []) (over 1 1) gives empty 2 (o ∷ less 7 1 ∷ plus 5 1 ∷ less 2 2 ∷ []) (over 1 1) (over 2 2)
    -- card C, lo above hi. k 0: (1, 1): (3, 1) + (−5, 1) = (−2, 2) vs (0, 0), chosen, thr 2/2, 2 * 1 < 5 * 2. Empty
    ∷ reduces 2 (o ∷ less 5 1 ∷ plus 3 1 ∷ o ∷ []) (over 5 1) gives empty 2 (o ∷ less 5 1 ∷ plus 3 1 ∷ less 2 2 ∷ []) (over 2 2) (over 2 2)
    -- lo and hi equal, and the largest. k 0: (1, 1): (1000000, 1) + (−1000000, 1) = (0, 2) vs (0, 0), equal m, stays; k 1: (0, 0) the same.
    -- m is not below 0: not empty
    ∷ reduces 2 (o ∷ less 1000000 1 ∷ plus 1000000 1 ∷ o ∷ []) (over 1000000 1)
    gives live 2 (o ∷ less 1000000 1 ∷ plus 1000000 1 ∷ o ∷ []) (over 1000000 1)
    -- document 004, Figure 2: 1 ≤ x ≤ 3 + 2e and 1 − e ≤ y ≤ 2 + 3e. The figure's matrix comes out of the limits; its row 0 has the set's signs.
    -- k 0: (1, 2): (2, 3) vs (100, 0), chosen, thr 98/3.  (2, 1): (1, 3) vs (100, 0), chosen, thr 99/3, not lower.
    -- k 1: (0, 0): (2, 2).  (0, 2): (1, 3) vs (−1, 1), stays, p 1 below 3.  (2, 0): (4, 5) vs (2, 3), stays.  (2, 2): (3, 6).
    -- k 2: (0, 0): (1, 4).  (0, 1): (0, 4) vs (−1, 0), stays.  (1, 0): (4, 6) vs (3, 2), stays.  (1, 1): (3, 6)
    ∷ reduces 3 (o ∷ less 1 0 ∷ less 1 1 ∷ plus 3 2 ∷ o ∷ plus 100 0 ∷ plus 2 3 ∷ plus 100 0 ∷ o ∷ []) no_limit gives live 3 figure (over 98 3)
    -- Figure 2 itself is reduced: at k 0, (1, 2) and (2, 1) are compared with equals. No thr
    ∷ reduces 3 figure no_limit gives live 3 figure no_limit
    -- document 004, section 4: x ≤ 2 + 3e and x ≤ 3 is x ≤ 2 + 3e below 1/3. Here x − y ≤ 0 and y ≤ 2 + 3e bring the first.
    -- k 0: (2, 1): (1, 3) vs (100, 0), chosen, thr 99/3; the others stay.
    -- k 1: (0, 2): (−1, 0) vs (0, 0), chosen, p equal.  (2, 0): (4, 3) vs (2, 3), stays, p equal.
    -- k 2: (0, 1): (0, 3) vs (−1, 0), stays.  (1, 0): (2, 3) vs (3, 0), chosen, thr 1/3, 1 * 3 < 99 * 3
    ∷ reduces 3 (o ∷ less 1 0 ∷ o ∷ plus 3 0 ∷ o ∷ o ∷ plus 2 3 ∷ plus 100 0 ∷ o ∷ []) no_limit
    gives live 3 (o ∷ less 1 0 ∷ less 1 0 ∷ plus 2 3 ∷ o ∷ o ∷ plus 2 3 ∷ plus 1 3 ∷ o ∷ []) (over 1 3)
    -- document 004, section 4.1: x − y ≤ 2 + 3e and y ≤ 1 + e give x ≤ 3 + 4e.
    -- k 0: (1, 2): (100, 0) vs (2, 3): the one there is chosen, with the larger p, thr 98/3.  (2, 1): (1, 1) vs (100, 0), chosen, thr 99/1.
    -- k 1: (2, 0): (101, 1) vs (1, 1), stays, p equal.  k 2: (1, 0): (3, 4) vs (100, 0), chosen, thr 97/4, 97 * 3 = 291 < 98 * 4 = 392
    ∷ reduces 3 (o ∷ o ∷ o ∷ plus 100 0 ∷ o ∷ plus 2 3 ∷ plus 1 1 ∷ plus 100 0 ∷ o ∷ []) no_limit
    gives live 3 (o ∷ o ∷ o ∷ plus 3 4 ∷ o ∷ plus 2 3 ∷ plus 1 1 ∷ plus 1 1 ∷ o ∷ []) (over 97 4)
    -- work stops at the middle index that leaves the zone empty: going on to k 2 would yield 1/5, at (0, 0): (−4, 1) + (3, 4) = (−1, 5).
    -- k 0: (1, 2): (9, 0) vs (−4, 1), stays, thr 13/1.  (2, 1): (3, 4) vs (2, 1), stays, p 1 below 4.
    -- k 1: (0, 2): (−4, 1) vs (0, 0), chosen, thr 4/1.  (2, 0): (11, 1) vs (3, 4), stays, thr 8/3, 8 * 1 < 4 * 3.
    --      (2, 2): (−2, 2) vs (0, 0), chosen, thr 2/2, 2 * 3 < 8 * 2. m below 0: empty
    ∷ reduces 3 (o ∷ o ∷ o ∷ plus 9 0 ∷ o ∷ less 4 1 ∷ plus 3 4 ∷ plus 2 1 ∷ o ∷ []) no_limit
    gives empty 3 (o ∷ o ∷ less 4 1 ∷ plus 9 0 ∷ o ∷ less 4 1 ∷ plus 3 4 ∷ plus 2 1 ∷ less 2 2 ∷ []) (over 2 2) (over 2 2)
    -- but its own round is done: (1, 1) falls below 0 before row 2, whose comparison lowers the fraction. The safe one has (1, 1) alone.
    -- k 0: (1, 1): (−2, 2) vs (0, 0), chosen, thr 2/2.  (1, 2): (2, 1) vs (9, 0), chosen, thr 7/1.
    --      (2, 1): (3, 3) vs (4, 0), chosen, thr 1/3, 1 * 2 < 2 * 3
    ∷ reduces 3 (o ∷ less 4 1 ∷ o ∷ plus 2 1 ∷ o ∷ plus 9 0 ∷ plus 7 2 ∷ plus 4 0 ∷ o ∷ []) no_limit
    gives empty 3 (o ∷ less 4 1 ∷ o ∷ plus 2 1 ∷ less 2 2 ∷ plus 2 1 ∷ plus 7 2 ∷ plus 3 3 ∷ o ∷ []) (over 1 3) (over 2 2)
    -- two diagonal pairs of one round are below 0, and the lower of their thresholds counts: 1/3 of (2, 2), beside 2/2 of (1, 1).
    -- k 0: (1, 1): (−2, 2) vs (0, 0), chosen, thr 2/2.  (1, 2): (−2, 2) vs (9, 0), chosen, thr 11/2.  (2, 1): (−1, 3) vs (4, 0), chosen, thr 5/3.
    --      (2, 2): (3, 2) + (−4, 1) = (−1, 3) vs (0, 0), chosen, thr 1/3, 1 * 2 < 2 * 3
    ∷ reduces 3 (o ∷ less 4 1 ∷ less 4 1 ∷ plus 2 1 ∷ o ∷ plus 9 0 ∷ plus 3 2 ∷ plus 4 0 ∷ o ∷ []) no_limit
    gives empty 3 (o ∷ less 4 1 ∷ less 4 1 ∷ plus 2 1 ∷ less 2 2 ∷ less 2 2 ∷ plus 3 2 ∷ less 1 3 ∷ less 1 3 ∷ []) (over 1 3) (over 1 3)
    -- a diagonal pair without an error count is below 0 at every error: (1, 1): (2, 0) + (−4, 0) = (−2, 0) vs (0, 0), chosen, no thr
    ∷ reduces 2 (o ∷ less 4 0 ∷ plus 2 0 ∷ o ∷ []) no_limit gives empty 2 (o ∷ less 4 0 ∷ plus 2 0 ∷ less 2 0 ∷ []) no_limit no_limit
    -- only with the middle index outermost does one pass reduce this: (1, 0) is (1, 3) + (3, 2) + (2, 0). With it innermost (1, 0) is done before
    -- (3, 0), and stays (50, 0).
    -- k 0: (1, 3), (3, 2): (50, 0) vs (1, 1), stay, thr 49/1.  (2, 1), (2, 3): (1, 1) vs (50, 0), chosen, thr 49/1.
    -- k 1: (2, 0): (51, 1), (2, 3): (2, 2), both vs (1, 1), (3, 0): (100, 0) vs (50, 0), stay.  (3, 2): (100, 0) vs (1, 1), stays, thr 99/1.
    -- k 2: (1, 0): (51, 1) vs (50, 0), (1, 3): (51, 1) vs (1, 1), stay.  (3, 0), (3, 1): (2, 2) vs (50, 0), chosen, thr 48/2, 48 * 1 < 49 * 2.
    -- k 3: (1, 0): (3, 3) vs (50, 0), chosen, thr 47/3, 47 * 2 < 48 * 3.  (1, 2): (2, 2) vs (50, 0), chosen, thr 48/2.
    --      (2, 0), (2, 1): (3, 3) vs (1, 1), stay.
    -- Row 0 and the diagonal stay (0, 0): no sum has m below 0, and where m is 0 the pair there has the smaller p
    ∷ reduces 4 detour no_limit gives live 4 shortest (over 47 3)
    -- the middle index k brings row k + 1 to its end: (k + 1, j) becomes (1, 1) + (k, j). So row i ends as (i − j, i − j) at j up to i, and as (i, i)
    -- at j above i, as (0, j) is (0, 0). An entry goes from (100, 0) to its (d, d) at once, thr (100 − d)/d, lowest at the largest d: 92/8, (8, 0).
    -- The others: at k 0, (100, 0) vs (1, 1), stays, thr 99/1. Later (100, 0) + (d, d), d at least 1, vs (100, 0) or (1, 1), which stays and has no
    -- larger p; or pairs with m = p on both sides, of which the smaller has the smaller p
    ∷ reduces 9 (places chain 81) no_limit gives live 9 (places linked 81) (over 92 8)
    ∷ []

-- ---- reset
abbrev reduced₄ : List Pair
reduced₄ =
    o ∷ less 1 1 ∷ less 2 2 ∷ less 3 3
    ∷ plus 10 1 ∷ o ∷ plus 8 3 ∷ plus 7 4
    ∷ plus 20 2 ∷ plus 19 3 ∷ o ∷ plus 17 5
    ∷ plus 30 3 ∷ plus 29 4 ∷ plus 28 5 ∷ o
    ∷ []

abbrev pub resetting : List Example
resetting =
    -- (a, b) is (a, 0) + (0, b), so this is reduced: a way through c adds (0, c) + (c, 0), which is (9, 2), (18, 4) or (27, 6), and yields no thr
    reduces 4 reduced₄ no_limit gives live 4 reduced₄ no_limit
    -- of clocks 1 and 3: rows 1 and 3 become row 0, columns 1 and 3 column 0; the fraction stays
    ∷ zone (reset_of 4 (set_of (false ∷ true ∷ false ∷ true ∷ [])) (work 4 reduced₄ (over 4 1)))
    gives zone (work 4 (o ∷ o ∷ less 2 2 ∷ o ∷ o ∷ o ∷ less 2 2 ∷ o ∷ plus 20 2 ∷ plus 20 2 ∷ o ∷ plus 20 2 ∷ o ∷ o ∷ less 2 2 ∷ o ∷ []) (over 4 1))
    ∷ []

-- ---- raising, entering, following
-- x = y up to 4, as it starts; x = 0 and y from 2 to 4; what that becomes where x stays up to 3
abbrev begun : List Pair
begun = o ∷ o ∷ o ∷ plus 4 1 ∷ o ∷ o ∷ plus 4 1 ∷ o ∷ o ∷ []

abbrev arrived : List Pair
arrived = o ∷ o ∷ less 2 1 ∷ o ∷ o ∷ less 2 1 ∷ plus 4 1 ∷ plus 4 1 ∷ o ∷ []

abbrev entered : List Pair
entered = o ∷ o ∷ less 2 1 ∷ plus 3 1 ∷ o ∷ less 2 1 ∷ plus 7 2 ∷ plus 4 1 ∷ o ∷ []

abbrev first : ℕ → Bool
first = set_of (false ∷ true ∷ [])

-- with card A's invariant, 0 to 5
abbrev follows : Limits → (ℕ → Bool) → Limits → Result
follows G R I = reduced (follow_of 1 G R I (work 2 (o ∷ o ∷ plus 5 1 ∷ o ∷ []) no_limit))

abbrev pub moving : List Example
moving =
    -- (1, 0) and (2, 0) become (3, 1) and (9, 1), whatever was there
    zone (raise_limits (limits (0 ∷ 0 ∷ []) (3 ∷ 9 ∷ [])) 2 (work 3 arrived (over 2 1)))
    gives zone (work 3 (o ∷ o ∷ less 2 1 ∷ plus 3 1 ∷ o ∷ less 2 1 ∷ plus 9 1 ∷ plus 4 1 ∷ o ∷ []) (over 2 1))
    -- card A, as document 01 stores it: 0 0 0 0 5 1 0 0. Limits lower nothing; raised, (1, 0) is (5, 1), and no way is shorter
    ∷ reduced (start_of 1 (only 0 5)) gives live 2 (o ∷ o ∷ plus 5 1 ∷ o ∷ []) no_limit
    -- card E: a start with lo 2 is empty. (0, 1): (−2, 1) vs (0, 0), chosen, thr 2/1. k 0: (1, 1): (−2, 1) vs (0, 0), chosen, thr 2/1, not lower
    ∷ reduced (start_of 1 (only 2 5)) gives empty 2 (o ∷ less 2 1 ∷ o ∷ less 2 1 ∷ []) (over 2 1) (over 2 1)
    -- two clocks that start together
    ∷ reduced (start_of 2 (limits (0 ∷ 0 ∷ []) (4 ∷ 4 ∷ []))) gives live 3 begun no_limit
    -- x = 0, y from 2 to 4 enters x up to 3, y up to 9. Limits and the first reduction change nothing. Raised, (1, 0) is (3, 1) and (2, 0) is (9, 1).
    -- k 1: (2, 0): (4, 1) + (3, 1) = (7, 2) vs (9, 1), chosen, thr 2/1. The last reduction changes what is stored, and not the set
    ∷ reduced (enter_of 2 (limits (0 ∷ 0 ∷ []) (3 ∷ 9 ∷ [])) (work 3 arrived no_limit)) gives live 3 entered (over 2 1)
    -- from x = y up to 4, by x from 2, resetting x, to the same: (0, 1): (−2, 1) vs (0, 0), chosen, thr 2/1; k 1: (0, 2) the same; reset: `arrived`
    ∷ reduced (follow_of 2 (limits (2 ∷ 0 ∷ []) (no_upper ∷ no_upper ∷ [])) first (limits (0 ∷ 0 ∷ []) (3 ∷ 9 ∷ [])) (work 3 begun no_limit))
    gives live 3 entered (over 2 1)
    -- card A: guard lo 7 leaves nothing, as above
    ∷ follows (only 7 no_upper) (set_of []) (only 0 9) gives empty 2 (o ∷ less 7 1 ∷ plus 5 1 ∷ less 2 2 ∷ []) (over 2 2) (over 2 2)
    -- card F: guard lo 4, thr 4/1, then the reset: x is 0, and waits up to 9. With the guard after the reset it would be empty
    ∷ follows (only 4 no_upper) first (only 0 9) gives live 2 (o ∷ o ∷ plus 9 1 ∷ o ∷ []) (over 4 1)
    -- card G: reset into 3 to 9. (0, 1): (−3, 1) vs (0, 0), chosen, thr 3/1. k 0: (1, 1): (−3, 1) vs (0, 0), chosen, thr 3/1: empty at arrival
    ∷ follows (only 0 no_upper) first (only 3 9) gives empty 2 (o ∷ less 3 1 ∷ o ∷ less 3 1 ∷ []) (over 3 1) (over 3 1)
    ∷ []

-- ---- fractions
abbrev pub lowering : List Example
lowering =
    -- 1 * 2 < 1 * 3; on equality the one there stays
    fraction (lowered_by (over 1 2) (over 1 3)) gives fraction (over 1 3)
    ∷ fraction (lowered_by (over 1 1) (over 2 2)) gives fraction (over 1 1)
    ∷ fraction (lowered_by (over 2 2) (over 1 1)) gives fraction (over 2 2)
    -- 1/0 is no limit: every other is lower, and it lowers none
    ∷ fraction (lowered_by no_limit (over 9 1)) gives fraction (over 9 1)
    ∷ fraction (lowered_by (over 9 1) no_limit) gives fraction (over 9 1)
    -- lowest terms: by 2; by 2; by 4; by 1; no limit stays
    ∷ fraction (lowest_terms (over 2 2)) gives fraction (over 1 1)
    ∷ fraction (lowest_terms (over 6 4)) gives fraction (over 3 2)
    ∷ fraction (lowest_terms (over 92 8)) gives fraction (over 23 2)
    ∷ fraction (lowest_terms (over 5 1)) gives fraction (over 5 1)
    ∷ fraction (lowest_terms no_limit) gives fraction no_limit
    ∷ []

-- ---- containment, and the largest error count
-- two indices; the third pair of row 0 is no entry
abbrev inner : List Pair
inner = square 3 (o ∷ less 2 3 ∷ plus 9 9 ∷ plus 5 2 ∷ o ∷ [])

-- the same two indices, and (0, 0) in that place
abbrev in_two : List Pair
in_two = square 3 (o ∷ less 2 3 ∷ o ∷ plus 5 2 ∷ o ∷ [])

abbrev outer : ℕ → ℕ → List Pair
outer m p = square 3 (o ∷ less 1 1 ∷ o ∷ plus m p ∷ o ∷ [])

abbrev pub containing : List Example
containing =
    -- (−2, 3) beside (−1, 1), thr 1/2; (5, 2) beside (7, 1), thr 2/1, not lower
    test (within 2 inner (outer 7 1)) gives test true
    ∷ fraction (inside_below 2 inner (outer 7 1)) gives fraction (over 1 2)
    -- a fraction that is lower already stays: 1 * 3 is not below 1 * 2
    ∷ fraction (lowered_by (over 1 3) (inside_below 2 inner (outer 7 1))) gives fraction (over 1 3)
    -- equal is contained, with no thr
    ∷ test (within 2 inner (outer 5 2)) gives test true
    -- at equal m the larger p is not; a larger m is not
    ∷ test (within 2 inner (outer 5 1)) gives test false
    ∷ test (within 2 inner (outer 4 9)) gives test false
    -- every pair of a zone equals its own; those of `inner` are not all those of another that contains it, nor the other way round
    ∷ test (equal 2 inner inner) gives test true
    ∷ test (equal 2 inner (outer 5 2)) gives test false
    ∷ test (equal 2 (outer 5 2) inner) gives test false
    -- one count more in one pair: contained, and not equal
    ∷ test (within 2 (outer 7 1) (outer 7 2)) gives test true
    ∷ test (equal 2 (outer 7 1) (outer 7 2)) gives test false
    -- what is no entry does not count: `inner` has (9, 9) in the third place of row 0
    ∷ test (equal 2 inner in_two) gives test true
    ∷ test (equal 3 inner in_two) gives test false
    -- of 0, 3, 2, 0
    ∷ count (largest_count 2 inner) gives count 3
    ∷ []

abbrev pub examples : List Example
examples = meeting ++ (reducing ++ (resetting ++ (moving ++ (lowering ++ containing))))
