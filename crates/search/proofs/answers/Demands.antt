-- Demands 2 and 3 of the search of an automaton's bytes, and what the answer's numbers are.
-- Assumes nothing.
use Prim.Native.Nat.{ℕ, suc, ◌*◌, ◌<◌}
use mathlib.Core.Path.{◌≡◌, refl, sym, ap}
use mathlib.Core.List.{List}
use mathlib.Core.Logic.{⊎_elim}
use borrow.Author.Tests.{eq-eqb, ne_eqb}
use lib.ListN.{length}
use Rattle.std.specs.Prelude.{Ok}
use native.Mathlib.Nat.{eq-zero-or-pos, mul-pos}
use native.Mathlib.Omega.{arith}
use Rattle.zones.specs.declared.fraction.Fraction.{Fraction}
use Rattle.zones.specs.Fractions.{AtMost, lowest_terms}
use Rattle.zones.specs.Values.{Below}
use Rattle.zones.proofs.fractions.Lowest.{lowest_equal, lowest_positive, lowest_unlimited, below-from_lowest, below-to_lowest}
use Rattle.zones.proofs.fractions.Thresholds.{below_at_most}
use Rattle.automata.specs.Automata.{clocks}
use Rattle.automata.specs.Refusals.{refusal_of}
use Rattle.search.specs.Demands.{Robust, RobustVerdict, KeptExact, KeptContains, KeptBetween, Ordered}
use Rattle.search.specs.declared.verdict.Verdict.TheVariants.{Holds}
use Rattle.search.specs.Instance.{zones_of, meaning_of, search_of}
use Rattle.automata.specs.Semantics.{system_of}
use Rattle.search.specs.Store.{capacity_of}
use Rattle.search.specs.Verdicts.{fraction_of, holding_of}
use Rattle.search.specs.Answers.{findings_of, state_findings, answer_in, search_answer, dropped_in}
use Rattle.reachability.specs.Search.{Outcome, going, ended, reached, refused}
use Rattle.automata.proofs.accepting.Accepting.{accepted}
use Rattle.search.proofs.answers.Answers.{by_refusal}
use Rattle.search.proofs.instance.Obeys.{Tight, laws, tight_stays}
use Rattle.reachability.proofs.Robust.{contains, same, stays, exact_there, reached_hits, holds}

-- ---- what is below the fraction that is given out is below the running one
module _ (f : Fraction) (h : 0 < f.n) where
  unlimited : (lowest_terms f).d ≡ 0 → f.d ≡ 0
  unlimited e =
      ⊎_elim (λ z. z) (λ p. absurd (omega (arith, mul-pos (lowest_positive f h) p, lowest_equal f, ap (λ (k : ℕ). f.n * k) e)))
      (eq-zero-or-pos f.d)

  pub given_fraction : fraction_of (holding_of (lowest_terms f)) ≡ lowest_terms f
  unfolding holding_of
  given_fraction = ⊎_elim
      (λ e. rw (holding_of, eq-eqb (lowest_terms f).d 0 e) (sym (lowest_unlimited f h (unlimited e))))
      (λ p. rw (holding_of, ne_eqb (lowest_terms f).d 0 (λ e. absurd (omega arith))) refl)
      (eq-zero-or-pos (lowest_terms f).d)

  given_below : (s e : ℕ) → Below s e (fraction_of (holding_of (lowest_terms f))) → Below s e f
  given_below s e b = below-from_lowest f e s (rw given_fraction at b)

module _ (b : List ℕ) (c : ℕ) (ok : refusal_of b ≡ 0) where
  -- what is below the exact fraction is below the safe one, so that neither has a numerator of 0
  tight : Tight (search_of b c).frac
  tight = stays (system_of b) (zones_of b) (meaning_of b) 1 0 (laws b (accepted b ok)) c (tight_stays b (accepted b ok))

  pub exact_positive : 0 < (search_of b c).frac.exact.n
  exact_positive = omega (arith, (exact_there (system_of b) (zones_of b) (meaning_of b) 1 0 (laws b (accepted b ok)) c).1)

  pub safe_positive : 0 < (search_of b c).frac.safe.n
  safe_positive = omega (arith, tight 1 0 (omega arith) (omega (arith, exact_positive)))

  pub never_above : AtMost (search_of b c).frac.exact (search_of b c).frac.safe
  never_above = below_at_most _ _ tight

  -- nor in lowest terms
  pub given_ordered : AtMost (lowest_terms (search_of b c).frac.exact) (fraction_of (holding_of (lowest_terms (search_of b c).frac.safe)))
  given_ordered =
      let x = (search_of b c).frac.exact in
      let y = (search_of b c).frac.safe in
      rw (given_fraction y safe_positive)
      (below_at_most _ _ (λ s e s> t. below-to_lowest y e s (tight s e s> (below-from_lowest x e s t))))

  state_robust : Robust b (answer_in (state_findings (search_of b c)))
  unfolding state_findings findings_of answer_in Robust RobustVerdict
  state_robust = go (search_of b c).outcome refl
    where
      go : (x : Outcome) → (search_of b c).outcome ≡ x →
          Robust b (answer_in (findings_of (search_of b c).outcome (search_of b c).frac (length (search_of b c).kept) (dropped_in (search_of b c))))
      go going e = rw e (λ s t l d. holds (system_of b) (zones_of b) (meaning_of b) 1 0 (laws b (accepted b ok)) c e s t l
          (l, given_below (search_of b c).frac.safe safe_positive s t d))
      go (ended (reached x)) e = rw e (reached_hits (system_of b) (zones_of b) (meaning_of b) 1 0 (laws b (accepted b ok)) c x e)
      go (ended (refused k)) e = rw e tt

-- the exact fraction is right of all runs, too: of a search that went to its end, a verdict with it, as was filed before there was a safe one
pub exact_robust : (b : List ℕ) (c : ℕ) → refusal_of b ≡ 0 → (search_of b c).outcome ≡ going → (zones : ℕ) →
    Robust b (Ok (record { verdict = Holds (holding_of (lowest_terms (search_of b c).frac.exact)); zones = zones }))
unfolding Robust RobustVerdict
exact_robust b c ok e zones s t l d =
    holds (system_of b) (zones_of b) (meaning_of b) 1 0 (laws b (accepted b ok)) c e s t l
    (l, tight b c ok s t l (given_below (search_of b c).frac.exact (exact_positive b c ok) s t d))

-- ---- demand 3
pub robust : (b : List ℕ) (amount : ℕ) → Robust b (search_answer b amount)
unfolding answer_in Robust
robust b amount = by_refusal b amount (λ r. Robust b (answer_in r)) (state_robust b (capacity_of (suc (clocks b)) amount)) (λ p. tt)

-- ---- demand 2
pub kept_exact : (b : List ℕ) (amount : ℕ) → KeptExact b amount
kept_exact b amount e s t l d =
    same (system_of b) (zones_of b) (meaning_of b) 1 0 (laws b (accepted b e)) (capacity_of (suc (clocks b)) amount) s t l (l, d)

pub kept_contains : (b : List ℕ) (amount : ℕ) → KeptContains b amount
kept_contains b amount e s t l =
    contains (system_of b) (zones_of b) (meaning_of b) 1 0 (laws b (accepted b e)) (capacity_of (suc (clocks b)) amount) s t l

-- "between the two, a kept zone contains the exact set"
pub kept_between : (b : List ℕ) (amount : ℕ) → KeptBetween b amount
kept_between b amount e s t l above below = kept_contains b amount e s t l

pub ordered : (b : List ℕ) (amount : ℕ) → Ordered b amount
ordered b amount e = never_above b (capacity_of (suc (clocks b)) amount) e
