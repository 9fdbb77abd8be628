-- Where the automaton holds, the zones kept and those dropped are those that have entered and are not empty.
-- Assumes nothing.
use Rattle.zones.specs.Reductions.{is_empty}
use Prim.Native.Nat.{ℕ, suc}
use mathlib.Core.Path.{◌≡◌, refl, sym, ap, ◌∙◌}
use mathlib.Core.Bool.{Bool, true, false, cond}
use mathlib.Core.List.{List}
use Rattle.zones.specs.declared.fraction.Fraction.{Fraction}
use Rattle.zones.specs.declared.reduction.Reduced.{Reduced}
use Rattle.zones.proofs.places.Regardless.{follow_regardless}
use Rattle.automata.specs.Automata.{clocks, to, invariant_of, guard_of, resets_of}
use Rattle.automata.specs.Semantics.{system_of}
use Rattle.reachability.specs.Accounts.{one_if_live, Regardless}
use Rattle.reachability.specs.Search.{Outcome, going, ended, reached, refused}
use Rattle.reachability.proofs.Accounts.{accounted}
use Rattle.search.specs.Answers.{findings_of, state_findings, state_of, search_findings}
use Rattle.search.specs.Given.{AddsUp, Summed}
use Rattle.search.specs.Instance.{result_of, following, zones_of}
use Rattle.search.specs.Store.{capacity_of}
use Rattle.search.proofs.answers.Answers.{by_refusal}

-- ---- whether a successor is empty does not depend on the fractions
live_result : (safe : Fraction) (r : Reduced) → one_if_live (result_of safe r) ≡ cond (is_empty r) 0 1
unfolding result_of
live_result safe r = go (is_empty r) refl
  where
    go : (t : Bool) → is_empty r ≡ t → one_if_live (result_of safe r) ≡ cond (is_empty r) 0 1
    go true e = rw (result_of, e) refl
    go false e = rw (result_of, e) refl

regardless : (b : List ℕ) → Regardless (zones_of b)
unfolding following
regardless b = record {
  succ = λ i z f g.
      live_result f.safe _
      ∙ ap (λ (t : Bool). cond t 0 1)
      (follow_regardless (clocks b) (guard_of b i) (resets_of b i) (invariant_of b (to b i)) z f.exact g.exact)
      ∙ sym (live_result g.safe _);
}

-- ---- so they add up
state_adds_up : (b : List ℕ) (amount : ℕ) → AddsUp b amount (state_findings (state_of b amount))
unfolding state_findings findings_of AddsUp Summed
state_adds_up b amount = go (state_of b amount).outcome refl
  where
    go : (x : Outcome) → (state_of b amount).outcome ≡ x → AddsUp b amount (state_findings (state_of b amount))
    go going e =
        let a = accounted (system_of b) (zones_of b) (capacity_of (suc (clocks b)) amount) (regardless b) e in
        rw (state_findings, e) (a.live, a.all)
    go (ended (reached c)) e = rw (state_findings, e) tt
    go (ended (refused k)) e = rw (state_findings, e) tt

pub adds_up : (b : List ℕ) (amount : ℕ) → AddsUp b amount (search_findings b amount)
unfolding AddsUp
adds_up b amount = by_refusal b amount (AddsUp b amount) (λ e. state_adds_up b amount) (λ p. tt)
