-- Whether the code's turn has stopped is whether the definition's state has.
-- Assumes nothing.
use Prim.Native.Nat.{ℕ, suc}
use mathlib.Core.Path.{◌≡◌, refl, sym, ap, ◌∙◌, subst}
use mathlib.Core.Bool.{true, false}
use mathlib.Core.List.{List}
use lib.IntN.{ℤ}
use Rattle.runs.proofs.Contradictions.{true_false}
use Rattle.zones.specs.declared.pair.Pair.{Pair}
use Rattle.reachability.specs.Search.{Zones, Outcome, going, ended}
use Rattle.reachability.proofs.Later.{Later}
use Rattle.search.specs.Outcomes.{SearchTurn as Turn}
use Rattle.automata.specs.Automata.{clocks}
use Rattle.search.specs.Exploring.{SoundState, Shown, Live}
use Rattle.search.specs.Instance.{Fractions, ZoneState}
use Rattle.search.specs.Outcomes.{outcome_of, has_ended}

-- one that goes on
pub still : {b : List ℕ} {capacity : ℕ} {s₀ : List ℤ} {q : ZoneState} {s : List ℤ} {t : Turn} → Shown (suc (clocks b)) s₀ q s t →
    SoundState b capacity q → has_ended (outcome_of t.outcome) ≡ false → Live b capacity s₀ q s t
unfolding has_ended
still {q = q} h o e = record { shown = h; sound = o; goes = go q.outcome refl }
  where
    go : (x : Outcome) → q.outcome ≡ x → q.outcome ≡ going
    go going f = f
    go (ended x) f = true_false (sym (ap has_ended (h.outcome ∙ f)) ∙ e)

-- one that has stopped is where the search ends
pub stays : {O : Zones (List Pair) Fractions} {n : ℕ} {s₀ : List ℤ} {q q' last : ZoneState} {s : List ℤ} {t : Turn} → Later O q q' → q' ≡ last →
    Shown n s₀ q s t → has_ended (outcome_of t.outcome) ≡ true → Shown n s₀ last s t
unfolding has_ended
stays {n = n} {s₀} {q} {last = last} {s} {t} l r h e = go q.outcome refl
  where
    go : (x : Outcome) → q.outcome ≡ x → Shown n s₀ last s t
    go going f = true_false (sym e ∙ ap has_ended (h.outcome ∙ f))
    go (ended x) f = subst (λ (q : ZoneState). Shown n s₀ q s t) (sym (l.stays x f) ∙ r) h
