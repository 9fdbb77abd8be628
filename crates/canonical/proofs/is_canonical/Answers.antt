-- `is_canonical` meets its contract.
use Prim.Native.Nat.{ℕ, ◌<◌}
use mathlib.Core.Bool.{Bool, true, false}
use mathlib.Core.List.{List}
use mathlib.Core.Logic.{◌↔◌}
use mathlib.Core.Path.{◌≡◌, sym, ap, ◌∙◌}
use borrow.Author.Tests.{eq-eqb, ne_eqb}
use denote.Ref.{Bor}
use lib.ListN.{get_or}
use native.Mathlib.Omega.{arith}
use Rattle.automata.specs.Canonical.{in_order, is_canonical}
use Rattle.automata.specs.Forms.{OwnForm}
use Rattle.automata.specs.Numbers.{number}
use Rattle.automata.specs.Refusals.{refusal_of}
use Rattle.automata.specs.declared.refusals.Refusal.{Refusal}
use Rattle.automata.proofs.accepting.Numbering.{above}
use Rattle.automata.proofs.canonical.Theorems.{own_form}
use Rattle.canonical.proofs.is_canonical.Goals as goal
use Rattle.canonical.proofs.is_canonical.Goals.{After-in_order}

turned_down : (b : List ℕ) (k : Refusal) → number k ≡ refusal_of b → false ≡ is_canonical b
unfolding is_canonical
turned_down b k e = rw (ne_eqb (refusal_of b) 0 (λ q. absurd (omega (arith, e, above k))))

by_order : (b : List ℕ) {r : Bool} → refusal_of b ≡ 0 → r ≡ in_order b → r ≡ is_canonical b
unfolding is_canonical
by_order b z o = rw (eq-eqb (refusal_of b) 0 z) o

-- what is lent is bytes, so that it says whether they are their own form
tells : (b : List ℕ) → ((k : ℕ) → get_or b k 0 < 256) → {r : Bool} → r ≡ is_canonical b → r ≡ true ↔ OwnForm b
tells b y e = let o = own_form b (record { byte = y }) in ((λ h. o.0 (sym e ∙ h)), (λ h. e ∙ o.1 h))

-- the edges are those of the bytes that were opened
opened : (c : After-in_order) → c.in_order.result ≡ is_canonical c.args.automaton.now
opened c =
    let same = ap (λ (x : Bor (List ℕ)). x.now) c.in-Ok.ensures.opened in
    by_order c.args.automaton.now (sym c.in-Ok.ensures.refusal) (c.in_order.ensures ∙ ap in_order same)

pub returns-in-Ok-clause-value : goal.returns-in-Ok-clause-value
returns-in-Ok-clause-value c = opened (goal.at.returns-in-Ok-clause-value c).After-in_order

pub returns-in-Ok-clause-own_form : goal.returns-in-Ok-clause-own_form
returns-in-Ok-clause-own_form c =
    tells c.args.automaton.now (λ k. omega (arith, c.type_inv.automaton k)) (opened (goal.at.returns-in-Ok-clause-own_form c).After-in_order)

pub returns-in-Err-clause-value : goal.returns-in-Err-clause-value
returns-in-Err-clause-value c = turned_down _ c.in-Err.field-0 c.in-Err.ensures.refusal
