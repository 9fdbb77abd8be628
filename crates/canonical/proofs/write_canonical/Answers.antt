-- `write_canonical` meets its contract: the form is of the bytes that were opened.
use Prim.Native.Nat.{ℕ}
use mathlib.Core.List.{List}
use mathlib.Core.Path.{sym, ap, subst}
use denote.Ref.{Bor}
use Rattle.std.specs.Prelude.{Result}
use Rattle.std.proofs.lemmas.Result.{err_from_is_err_and}
use Rattle.automata.specs.declared.refusals.Refusal.{Refusal}
use Rattle.automata.proofs.canonical.Theorems.{form_laws}
use Rattle.canonical.specs.Edges.{EdgesOf}
use Rattle.canonical.specs.Parts.{Sorted}
use Rattle.canonical.proofs.Ways.{Writes, refused, short, written}
use Rattle.canonical.proofs.writing.Parts.{sorted_in, total_is}
use Rattle.canonical.proofs.write_canonical.Goals as goal
use Rattle.canonical.proofs.write_canonical.Goals.{In_ok-automaton, After-list_all}

pub returns-in_err-automaton : goal.returns-in_err-automaton
returns-in_err-automaton c =
    let p = err_from_is_err_and c.from_residual.result c.from_residual.ensures.1 in
    let w = refused c.args.automaton.now c.args.form.now c.in_err-automaton.field-0.0 c.in_err-automaton.ensures.refusal in
    rw (p.1, p.2) (record { value = w.0; form_after = w.1; form_laws = form_laws _ })

-- what is written of the bytes that were opened is of those that were passed
passed : (c : In_ok-automaton) (form now : List ℕ) (r : Result ℕ Refusal) → Writes c.in_ok-automaton.automaton.bytes.now form r now
    → Writes c.args.automaton.now form r now
passed c form now r = subst (λ (b : List ℕ). Writes b form r now) (ap (λ (x : Bor (List ℕ)). x.now) c.in_ok-automaton.ensures.opened)

sorted : (c : After-list_all) → Sorted c.in_ok-automaton.automaton.bytes.now c.list_all.new.self
sorted c =
    let a = c.in_ok-automaton.automaton in
    let edges = subst (EdgesOf a.bytes.now) (sym c.new-order.ensures.same) c.of.ensures in
    sorted_in _ _ a.accepted.complete edges c.list_all.ensures.same c.list_all.ensures.lists

pub returns-then-form-total : goal.returns-then-form-total
returns-then-form-total c =
    let here = goal.at.returns-then-form-total c in
    let a = c.in_ok-automaton.automaton in
    let total = total_is _ _ (sorted here.After-list_all) c.len.ensures.value in
    let w = passed here.In_ok-automaton _ _ _ (short _ _ a.accepted total c.if-form-total.true) in
    record { value = w.0; form_after = w.1; form_laws = form_laws _ }

pub write_form-requires-clause-total_value : goal.write_form-requires-clause-total_value
write_form-requires-clause-total_value c =
    let here = goal.at.write_form-requires-clause-total_value c in
    (total_is _ _ (sorted here.After-list_all) c.len.ensures.value, c.if-form-total.false)

pub returns : goal.returns
returns c =
    let here = goal.at.returns c in
    let a = c.in_ok-automaton.automaton in
    let total = total_is _ _ (sorted here.After-list_all) c.len.ensures.value in
    let w = passed here.In_ok-automaton _ _ _ (written _ _ a.accepted total c.if-form-total.false c.write_form.ensures) in
    record { value = w.0; form_after = w.1; form_laws = form_laws _ }
