-- An automaton that is turned down: its refusal is found, and store and buffer stay as they were. Else the search is of the bytes that were
-- opened.
-- Assumes nothing.
use mathlib.Core.Path.{◌≡◌, ap, ◌∙◌}
use mathlib.Core.List.{List}
use Prim.Native.Nat.{ℕ}
use denote.Ref.{Bor}
use lib.ListN.{length}
use native.Mathlib.Omega.{arith}
use Rattle.std.proofs.lemmas.Result.{err_from_is_err_and}
use Rattle.search.proofs.answers.Answers.{refused_findings, refused_store, not_accepted}
use Rattle.run_writer.proofs.Answering.{refused_none, refused_tells, room_findings, room_buffer}
use Rattle.run_writer.proofs.write_run.Goals as goal

pub returns-in_err-automaton : goal.returns-in_err-automaton
returns-in_err-automaton c =
    let p = err_from_is_err_and c.from_residual.result c.from_residual.ensures.1 in
    let k = c.in_err-automaton.field-0.0 in
    let e = c.in_err-automaton.ensures.refusal in
    let none = refused_none c.args.automaton.now (length c.args.store.now) k e in
    rw (p.1, p.2) (record {
      value = refused_findings _ k e _ ∙ room_findings _ _ none _ (omega arith);
      store_after = refused_store _ (not_accepted _ k e) _;
      run_after = room_buffer _ _ none _ (omega arith);
      tells = refused_tells _ _ _ _;
    })

pub returns : goal.returns
returns c =
    let e : c.in_ok-automaton.automaton.bytes.now ≡ c.args.automaton.now = ap (λ (x : Bor (List ℕ)). x.now) c.in_ok-automaton.ensures.opened in
    rw e at c.write_found.ensures
