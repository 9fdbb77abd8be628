-- `judge` meets its contract.
-- Assumes nothing.
use Prim.Native.Nat.{ℕ}
use mathlib.Core.List.{List}
use mathlib.Core.Path.{sym, ap}
use denote.Ref.{Bor}
use Rattle.std.proofs.lemmas.Result.{err_from_is_err_and}
use Rattle.run_judge.proofs.passing.Passing.{refused_says, none_says, some_says, says}
use Rattle.run_judge.proofs.judge.Goals as goal

pub returns-in_err-automaton : goal.returns-in_err-automaton
returns-in_err-automaton c =
    let p = err_from_is_err_and c.from_residual.result c.from_residual.ensures.1 in
    let e = refused_says _ _ c.in_err-automaton.ensures.refusal in
    rw (p.1, p.2) (record { value = e; yes = says _ _ _ e })

pub returns-in_default : goal.returns-in_default
returns-in_default c =
    let e = none_says _ _ (sym c.in_ok-automaton.ensures.refusal) c.in_default.ensures in record { value = e; yes = says _ _ _ e }

-- the bytes judged are those that were opened
pub returns : goal.returns
returns c =
    let e = some_says c.args.automaton.now c.args.run.now (sym c.in_ok-automaton.ensures.refusal) c.in-Some.ensures
    (rw (ap (λ (x : Bor (List ℕ)). x.now) c.in_ok-automaton.ensures.opened) at c.passes.ensures) in
    record { value = e; yes = says _ _ _ e }
