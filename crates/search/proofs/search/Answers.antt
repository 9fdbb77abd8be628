-- What is found and the store are the definition's, and it has what is promised.
-- Assumes nothing.
use Prim.Native.Nat.{ℕ, suc}
use mathlib.Core.List.{List}
use mathlib.Core.Path.{◌≡◌, sym, ap, ◌∙◌, subst}
use denote.Ref.{Bor}
use Rattle.std.proofs.lemmas.Result.{err_from_is_err_and}
use lib.ListN.{length}
use Rattle.automata.specs.Automata.{clocks}
use Rattle.automata.specs.Refusals.{refusal_of}
use Rattle.search.specs.Answers.{state_of}
use Rattle.search.specs.Exploring.{Shown}
use Rattle.search.specs.Promised.{Promised}
use Rattle.search.proofs.answers.Answers.{turn_found, refused_findings, refused_store, not_accepted, count_small, searched_findings, searched_store}
use Rattle.search.proofs.answers.Given.{promised}
use Rattle.search.proofs.search.Goals as goal
use Rattle.search.proofs.search.Goals.{In_ok-automaton, After-explore}

pub returns-in_err-automaton : goal.returns-in_err-automaton
returns-in_err-automaton c =
    let p = err_from_is_err_and c.from_residual.result c.from_residual.ensures.1 in
    let e = c.in_err-automaton.ensures.refusal in
    let found = refused_findings _ c.in_err-automaton.field-0.0 e _ in
    rw (p.1, p.2) (record {
      value = found;
      store_after = refused_store _ (not_accepted _ c.in_err-automaton.field-0.0 e) _;
      promised = subst (Promised _ _) (sym found) (promised _ _);
    })

ok : (c : In_ok-automaton) → refusal_of c.args.automaton.now ≡ 0
ok c = sym c.in_ok-automaton.ensures.refusal

-- the search is of the bytes that were opened
shown : (c : After-explore) → let b = c.args.automaton.now in let s = c.args.store.now in
    Shown (suc (clocks b)) s (state_of b (length s)) c.explore.new.store c.explore.result
shown c =
    subst (λ (b : List ℕ). Shown (suc (clocks b)) c.args.store.now (state_of b (length c.args.store.now)) c.explore.new.store c.explore.result)
    (ap (λ (x : Bor (List ℕ)). x.now) c.in_ok-automaton.ensures.opened) c.explore.ensures

pub findings-requires : goal.findings-requires
findings-requires c = count_small _ (ok (goal.at.findings-requires c).In_ok-automaton) _ _ _ (shown (goal.at.findings-requires c).After-explore)

pub returns : goal.returns
returns c =
    let here = goal.at.returns c in
    let found = searched_findings _ (ok here.In_ok-automaton) _ _ _ (shown here.After-explore) (c.findings.ensures ∙ turn_found _ _ _ _) in
    record {
      value = found;
      store_after = searched_store _ (ok here.In_ok-automaton) _ _ _ (shown here.After-explore);
      promised = subst (Promised _ _) (sym found) (promised _ _);
    }
