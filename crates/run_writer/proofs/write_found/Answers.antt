-- What is found and the store are the bare search's findings and store; and where it met the target, the run, if there is room for it.
-- Assumes nothing.
use Prim.Native.Nat.{ℕ, ◌+◌, ◌*◌, ◌≤◌}
use mathlib.Core.List.{List, ◌++◌}
use mathlib.Core.Path.{◌≡◌, sym, ap, ◌∙◌, subst}
use lib.ListN.{length, drop}
use native.Mathlib.Omega.{arith}
use Rattle.automata.specs.Refusals.{refusal_of}
use Rattle.automata.proofs.accepting.Accepting.{free}
use Rattle.search.proofs.answers.Answers.{turn_found, count_small, searched_findings, searched_store}
use Rattle.runs.specs.Written.{written}
use Rattle.search.specs.Answers.{state_of}
use Rattle.search.specs.Outcomes.{came_of}
use Rattle.search.specs.Store.{most_slots}
use Rattle.run_writer.specs.Branch.{jumps_before}
use Rattle.run_writer.specs.Writing.{run_of}
use Rattle.run_writer.specs.Told.{Tells}
use Rattle.run_writer.proofs.branch.Stepping.{jumps_few}
use Rattle.run_writer.proofs.Answering.{stored, stands, stands_there, numbers_here, long, filled_buffer, room_tells}
use Rattle.run_writer.proofs.Answering.{room_findings, room_buffer, short_findings, short_buffer, refused_tells, missed_none, missed_tells}
use Rattle.run_writer.proofs.write_found.Goals as goal
use Rattle.run_writer.proofs.write_found.Goals.{Start, After-jumps-k, in-Reached+else-run-k, in_default}

ok : (c : Start) → refusal_of c.args.automaton.now.bytes.now ≡ 0
ok c = (free c.args.automaton.now.bytes.now).0 c.args.automaton.now.accepted

pub invariant_of-branch : goal.invariant_of-branch
invariant_of-branch c =
    let o = ok (goal.at.invariant_of-branch c).Start in
    record { stands = ∣ stands_there _ o _ _ _ c.explore-turn.ensures c.in-Reached.is c.explore-turn.auto.store ∣₁ }

-- ---- at the target, with the jumps counted
module _ (c : After-jumps-k) where
  abbrev automaton : List ℕ
  automaton = c.args.automaton.now.bytes.now

  counted : c.jumps-k.result ≡ jumps_before automaton (length c.args.store.now) c.in-Reached.origin
  counted = c.jumps-k.ensures ∙ ap (λ (n : ℕ). jumps_before automaton n c.in-Reached.origin) c.explore-turn.auto.store

  few : c.jumps-k.result ≤ most_slots
  few =
      let o = (free automaton).0 c.args.automaton.now.accepted in
      let h = c.explore-turn.ensures in
      omega (arith, counted, jumps_few (stored _ o _ _ _ h c.in-Reached.is) (stands _ o _ _ _ h c.in-Reached.is))

pub overflow_mul-k : goal.overflow_mul-k
overflow_mul-k c = omega (arith, few (goal.at.overflow_mul-k c).After-jumps-k)

pub overflow_add-k : goal.overflow_add-k
overflow_add-k c = omega (arith, few (goal.at.overflow_add-k c).After-jumps-k)

pub returns-then-run-k : goal.returns-then-run-k
returns-then-run-k c =
    let h = c.explore-turn.ensures in
    let g = c.in-Reached.is in
    let k = counted (goal.at.returns-then-run-k c).After-jumps-k in
    let o = ok (goal.at.returns-then-run-k c).Start in
    let ns = numbers_here _ o _ _ _ h g in
    record {
      value = short_findings _ _ ns _ (omega (arith, long _ o _ _ _ h g k, c.if-run-k.true));
      store_after = searched_store _ o _ _ _ h;
      run_after = short_buffer _ _ ns _ (omega (arith, long _ o _ _ _ h g k, c.if-run-k.true));
      tells = refused_tells _ _ _ _;
    }

-- ---- after the search
pub findings-requires : goal.findings-requires
findings-requires c = count_small _ (ok (goal.at.findings-requires c).Start) _ _ _ c.explore-turn.ensures

pub returns : goal.returns
returns c =
    let h = c.explore-turn.ensures in
    let o = ok (goal.at.returns c).Start in
    let b = c.args.automaton.now.bytes.now in
    let same = c.explore-turn.auto.store in
    let found = searched_findings _ o _ _ _ h (c.findings.ensures ∙ turn_found _ _ _ _) in
    elim c.match-turn.branch [
      | in-Reached+else-run-k w ↦
          let g = w.in-Reached.is in
          let k = w.jumps-k.ensures ∙ ap (λ (n : ℕ). jumps_before b n w.in-Reached.origin) same in
          let room = w.if-run-k.false in
          let run = w.run-is ∙ w.write_back.ensures
          ∙ ap (λ (n : ℕ). written (run_of b (state_of b n) (came_of w.in-Reached.origin)) ++ drop (2 * w.jumps-k.result + 2) c.args.run.now) same in
          record {
            value = found ∙ room_findings _ _ (numbers_here _ o _ _ _ h g) _ (omega (arith, long _ o _ _ _ h g k, room));
            store_after = searched_store _ o _ _ _ h;
            run_after = filled_buffer _ o _ _ _ h g k _ room run;
            tells = subst (Tells _ _ _) (sym found) (room_tells _ o _ _ _ h g k _ room run);
          }
      | in_default w ↦
          let none = missed_none _ o _ _ _ h w.in_default.not-Reached in
          record {
            value = found ∙ room_findings _ _ none _ (omega arith);
            store_after = searched_store _ o _ _ _ h;
            run_after = w.run-is ∙ room_buffer _ _ none _ (omega arith);
            tells = subst (Tells _ _ _) (sym found) (missed_tells _ o _ _ _ h w.in_default.not-Reached _);
          }
    ]
