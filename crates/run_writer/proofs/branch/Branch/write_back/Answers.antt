-- Each turn of the loop writes a jump and the wait after it, before what was written; last come the count and the first wait.
-- Assumes nothing.
use Prim.Native.Nat.{ℕ, suc}
use mathlib.Core.List.{List, ◌∷◌}
use mathlib.Core.Logic.{⊎_elim}
use mathlib.Core.Path.{◌≡◌, refl, sym, ap, ◌∙◌}
use denote.Ref.{Bor}
use lib.IntN.{ℤ}
use lib.ListN.{length, set, length-set}
use native.Mathlib.Omega.{arith}
use Rattle.automata.specs.declared.opened.Automaton.{Automaton}
use Rattle.reachability.specs.Witnesses.{back_to}
use Rattle.runs.specs.Runs.{Step, wait, jump}
use Rattle.search.specs.Outcomes.{came_of}
use Rattle.std.specs.declared.ops.Range.{Range}
use Rattle.std.specs.Iterator.Adapters.{rev_source, zip_first, zip_second}
use Rattle.witness.specs.Witnesses.{StepBack}
use Rattle.run_writer.specs.declared.branch.Branch.{Branch}
use Rattle.run_writer.specs.declared.crossing.Jump.{Jump}
use Rattle.run_writer.specs.Branch.{kept_of}
use Rattle.run_writer.specs.Crossing.{witnesses_of}
use Rattle.run_writer.specs.Jumps.{back_over}
use Rattle.run_writer.specs.Walks.{Goes, jumps_left}
use Rattle.run_writer.proofs.branch.Filling.{fill_none, fill_turn, fill_all}
use Rattle.run_writer.proofs.branch.Stepping.{no_jumps}
use Rattle.run_writer.proofs.branch.Branch.write_back.Goals as goal
use Rattle.run_writer.proofs.branch.Branch.write_back.Goals.{After-into_iter-left-iterator}

two_set : (l : List ℤ) (i j : ℕ) (x y : ℤ) → length (set (set l i x) j y) ≡ length l
two_set l i j x y = length-set (set l i x) j y ∙ length-set l i x

-- a jump back, as a step of the definition
stepped : {x y : Branch} {j : Jump} → Goes x j y → {A : Automaton} {S : Bor (List ℤ)} → x.automaton ≡ A → x.store ≡ S → (v : List ℕ) {r : StepBack}
    → r ≡ back_over j v → (m : ℕ) (xs : List Step)
    → back_to (witnesses_of A.bytes.now) (suc m) (kept_of A.bytes.now (length S.now)) (came_of x.origin) v xs
    ≡ back_to (witnesses_of A.bytes.now) m (kept_of A.bytes.now (length S.now)) (came_of y.origin) r.valuation (jump j.edge ∷ wait r.wait ∷ xs)
stepped g ea es v e m xs = rw (← ea, ← es, e) (g.step m v xs)

-- ---- before the first turn
module _ (c : After-into_iter-left-iterator) where
  front : rev_source (zip_first c.into_iter-left-iterator.result) ≡ record { start = 0; end = c.args.k }
  front = rw (c.into_iter-left-iterator.ensures.into_iter_gives, c.zip-left-items.ensures.first) c.rev.ensures.source

  back : zip_second c.into_iter-left-iterator.result ≡ c.args.self
  back = rw c.into_iter-left-iterator.ensures.into_iter_gives c.zip-left-items.ensures.second

pub loop-left-init : goal.loop-left-init
loop-left-init c =
    let many = c.requires.jumps_fit.0 in
    let front = front (goal.at.loop-left-init c).After-into_iter-left-iterator in
    let back = back (goal.at.loop-left-init c).After-into_iter-left-iterator in
    let end = ap (λ (r : Range ℕ). r.end) front in
    record {
      start = ap (λ (r : Range ℕ). r.start) front;
      most = omega (arith, end);
      automaton = ap (λ (x : Branch). x.automaton) back;
      store = ap (λ (x : Branch). x.store) back;
      jumps = end ∙ many ∙ sym (ap jumps_left back);
      long = refl;
      filled = rw (end, back) (fill_none c.args.run.now many c.last_state-v.ensures);
    }

pub put_two-requires : goal.put_two-requires
put_two-requires c =
    let inv = c.loop-left.invariant in
    let turn = c.in-Some.ensures.steps.0 in
    let j = c.in-Some.jump in (
      omega (arith, inv.most, inv.long, turn.1.1, turn.1.2, c.requires.jumps_fit.1),
      omega (arith, j.leaves.crosses.edge, j.automaton.accepted.complete.edges≤),
      omega (arith, c.back-back.result.short),
    )

pub loop-left-preserved : goal.loop-left-preserved
loop-left-preserved c =
    let inv = c.loop-left.invariant in
    let turn = c.in-Some.ensures.steps.0 in
    let g = c.in-Some.ensures.steps.1 in
    record {
      start = turn.0 ∙ inv.start;
      most = omega (arith, inv.most, turn.1.2);
      automaton = g.automaton ∙ inv.automaton;
      store = g.store ∙ inv.store;
      jumps = omega (arith, inv.jumps, turn.1.2, g.fewer);
      long = ap length c.put_two.ensures ∙ two_set c.loop-left.run _ _ _ _ ∙ inv.long;
      filled = rw (c.put_two.ensures, turn.1.1)
          (fill_turn _ _ turn.1.2 (omega (arith, inv.most, c.requires.jumps_fit.1)) inv.filled
          (stepped g inv.automaton inv.store _ c.back-back.ensures));
    }

-- ---- after the loop
pub returns : goal.returns
returns c =
    let inv = c.loop-left.invariant in
    let x = zip_second c.loop-left.left-iterator in
    let none = ⊎_elim (λ d. omega (arith, inv.start, d.1.1.0)) (λ d. inv.jumps ∙ no_jumps x d.1.0) c.in-None.ensures.steps in
    c.put_two-2.ensures ∙ fill_all none (omega (arith, c.requires.jumps_fit.1)) inv.filled
