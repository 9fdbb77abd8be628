-- The loop of `write_back`: what it keeps.
use Prim.Native.Nat.{◌≤◌}
use mathlib.Core.Path.{◌≡◌}
use lib.ListN.{length}
use Rattle.std.specs.Iterator.Adapters.{rev_source, zip_first, zip_second}
use Rattle.run_writer.specs.Walks.{jumps_left}
use Rattle.run_writer.proofs.branch.Filling.{Filled}
use Rattle.run_writer.proofs.branch.Branch.write_back.Given as goal

abbrev pub invariant-loop-left : goal.invariant-loop-left
invariant-loop-left l =
    let x = zip_second l.left-iterator in
    let left = (rev_source (zip_first l.left-iterator)).end in
    record {
      start : (rev_source (zip_first l.left-iterator)).start ≡ 0;
      most : left ≤ l.k;
      automaton : x.automaton ≡ l.fn.self.automaton;
      store : x.store ≡ l.fn.self.store;
      jumps : left ≡ jumps_left x;
      long : length l.run ≡ length l.initial.run;
      filled : Filled l.fn.self.automaton.bytes.now (length l.fn.self.store.now) l.initial.run l.run l.k l.fn.self.origin x.origin l.v.clocks left;
    }
