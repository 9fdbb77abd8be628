-- The loop of `same_by_words`: k words at either end are the same.
use Prim.Native.Nat.{◌*◌, ◌-◌}
use Rattle.encoding.proofs.Ends.{Outer}
use Rattle.encoding.proofs.same_by_words.Given as goal

abbrev pub invariant-loop-k : goal.invariant-loop-k
invariant-loop-k l = Outer l.a l.b (4 * l.k) (l.n - 4 * l.k)
