-- `same_by_words` meets its contract: the bytes before 4k and from n - 4k on are the same.
use Prim.Native.Nat.{◌+◌, ◌-◌, ◌*◌, ◌/◌}
use mathlib.Core.Path.{◌≡◌, ◌∙◌}
use lib.ListN.{length}
use native.Mathlib.Omega.{arith}
use Rattle.encoding.proofs.Equality.{slices_same}
use Rattle.encoding.proofs.Ends.{outer_words, outer_fewer, between_same}
use Rattle.encoding.proofs.same_by_words.Goals as goal

pub loop-k-preserved : goal.loop-k-preserved
loop-k-preserved c =
    let k = c.loop-k.k in
    let i : 4 * (k + 1) ≡ 4 * k + 4 = omega arith in
    let j : length c.args.a.now - (4 * k + 4) ≡ length c.args.a.now - 4 * k - 4 = omega arith in
    rw (i, j) (outer_words _ _ (4 * k) _ c.loop-k.invariant (omega arith) c.same_word.ensures c.same_word-else-not-same_word.ensures
    c.if-not-same_word.false c.if-not-same_word-2.false)

pub returns : goal.returns
returns c =
    let i = 4 * ((length c.args.a.now + 4) / 8) in
    let o = outer_fewer _ _ _ _ c.loop-k.invariant i c.max-j.result (omega arith) (omega arith) in
    c.eq.ensures ∙ slices_same _ _ ∙ between_same _ _ i c.max-j.result o (omega arith)
