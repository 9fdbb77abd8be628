-- The containment test of two slots: std's `all` over the pairs.
-- Assumes nothing.
use mathlib.Core.Path.{◌≡◌, refl}
use mathlib.Core.Bool.{true, false}
use Prim.Native.Nat.{ℕ}
use Rattle.std.proofs.Common.{arith, rules, tests}
use Rattle.std.proofs.lemmas.Iterator.{cases_from_all, YieldsList-from_range}
use Rattle.zones.specs.Pairs.{is_at_most}
use Rattle.slots.specs.Containing.{compare_numbers}
use Rattle.slots.proofs.slot.Loops.{all_answers}
use Rattle.slots.proofs.containment.is_within.Goals as goal

pub returns : goal.returns
returns c =
    let a = c.args in
    let passes = λ (t : ℕ). is_at_most (compare_numbers a.new.now a.old.now t) in
    let pairs = c.pair_count.result in
    rw (← c.pair_count.ensures)
    (all_answers passes pairs c.all.result
    (cases_from_all _ _ _ (λ t. passes t ≡ true) (λ t. passes t ≡ false) c.all.ensures.ran
    (YieldsList-from_range 0 pairs pairs refl (omega arith))
    (λ x q k. search (rules, tests)) (λ x q k. search (rules, tests))))
