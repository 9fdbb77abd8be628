-- The first kept slot that contains the new one: std's `find` over the slots' numbers.
-- Assumes nothing.
use Prim.Native.Nat.{ℕ, suc, ◌*◌, ◌<◌, ◌≤◌}
use mathlib.Core.List.{List}
use lib.IntN.{ℤ}
use Rattle.std.specs.Prelude.{Option, None, Some, MatchOption}
use native.Mathlib.Nat.{mul-le-mul_right}
use native.Mathlib.Omega.{arith}
use lib.ListN.{length}
use Rattle.std.proofs.Common.{rules, tests}
use Rattle.std.proofs.lemmas.Iterator.{serves_from_Range, first_from_Range}
use Rattle.search.specs.Exploring.{Hits, FirstHit}
use Rattle.slots.specs.Slots.{slot_length}
use Rattle.search.proofs.exploration.Stores.{hit, hit_location, hit_inside}
use Rattle.search.proofs.exploration.find.Goals as goal

-- slot x lies in the store
slot_within : (n : ℕ) {count x : ℕ} (s : List ℤ) → count * slot_length n ≤ length s → x < count → suc x * slot_length n ≤ length s
slot_within n s h k = omega (arith, mul-le-mul_right (slot_length n) k)

pub find-requires-clause-callable : goal.find-requires-clause-callable
find-requires-clause-callable c =
    serves_from_Range (λ x q k. search (rules, tests))
    (λ x h k. search (rules, tests, arith, slot_within c.args.size c.args.store.now c.requires.1 k))

-- the first hit, from what the library says of `find` over a range
firsts : (n count : ℕ) (new s : List ℤ) (r : Option ℕ) →
    MatchOption r ((k : ℕ) → 0 ≤ k → k < count → Hits n new s k → ⊥)
    (λ i. (0 ≤ i) × (i < count) × Hits n new s i × ((k : ℕ) → 0 ≤ k → k < i → Hits n new s k → ⊥)) →
    MatchOption r (FirstHit n new s count count) (λ j. (j < count) × FirstHit n new s count j)
firsts n count new s None d = record { most = omega arith; before = λ j h. d j (omega arith) h; found = λ h. absurd (omega (arith, h)) }
firsts n count new s (Some i) d = (d.1, record { most = omega (arith, d.1); before = λ j h. d.3 j (omega arith) h; found = λ _. d.2 })

pub returns : goal.returns
returns c =
    let a = c.args in
    let e = c.slot_length-stride.ensures in
    let n = c.requires.2 in
    firsts _ _ _ _ c.find.result
    (first_from_Range _ _ _ _ (Hits a.size a.new.now a.store.now) (λ j. Hits a.size a.new.now a.store.now j → ⊥) c.find.ensures.ran
    (λ x q k. hit a.size a.new.now a.store.now x e n (search (rules, tests)) (search (rules, tests)))
    (λ x q k. (
      search (rules, tests),
      λ t. search (
        rules,
        tests,
        hit_location a.size a.new.now a.store.now x e n t,
        hit_inside a.size a.new.now a.store.now x e n t,
      ),
    )))
