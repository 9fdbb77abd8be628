-- Whether a number below k passes a test, as std's `any` finds it.
-- Assumes nothing.
use Prim.Native.Nat.{ℕ, zero, suc, ◌<◌, ◌-◌}
use denote.Param.Members.{Mut}
use lib.ListN.{length}
use mathlib.Core.Path.{◌≡◌, refl, sym, ap, ◌∙◌}
use mathlib.Core.Bool.{Bool, true, false, cond}
use mathlib.Core.List.{List}
use native.Mathlib.Decide.{ℕ_discrete}
use native.Mathlib.Nat.{not-suc-le-zero, zero-add}
use native.Mathlib.Omega.{arith}
use Rattle.std.proofs.Common.{rules, tests}
use Rattle.std.specs.Bool.{MatchBool}
use Rattle.std.specs.Fn.{Called}
use Rattle.std.specs.Iterator.{YieldsThen}
use Rattle.std.specs.List.{AllWithin, FoldsTo, HoldsAt, range_with_len}
use Rattle.std.specs.Prelude.{Option, MatchOption}
use Rattle.std.specs.declared.ops.Range.{Range}
use Rattle.std.proofs.iter.Yields.{nat_range_steps}
use Rattle.std.proofs.lemmas.Iterator.{YieldsList-from_range, cases_from_any}
use Rattle.std.proofs.lemmas.List.FromFn.{length-range_with_len, get_or-range_with_len}
use Rattle.runs.proofs.Contradictions.{true_false}
use Rattle.automata.specs.Refusals.{some}

-- where none passes, each fails
pub fails : (f : ℕ → Bool) (k : ℕ) → some k f ≡ false → (i : ℕ) → i < k → f i ≡ false
unfolding some
fails f zero e i h = absurd (not-suc-le-zero h)
fails f (suc k) e i h = go (fails f k) (f k) refl e (ℕ_discrete i k)
  where
    go : (some k f ≡ false → (i : ℕ) → i < k → f i ≡ false) → (t : Bool) → f k ≡ t → cond t true (some k f) ≡ false → Dec (i ≡ k) → f i ≡ false
    go ih true g d c = true_false d
    go ih false g d (yes q) = ap f q ∙ g
    go ih false g d (no q) = ih d i (omega arith)

-- and where each fails, none passes
pub none : (f : ℕ → Bool) (k : ℕ) → ((i : ℕ) → i < k → f i ≡ false) → some k f ≡ false
unfolding some
none f zero h = refl
none f (suc k) h = rw (h k (omega arith)) (none f k (λ i g. h i (omega arith)))

-- one that passes is enough
pub found : (f : ℕ → Bool) {k : ℕ} (i : ℕ) → i < k → f i ≡ true → some k f ≡ true
found f {k} i h e = let g = fails f k in search (rules, tests)

-- whichever way they are gone through: i of those below k is the (k − 1 − i)th from the last on
abbrev turn : (ℕ → Bool) → ℕ → ℕ → Bool
turn f k i = f (k - 1 - i)

turned : (f : ℕ → Bool) (k : ℕ) → some k (turn f k) ≡ some k f
turned f k = go (some k f) (some k (turn f k)) refl refl
  where
    back : (i : ℕ) → i < k → k - 1 - (k - 1 - i) ≡ i
    back i l = omega arith

    go : (a b : Bool) → some k f ≡ a → some k (turn f k) ≡ b → some k (turn f k) ≡ some k f
    go false b e h = none (turn f k) k (λ i l. fails f k e (k - 1 - i) (omega arith)) ∙ sym e
    go true true e h = h ∙ sym e
    go true false e h =
        absurd (true_false (sym e ∙ none f k (λ i l. sym (ap f (back i l)) ∙ fails (turn f k) k h (k - 1 - i) (omega arith))))

-- ---- what std's `any` over the numbers below n answers
answers : (f : ℕ → Bool) (k : ℕ) {r : Bool}
    → MatchBool r ((i : ℕ) × (i < length (range_with_len 0 k)) × HoldsAt (λ x. true ≡ f x) (range_with_len 0 k) i)
    (AllWithin (λ x. false ≡ f x) (range_with_len 0 k) 0 (length (range_with_len 0 k))) → r ≡ some k f
answers f k {r = true} h =
    let i : h.0 < k = omega (arith, h.1, length-range_with_len 0 k) in
    sym (found f h.0 i (sym (rw (get_or-range_with_len 0 k h.0 0 i, zero-add h.0) at (h.2 0))))
answers f k {r = false} h =
    sym (none f k (λ i l. sym (rw (get_or-range_with_len 0 k i 0 l, zero-add i) at (h i 0 (omega arith) (omega (arith, length-range_with_len 0 k))))))

pub some_from_any : {f : ℕ → Bool} {F : Type 0} {g : Mut F (ℕ × Unit {0}) Bool} {j : F} {u : Range ℕ} {n k : ℕ} {r : Bool}
    → (xs : List ℕ) × (o : Option ℕ) × (q : F) × YieldsThen nat_range_steps (record { start = 0; end = n }) xs o u
    × FoldsTo (λ p x q. Called g p (x, tt) false q) j xs q
    × MatchOption o (r ≡ false) (λ x. (r ≡ true) × ((h : F) × Called g q (x, tt) true h))
    → n ≡ k → ((x : ℕ) (b : Bool) (q : F) → Called g j (x, tt) b q → (q ≡ j) × (b ≡ f x)) → r ≡ some k f
some_from_any {f} {n = n} ran e calls =
    rw (sym e)
    (answers f n (cases_from_any _ _ _ (λ x. true ≡ f x) (λ x. false ≡ f x) ran (YieldsList-from_range 0 n n refl (omega arith))
    (λ x q c. (calls x true q c).1) (λ x q. calls x false q)))

-- and where it goes from the last on
pub some_from_last : (f : ℕ → Bool) {F : Type 0} {g : Mut F (ℕ × Unit {0}) Bool} {j : F} {u : Range ℕ} {n k : ℕ} {r : Bool}
    → (xs : List ℕ) × (o : Option ℕ) × (q : F) × YieldsThen nat_range_steps (record { start = 0; end = n }) xs o u
    × FoldsTo (λ p x q. Called g p (x, tt) false q) j xs q
    × MatchOption o (r ≡ false) (λ x. (r ≡ true) × ((h : F) × Called g q (x, tt) true h))
    → n ≡ k → ((x : ℕ) (b : Bool) (q : F) → Called g j (x, tt) b q → (q ≡ j) × (b ≡ f (k - 1 - x))) → r ≡ some k f
some_from_last f {k = k} ran e calls = some_from_any ran e calls ∙ turned f k
