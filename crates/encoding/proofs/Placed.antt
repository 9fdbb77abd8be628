-- Bytes put at a place: what a copy leaves, in a whole slice or in a lent part, and one put right behind another.
-- Assumes nothing.
use Prim.Native.Nat.{ℕ, ◌+◌, ◌-◌, ◌≤◌}
use mathlib.Core.List.{List, ◌++◌, append_assoc}
use mathlib.Core.Path.{◌≡◌, sym, ap, ◌∙◌}
use lib.ListN.{length, take, drop, length-append}
use lib.Seq.{drop-drop}
use native.Mathlib.Nat.{zero-add}
use native.Mathlib.Omega.{arith}
use Rattle.std.proofs.lemmas.Grind.{common_steps}
use Rattle.encoding.specs.Placing.{placed}

-- ---- bytes that take the place of a lent part from `at` on: of one as long as they are, or of all that follows
pub part_placed : {X : Type 0} (s xs : List X) (at n : ℕ) {ys : List X} → n ≡ length xs → ys ≡ xs
    → take at s ++ (ys ++ drop n (drop at s)) ≡ placed at xs s
unfolding placed
part_placed s xs at n e f = rw (f, e) (simp drop-drop)

-- of all that follows, n are taken by another front
pub lent_tail : {X : Type 0} (s ys front : List X) (at n : ℕ) → ys ≡ front ++ drop n (take (length s - at) (drop at s))
    → take at s ++ (ys ++ drop (length s - at) (drop at s)) ≡ take at s ++ (front ++ drop (at + n) s)
lent_tail s ys front at n e = grind (arith, common_steps, e)

pub lent_placed : {X : Type 0} (s xs : List X) (at : ℕ) {ys : List X} → ys ≡ placed 0 xs (take (length s - at) (drop at s))
    → take at s ++ (ys ++ drop (length s - at) (drop at s)) ≡ placed at xs s
unfolding placed
lent_placed s xs at e = lent_tail s _ xs at (length xs) (rw zero-add at e)

-- ---- what begins with xs at a place begins with xs and ys, once ys are put behind xs
behind : {X : Type 0} (s xs ys : List X) (at to : ℕ) → at ≤ length s → to ≡ at + length xs → placed to ys (placed at xs s) ≡ placed at (xs ++ ys) s
unfolding placed
behind s xs ys at to h e =
    let front : take to (placed at xs s) ≡ take at s ++ xs = grind (arith, common_steps) in
    let over : drop to (placed at xs s) ≡ drop (at + length xs) s = grind (arith, common_steps) in
    let far : at + length xs + length ys ≡ at + length (xs ++ ys) = omega (arith, length-append xs ys) in
    let back = sym (drop-drop (length ys) to _) ∙ ap (drop (length ys)) over ∙ drop-drop (length ys) _ s ∙ ap (λ (k : ℕ). drop k s) far in
    (λ i. front i ++ (ys ++ back i)) ∙ simp append_assoc

-- the same of the code's two puts
pub goes_on : {X : Type 0} (s xs ys : List X) (at to : ℕ) → at ≤ length s → to ≡ at + length xs
    → {t u zs : List X} → t ≡ placed at xs s → zs ≡ ys → u ≡ placed to zs t → u ≡ placed at (xs ++ ys) s
goes_on s xs ys at to h e f g k = k ∙ (λ i. placed to (g i) (f i)) ∙ behind s xs ys at to h e
