-- Four bytes compared as one number.
-- Assumes nothing.
use Prim.Native.Nat.{ℕ, ◌+◌, ◌<◌, ◌≤◌}
use mathlib.Core.Bool.{Bool, true, false}
use mathlib.Core.List.{List}
use mathlib.Core.Path.{◌≡◌, sym, ap, ◌∙◌}
use borrow.Author.Tests.{eqb-true, eqb-false}
use lib.Dec.{eqb}
use lib.ListN.{get_or}
use native.Mathlib.Omega.{arith}
use Rattle.encoding.specs.Bytes.{same_bytes, Four}
use Rattle.encoding.specs.Numbers.{le32_at}
use Rattle.encoding.proofs.Equality.{differ_same}

-- what the code learns of two words
abbrev pub Words : List ℕ → List ℕ → ℕ → Bool → Type 0
Words a b at r = (r ≡ eqb (le32_at a at) (le32_at b at)) × Four a at × Four b at

four_agree : (a b : List ℕ) (at : ℕ) → Four a at → Four b at → le32_at a at ≡ le32_at b at
    → (k : ℕ) → at ≤ k → k < at + 4 → get_or a k 0 ≡ get_or b k 0
unfolding le32_at
four_agree a b at f g e k h l =
    let e3 : get_or a (at + 3) 0 ≡ get_or b (at + 3) 0 = omega arith in
    let e2 : get_or a (at + 2) 0 ≡ get_or b (at + 2) 0 = omega arith in
    let e1 : get_or a (at + 1) 0 ≡ get_or b (at + 1) 0 = omega arith in
    let e0 : get_or a at 0 ≡ get_or b at 0 = omega arith in
    grind (arith, e0, e1, e2, e3)

pub words_agree : (a b : List ℕ) (at : ℕ) {r : Bool} → Words a b at r → r ≡ true → (k : ℕ) → at ≤ k → k < at + 4 → get_or a k 0 ≡ get_or b k 0
words_agree a b at w e = four_agree a b at w.1 w.2 (eqb-true _ _ (sym w.0 ∙ e))

pub words_differ : (a b : List ℕ) (at : ℕ) {r : Bool} → Words a b at r → r ≡ false → same_bytes a b ≡ false
words_differ a b at w e = differ_same a b (λ g. eqb-false _ _ (sym w.0 ∙ e) (ap (λ (s : List ℕ). le32_at s at) g))
