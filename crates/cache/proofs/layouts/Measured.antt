-- The length of the record that bytes begin with, in any layout.
-- Assumes nothing.
use Prim.Native.Nat.{ℕ, ◌≤◌, ◌<◌}
use mathlib.Core.List.{List, [], ◌∷◌, ◌++◌}
use mathlib.Core.Path.{◌≡◌, refl, sym, ◌∙◌}
use borrow.Author.Tests.{le-leb}
use lib.ListN.{length, length-append}
use native.Mathlib.Omega.{arith}
use Rattle.std.proofs.lemmas.Grind.{common_steps}
use Rattle.encoding.specs.Numbers.{be16_at, be32_at}
use Rattle.cache.specs.declared.layout.Layout.{Layout}
use Rattle.cache.specs.Layouts.{Laid}
use Rattle.cache.specs.Records.{measured}

module _ (L : Layout) (s : List ℕ) where
  -- ---- by the length field
  pub measured_field : (n : ℕ) → be32_at s 0 ≡ n → L.head ≤ n → n ≤ length s → measured L s ≡ n
  unfolding measured
  measured_field n e h g = rw (measured, e, le-leb L.head n h, le-leb n (length s) g)

  -- ---- what it says: m bytes of the n that are there, by a field x that leaves room for a head
  record Whole (x n m : ℕ) : Type 0 where
    pub short : m ≤ n
    pub least : 0 < m → L.head ≤ m
    pub field : 0 < m → m ≡ x

  whole : Whole (be32_at s 0) (length s) (measured L s)
  unfolding measured
  whole = record { short = grind (arith, common_steps); least = λ h. grind (arith, common_steps); field = λ h. grind (arith, common_steps) }

  pub measured-le : measured L s ≤ length s
  measured-le = whole.short

-- ---- whatever follows
pub append-be32 : (s r : List ℕ) → 4 ≤ length s → be32_at (s ++ r) 0 ≡ be32_at s 0
unfolding be32_at be16_at
append-be32 [] r h = absurd (omega arith)
append-be32 (a ∷ []) r h = absurd (omega arith)
append-be32 (a ∷ b ∷ []) r h = absurd (omega arith)
append-be32 (a ∷ b ∷ c ∷ []) r h = absurd (omega arith)
append-be32 (a ∷ b ∷ c ∷ d ∷ s) r h = refl

pub measured-append : {L : Layout} → Laid L → (s r : List ℕ) → 0 < measured L s → measured L (s ++ r) ≡ measured L s
measured-append {L} laid s r h =
    let w = whole L s in
    let g : L.head ≤ measured L s = w.least h in
    measured_field L (s ++ r) (measured L s) (append-be32 s r (omega (arith, w.short)) ∙ sym (w.field h)) g
    (omega (arith, w.short, length-append s r))
