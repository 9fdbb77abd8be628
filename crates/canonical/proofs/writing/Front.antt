-- What stands before the edges, put part behind part.
-- Assumes nothing.
use Prim.Native.Nat.{ℕ, ◌-◌, ◌≤◌}
use mathlib.Core.List.{List, ◌++◌, append_assoc}
use mathlib.Core.Path.{◌≡◌, refl, ap, ◌∙◌}
use lib.ListN.{length, take, drop, length-append, length-drop}
use lib.Seq.{length-take-le}
use native.Mathlib.Omega.{arith}
use Rattle.encoding.specs.Numbers.{be16, be32}
use Rattle.encoding.specs.Placing.{placed}
use Rattle.encoding.proofs.Placed.{goes_on}
use Rattle.canonical.specs.Parts.{front_of}

module _ (b : List ℕ) (at total count : ℕ) (h : 11 ≤ at) (g : at ≤ length b) where
  abbrev fields : List ℕ
  fields = take 5 (drop 4 b)

  fields-length : length fields ≡ 5
  fields-length = length-take-le 5 (drop 4 b) (omega (arith, length-drop 4 b))

  pub front_length : length (front_of b at total count) ≡ at
  unfolding front_of be32 be16
  front_length =
      let invariants = length-take-le (at - 11) (drop 11 b) (omega (arith, length-drop 11 b)) in
      omega (arith, length-append fields (be16 count ++ take (at - 11) (drop 11 b)), fields-length, invariants)

  -- the length, the five fields that stay, the number of edges, the invariants
  pub front_put : (form : List ℕ) {one two three four size number : List ℕ} → size ≡ be32 total → one ≡ placed 0 size form
      → two ≡ placed 4 fields one → number ≡ be16 count → three ≡ placed 9 number two → four ≡ placed 11 (take (at - 11) (drop 11 b)) three
      → four ≡ placed 0 (front_of b at total count) form
  unfolding front_of be32 be16
  front_put form e₁ p₁ p₂ e₃ p₃ p₄ =
      let begun = p₁ ∙ ap (λ (l : List ℕ). placed 0 l form) e₁ in
      let two = goes_on form (be32 total) fields 0 4 (omega arith) (omega arith) begun refl p₂ in
      let three = goes_on form (be32 total ++ fields) (be16 count) 0 9 (omega arith) (omega (arith, fields-length)) two e₃ p₃ in
      let invariants = take (at - 11) (drop 11 b) in
      goes_on form (be32 total ++ (fields ++ be16 count)) invariants 0 11 (omega arith)
      (omega (arith, length-append fields (be16 count), fields-length)) three refl p₄
      ∙ ap (λ (l : List ℕ). placed 0 (be32 total ++ l) form) (append_assoc fields (be16 count) invariants)
