-- Strings of bytes compared from both ends.
-- Assumes nothing.
use Prim.Native.Nat.{ℕ, ◌+◌, ◌-◌, ◌<◌, ◌≤◌}
use mathlib.Core.Bool.{Bool, true}
use mathlib.Core.List.{List}
use mathlib.Core.Path.{◌≡◌, sym, ap, ◌∙◌}
use lib.ListN.{length, get_or, take, drop}
use lib.Seq.{ext_get_or}
use native.Mathlib.Omega.{arith}
use Rattle.std.proofs.lemmas.Grind.{common_steps}
use Rattle.std.proofs.lemmas.Bool.Decides.{same_from_decides, Decides-like}
use Rattle.encoding.specs.Bytes.{same_bytes}
use Rattle.encoding.proofs.Equality.{one_list}
use Rattle.encoding.proofs.Words.{Words, words_agree}

-- the bytes agree below i and from j on
pub record Outer (a b : List ℕ) (i j : ℕ) : Type 0 where
  pub size : length a ≡ length b
  pub front : (k : ℕ) → k < i → get_or a k 0 ≡ get_or b k 0
  pub back : (k : ℕ) → j ≤ k → k < length a → get_or a k 0 ≡ get_or b k 0

outer_equal : (a b : List ℕ) (j : ℕ) → Outer a b j j → a ≡ b
outer_equal a b j o = ext_get_or 0 a b o.size (grind (arith, o.front, o.back))

module _ (a b : List ℕ) (i j : ℕ) (o : Outer a b i j) where
  -- the bytes from i to m agree too, and those from n to j
  pub wider : (m n : ℕ) → ((k : ℕ) → i ≤ k → k < m → get_or a k 0 ≡ get_or b k 0) → ((k : ℕ) → n ≤ k → k < j → get_or a k 0 ≡ get_or b k 0)
      → Outer a b m n
  wider m n f g = record {
    size = o.size;
    front = grind (arith, f, o.front);
    back = grind (arith, g, o.back);
  }

  -- less is said of fewer bytes
  pub outer_fewer : (m n : ℕ) → m ≤ i → j ≤ n → Outer a b m n
  outer_fewer m n f g = record { size = o.size; front = λ k h. o.front k (omega arith); back = λ k h. o.back k (omega arith) }

  -- a word at either end; they may overlap
  pub outer_words : 4 ≤ j → {r t : Bool} → Words a b i r → Words a b (j - 4) t → r ≡ true → t ≡ true → Outer a b (i + 4) (j - 4)
  outer_words h p q e g = wider (i + 4) (j - 4) (words_agree a b i p e) (λ k l m. words_agree a b (j - 4) q g k l (omega arith))

  -- what is between decides
  pub between_same : i ≤ j → same_bytes (take (j - i) (drop i a)) (take (j - i) (drop i b)) ≡ same_bytes a b
  between_same h = same_from_decides _ _ (Decides-like _ whole (ap inner) (one_list (inner a) (inner b))) (one_list a b)
    where
      inner : List ℕ → List ℕ
      inner s = take (j - i) (drop i s)

      byte : (s : List ℕ) (k : ℕ) → i ≤ k → k < j → get_or (inner s) (k - i) 0 ≡ get_or s k 0
      byte s k l m = grind (arith, common_steps)

      whole : inner a ≡ inner b → a ≡ b
      whole e =
          let agree : (k : ℕ) → i ≤ k → k < j → get_or a k 0 ≡ get_or b k 0 =
          λ k l m. sym (byte a k l m) ∙ ap (λ (s : List ℕ). get_or s (k - i) 0) e ∙ byte b k l m in
          outer_equal a b j (wider j j agree (λ k l m. absurd (omega arith)))
