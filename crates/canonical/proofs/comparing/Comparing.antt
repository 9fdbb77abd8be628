-- Two strings compared byte by byte, or four bytes at a time as one number: what is left decides as the whole does.
-- Assumes nothing.
use Prim.Native.Nat.{ℕ, ◌+◌, ◌*◌, ◌/◌, ◌<◌, ◌≤◌}
use mathlib.Core.Bool.{true, false}
use mathlib.Core.List.{List}
use mathlib.Core.Path.{◌≡◌, refl, sym, ap, ◌∙◌}
use borrow.Author.Tests.{lt-ltb, le-ltb}
use lib.Dec.{ltb}
use lib.ListN.{length, get_or}
use lib.Seq.{drop-cons}
use native.Mathlib.Numerals.{add-one}
use native.Mathlib.Nat.{suc-mul, mul-le-mul_right}
use native.Mathlib.Omega.{arith}
use Rattle.std.proofs.Common.{Fits, w8}
use Rattle.std.proofs.lemmas.List.{drop_all}
use Rattle.encoding.specs.Bytes.{Two, Four}
use Rattle.encoding.specs.Numbers.{be16_at, be32_at}
use Rattle.order.specs.Edges.{bytes_less}
use Rattle.order.proofs.Order.{head-less, head_more, head_same, Numbers, less, same, more, numbers}
use Rattle.canonical.specs.Comparing.{less_from}

-- ---- byte by byte
module _ (s t : List ℕ) (k : ℕ) (p : k < length s) (q : k < length t) where
  pub rest-less : get_or s k 0 < get_or t k 0 → less_from s t k ≡ true
  rest-less l = rw (drop-cons s k 0, drop-cons t k 0) (head-less _ _ _ _ l)

  pub rest_more : get_or t k 0 < get_or s k 0 → less_from s t k ≡ false
  rest_more l = rw (drop-cons s k 0, drop-cons t k 0) (head_more _ _ _ _ l)

  pub rest_next : get_or s k 0 ≡ get_or t k 0 → less_from s t k ≡ less_from s t (k + 1)
  rest_next l = rw (add-one k, drop-cons s k 0, drop-cons t k 0) (head_same _ _ _ _ l)

pub rest_none : (s t : List ℕ) (k : ℕ) → length s ≤ k → length t ≤ k → less_from s t k ≡ false
unfolding bytes_less
rest_none s t k p q = rw (drop_all k s p, drop_all k t q) refl

-- ---- several bytes as one number
-- the first bytes that are left, read as x and y, decide, or leave it to those from k + n on
pub data Decided (s t : List ℕ) (k n x y : ℕ) : Type 0 where
  lower : less_from s t k ≡ true → x < y → Decided s t k n x y
  higher : less_from s t k ≡ false → y < x → Decided s t k n x y
  alike : less_from s t k ≡ less_from s t (k + n) → x ≡ y → Decided s t k n x y

-- two parts, of which the second counts less than any difference of the first
joins : (s t : List ℕ) (k m n base : ℕ) {x y z w : ℕ} → z < base → w < base → Decided s t k m x y → Decided s t (k + m) n z w
    → Decided s t k (m + n) (x * base + z) (y * base + w)
joins s t k m n base {x} {y} f g (lower r l) d = lower r (omega (arith, mul-le-mul_right base l, suc-mul x base))
joins s t k m n base {x} {y} f g (higher r l) d = higher r (omega (arith, mul-le-mul_right base l, suc-mul y base))
joins s t k m n base f g (alike r e) (lower q l) = lower (r ∙ q) (omega (arith, ap (λ (j : ℕ). j * base) e))
joins s t k m n base f g (alike r e) (higher q l) = higher (r ∙ q) (omega (arith, ap (λ (j : ℕ). j * base) e))
joins s t k m n base f g (alike r e) (alike q l) =
    let far : k + m + n ≡ k + (m + n) = omega arith in
    alike (r ∙ q ∙ ap (less_from s t) far) (omega (arith, ap (λ (j : ℕ). j * base) e))

module _ (s t : List ℕ) (k n : ℕ) {x y : ℕ} where
  -- they say which is less where they differ
  pub decides : Decided s t k n x y → (x ≡ y → ⊥) → ltb x y ≡ less_from s t k
  decides (lower r l) d = lt-ltb x y l ∙ sym r
  decides (higher r l) d = le-ltb x y (omega arith) ∙ sym r
  decides (alike r e) d = absurd (d e)

  pub passes : Decided s t k n x y → x ≡ y → less_from s t (k + n) ≡ less_from s t k
  passes (lower r l) e = absurd (omega arith)
  passes (higher r l) e = absurd (omega arith)
  passes (alike r l) e = sym r

small : (s : List ℕ) {i : ℕ} → Two s i → be16_at s i < 65536
unfolding be16_at
small s v = omega arith

module _ (s t : List ℕ) where
  -- one byte, two and four
  pub one : (k : ℕ) → k < length s → k < length t → Decided s t k 1 (get_or s k 0) (get_or t k 0)
  one k p q = go (numbers (get_or s k 0) (get_or t k 0))
    where
      go : Numbers (get_or s k 0) (get_or t k 0) → Decided s t k 1 (get_or s k 0) (get_or t k 0)
      go (less l) = lower (rest-less s t k p q l) l
      go (more l) = higher (rest_more s t k p q l) l
      go (same l) = alike (rest_next s t k p q l) l

  two : (k : ℕ) → k + 2 ≤ length s → k + 2 ≤ length t → Two s k → Two t k → Decided s t k 2 (be16_at s k) (be16_at t k)
  unfolding be16_at
  two k p q v w =
      joins s t k 1 1 256 v.second w.second (one k (omega arith) (omega arith)) (one (k + 1) (omega arith) (omega arith))

  four : (k : ℕ) → k + 4 ≤ length s → k + 4 ≤ length t → Four s k → Four t k → Decided s t k 4 (be32_at s k) (be32_at t k)
  unfolding be32_at
  four k p q v w =
      joins s t k 2 2 65536 (small s v.back) (small t w.back) (two k (omega arith) (omega arith) v.front w.front)
      (two (k + 2) (omega arith) (omega arith) v.back w.back)

  -- ---- by four bytes as one number
  module _ (k : ℕ) (p : k + 4 ≤ length s) (q : k + 4 ≤ length t) {x y : ℕ} (e : (x ≡ be32_at s k) × Four s k) (f : (y ≡ be32_at t k) × Four t k) where
    pub words : Decided s t k 4 x y
    words = rw (e.0, f.0) (four k p q e.1 f.1)

    pub words_less : x < y → true ≡ less_from s t k
    words_less m = sym (lt-ltb x y m) ∙ decides s t k 4 words (λ same. omega (arith, same))

    pub words_more : y < x → false ≡ less_from s t k
    words_more m = sym (le-ltb x y (omega arith)) ∙ decides s t k 4 words (λ same. omega (arith, same))

    pub words_same : x ≡ y → less_from s t (k + 4) ≡ less_from s t k
    words_same = passes s t k 4 words

-- a slice's type says that its elements are bytes
four_bytes : (s : List ℕ) → ((i : ℕ) → Fits w8 (get_or s i 0)) → (at : ℕ) → Four s at
four_bytes s h at =
    let two : (i : ℕ) → Two s i = λ i. record { first = (h i).fits; second = (h (i + 1)).fits } in
    record { front = two at; back = two (at + 2) }

-- the code's word i
module _ (s t : List ℕ) (f : (j : ℕ) → Fits w8 (get_or s j 0)) (g : (j : ℕ) → Fits w8 (get_or t j 0)) (i : ℕ) (p : i < length s / 4)
    (q : i < length t / 4) {x y : ℕ} (d : x ≡ be32_at s (4 * i)) (e : y ≡ be32_at t (4 * i)) where
  word : Decided s t (4 * i) 4 x y
  word = words s t (4 * i) (omega arith) (omega arith) (d, four_bytes s f _) (e, four_bytes t g _)

  pub word_decides : (x ≡ y → ⊥) → ltb x y ≡ less_from s t (4 * i)
  word_decides = decides s t (4 * i) 4 word

  pub word_passes : x ≡ y → less_from s t (4 * (i + 1)) ≡ less_from s t (4 * i)
  word_passes o = let k : 4 * (i + 1) ≡ 4 * i + 4 = omega arith in ap (less_from s t) k ∙ passes s t (4 * i) 4 word o

-- what the code's loops lack
pub ruleset compared = (word_decides, word_passes, decides, passes, one, rest_none)
