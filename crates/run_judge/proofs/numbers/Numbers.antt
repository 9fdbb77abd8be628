-- What is made of the numbers of a buffer.
-- Assumes nothing.
use Prim.Native.Nat.{ℕ, ◌+◌, ◌-◌, ◌≤◌, ◌<◌}
use mathlib.Core.List.{List, [], ◌∷◌}
use mathlib.Core.Logic.{⊎_elim}
use mathlib.Core.Path.{◌≡◌, refl, sym, ap, ◌∙◌}
use mathlib.Core.Bool.{Bool, true, false, cond}
use native.Mathlib.Omega.{arith}
use borrow.Author.Tests.{lt-ltb, le-ltb}
use denote.Ref.{Bor}
use lib.Dec.{ltb}
use lib.IntN.{ℤ, pos, negsuc, nat_abs}
use lib.ListN.{length, take, drop}
use lib.Seq.{slice}
use mir.Syntax.{w64}
use mir.Val.{SFits, to_z, of_z}
use mir.Facts.{to_z-of_z}
use Rattle.std.proofs.lemmas.List.{drop-take}
use Rattle.std.specs.Int.{FitsUnsignedBits}
use Rattle.std.specs.List.{slice_get}
use Rattle.std.specs.Option.{is_some, unwrap_or}
use Rattle.std.specs.Prelude.{⊤, Option, None, Some, MatchOption, Result, Ok, Err, OkIff}
use Rattle.std.specs.Result.{result_ok}
use Rattle.std.specs.Slice.{IsGetRangeResult}
use Rattle.runs.specs.Limits.{scale}
use Rattle.runs.proofs.Contradictions.{true_false}
use Rattle.run_judge.specs.Numbers.{capped, count_of, announced, Announced}

-- the natural that z is, if it is one
abbrev pub natural : ℤ → Option ℕ
natural (pos n) = Some n
natural (negsuc n) = None

-- the code's conversion makes it of z, which it holds as a word
pub natural_is : (z : ℤ) → SFits w64 z → {E : Type 0} (r : Result ℕ E) {o : Option ℕ} →
    OkIff r (FitsUnsignedBits 64 (to_z w64 (of_z w64 z))) (nat_abs (to_z w64 (of_z w64 z))) → o ≡ result_ok r → natural z ≡ o
natural_is z h r g f = rw f (go z h r (rw (to_z-of_z h) at g))
  where
    go : {E : Type 0} (y : ℤ) → SFits w64 y → (r : Result ℕ E) → OkIff r (FitsUnsignedBits 64 y) (nat_abs y) → natural y ≡ result_ok r
    go (pos x) s (Ok x') g = ap (λ (n : ℕ). Some n) (sym g.1)
    go (pos x) s (Err e) g = absurd (g (omega (arith, s.sfits)))
    go (negsuc x) s (Ok x') g = absurd g.0
    go (negsuc x) s (Err e) g = refl

pub is_natural : (z : ℤ) {n : ℕ} → natural z ≡ Some n → z ≡ pos n
is_natural (pos x) e = ap (λ (o : Option ℕ). pos (unwrap_or o x)) e
is_natural (negsuc x) e = true_false (sym (ap is_some e))

-- a natural as a count, where there are k numbers
abbrev pub up_to : ℕ → Option ℕ → ℕ
up_to k None = 0
up_to k (Some n) = cond (ltb k n) 0 n

-- ---- the count of a buffer
module _ (r : List ℤ) where
  pub announced_none : None ≡ slice_get r 0 → announced r ≡ 0
  unfolding count_of
  announced_none = go r
    where
      go : (r : List ℤ) → None ≡ slice_get r 0 → announced r ≡ 0
      go [] e = refl
      go (z ∷ zs) e = true_false (sym (ap is_some e))

  pub announced_up_to : {z : ℤ} → Some z ≡ slice_get r 0 → {o : Option ℕ} → natural z ≡ o → announced r ≡ up_to (length r) o
  unfolding count_of
  announced_up_to {z} f {o} g = go r f
    where
      counted : (z : ℤ) (k : ℕ) → natural z ≡ o → count_of z k ≡ up_to k o
      counted (pos n) k e = rw (← e) refl
      counted (negsuc n) k e = rw (← e) refl

      go : (r : List ℤ) → Some z ≡ slice_get r 0 → announced r ≡ up_to (length r) o
      go [] e = true_false (ap is_some e)
      go (x ∷ xs) e = ap (λ (p : Option ℤ). count_of (unwrap_or p x) (length (x ∷ xs))) (sym e) ∙ counted z (length (x ∷ xs)) g

  -- the part from 1 to n, where it is one
  pub announced_part : {n : ℕ} → announced r ≡ up_to (length r) (Some n) → (o : Option (Bor (List ℤ))) → IsGetRangeResult r 1 n o →
      MatchOption o (announced r ≡ 0) (λ zs. Announced r zs.now)
  announced_part {n} e None g = e ∙ ⊎_elim (low (ltb (length r) n)) high g.0
    where
      low : (t : Bool) → n < 1 → cond t 0 n ≡ 0
      low true h = refl
      low false h = omega (arith, h)

      high : length r < n → cond (ltb (length r) n) 0 n ≡ 0
      high h = rw (lt-ltb (length r) n h) refl
  announced_part {n} e (Some zs) g =
      let f : announced r ≡ n = rw (le-ltb (length r) n g.0.1) at e in
      let m : 1 + (n - 1) ≡ n = omega (arith, g.0.0) in
      let s : take (n - 1) (drop 1 r) ≡ slice 1 n r = rw m at (sym (drop-take 1 (n - 1) r)) in
      record { some = rw f g.0.0; numbers = rw f (g.0.2 ∙ s) }

-- ---- waits and edges
-- what is no natural below m is not capped below it
pub capped_beyond : (z : ℤ) (m : ℕ) → m ≤ scale + 1 → {o : Option ℕ} → natural z ≡ o → MatchOption o ⊤ (λ n. m ≤ n) → m ≤ capped z
unfolding capped
capped_beyond z m h e k = go z (rw e k)
  where
    small : (n : ℕ) (t : Bool) → m ≤ n → m ≤ cond t (scale + 1) n
    small n true l = h
    small n false l = l

    go : (z : ℤ) → MatchOption (natural z) ⊤ (λ n. m ≤ n) → m ≤ capped z
    go (pos n) l = small n (ltb scale n) l
    go (negsuc n) l = h

-- one that is not capped is itself
pub capped_fits : (z : ℤ) → capped z ≤ scale → z ≡ pos (capped z)
unfolding capped
capped_fits (pos n) h = go (ltb scale n) refl h
  where
    go : (t : Bool) → ltb scale n ≡ t → cond t 1000001 n ≤ scale → pos n ≡ pos (cond t 1000001 n)
    go true e k = absurd (omega arith)
    go false e k = refl
capped_fits (negsuc n) h = absurd (omega arith)

pub capped_same : (n : ℕ) → n ≤ scale → capped (pos n) ≡ n
unfolding capped
capped_same n h = rw (le-ltb scale n h)

pub capped_natural : (z : ℤ) {n : ℕ} → natural z ≡ Some n → n ≤ scale → capped z ≡ n
capped_natural z e h = rw (is_natural z e) (capped_same _ h)

pub count_same : (n k : ℕ) → n ≤ k → count_of (pos n) k ≡ n
unfolding count_of
count_same n k h = rw (le-ltb k n h)
