-- The records in a string of bytes, one after another, in any layout: the laws of the definition, which stays shut elsewhere.
-- Assumes nothing.
use Prim.Native.Nat.{ℕ, zero, suc, ◌+◌, ◌≤◌, ◌<◌}
use mathlib.Core.List.{List, [], ◌∷◌, ◌++◌}
use mathlib.Core.Logic.{⊎_elim}
use mathlib.Core.Path.{◌≡◌, refl, sym, ap, ◌∙◌}
use lib.ListN.{length, take, drop, length-drop}
use lib.Seq.{length-take-le, take-length, drop-length, take-append-le, drop-append-le}
use native.Mathlib.Nat.{eq-zero-or-pos}
use native.Mathlib.Omega.{arith}
use Rattle.std.proofs.lemmas.Grind.{common_steps}
use Rattle.cache.specs.declared.layout.Layout.{Layout}
use Rattle.cache.specs.Layouts.{Laid}
use Rattle.cache.specs.Records.{measured, Begins}
use Rattle.cache.specs.Caches.{split, records_in, total}
use Rattle.cache.proofs.layouts.Measured.{measured-le, measured-append}

module _ (L : Layout) where
  -- ---- fuel beyond the length alters nothing
  split_none : (left : ℕ) (s : List ℕ) → measured L s ≡ 0 → split L left s ≡ []
  unfolding split
  split_none left s e = grind (arith, common_steps)

  split_more : (left : ℕ) (s : List ℕ) → 0 < measured L s → split L (suc left) s ≡ take (measured L s) s ∷ split L left (drop (measured L s) s)
  unfolding split
  split_more left s h = grind (arith, common_steps)

  split_same : (left left' : ℕ) (s : List ℕ) → length s ≤ left → length s ≤ left' → split L left s ≡ split L left' s
  split_same zero left' s h h' = let z = measured-le L s in split_none zero s (omega arith) ∙ sym (split_none left' s (omega arith))
  split_same (suc left) zero s h h' = let z = measured-le L s in split_none (suc left) s (omega arith) ∙ sym (split_none zero s (omega arith))
  split_same (suc left) (suc left') s h h' = ⊎_elim
      (λ e. split_none (suc left) s e ∙ sym (split_none (suc left') s e))
      (λ p.
      let d = length-drop (measured L s) s in
      let rest = split_same left left' (drop (measured L s) s) (omega arith) (omega arith) in
      split_more left s p ∙ ap (λ (rs : List (List ℕ)). take (measured L s) s ∷ rs) rest ∙ sym (split_more left' s p))
      (eq-zero-or-pos (measured L s))

  -- ---- none, or one and the rest
  pub records_none : (s : List ℕ) → measured L s ≡ 0 → records_in L s ≡ []
  unfolding records_in
  records_none s = split_none (length s) s

  pub no_records : records_in L [] ≡ []
  no_records = records_none [] (omega (arith, measured-le L []))

  pub records_more : (s : List ℕ) → 0 < measured L s → records_in L s ≡ take (measured L s) s ∷ records_in L (drop (measured L s) s)
  unfolding records_in
  records_more s h =
      let rest = drop (measured L s) s in
      let d = length-drop (measured L s) s in
      split_same (length s) (suc (length s)) s (omega arith) (omega arith) ∙ split_more (length s) s h
      ∙ ap (λ (rs : List (List ℕ)). take (measured L s) s ∷ rs) (split_same (length s) (length rest) rest (omega arith) (omega arith))

  pub records_begun : Laid L → (s : List ℕ) {n : ℕ} → Begins L s n → {r rest : List ℕ} → r ≡ take n s → rest ≡ drop n s
      → records_in L s ≡ r ∷ records_in L rest
  records_begun laid s b e f =
      rw (e, f, ← b.is) (records_more s (omega (arith, b.is, b.least, laid)))

  total_more : (s : List ℕ) → 0 < measured L s → total (records_in L s) ≡ measured L s + total (records_in L (drop (measured L s) s))
  unfolding total
  total_more s h =
      ap total (records_more s h)
      ∙ ap (λ (n : ℕ). n + total (records_in L (drop (measured L s) s))) (length-take-le (measured L s) s (measured-le L s))

-- ---- one more at the end: of bytes that records fill
module _ {L : Layout} (laid : Laid L) (r : List ℕ) (e : measured L r ≡ length r) (h : 0 < length r) where
  records_one : records_in L r ≡ r ∷ []
  records_one = grind (arith, common_steps, records_more L r, no_records L, take-length r, drop-length r)

  empty : (s : List ℕ) → length s ≡ 0 → s ≡ []
  empty [] z = refl
  empty (x ∷ s) z = absurd (omega arith)

  append_none : (s : List ℕ) → measured L s ≡ 0 → total (records_in L s) ≡ length s → records_in L (s ++ r) ≡ records_in L s ++ (r ∷ [])
  unfolding total
  append_none s z t = grind (arith, common_steps, records_none L s z, empty s, records_one)

  append_more : (s : List ℕ) → 0 < measured L s → records_in L (drop (measured L s) s ++ r) ≡ records_in L (drop (measured L s) s) ++ (r ∷ [])
      → records_in L (s ++ r) ≡ records_in L s ++ (r ∷ [])
  append_more s p rest =
      let k = measured-append laid s r p in
      let most = measured-le L s in
      grind (
        arith,
        common_steps,
        k,
        records_more L (s ++ r),
        take-append-le (measured L s) s r most,
        drop-append-le (measured L s) s r most,
        rest,
        records_more L s p,
      )

  append-within : (left : ℕ) (s : List ℕ) → length s ≤ left → total (records_in L s) ≡ length s → records_in L (s ++ r) ≡ records_in L s ++ (r ∷ [])
  append-within zero s l t = append_none s (omega (arith, measured-le L s)) t
  append-within (suc left) s l t = ⊎_elim
      (λ z. append_none s z t)
      (λ p.
      let d = length-drop (measured L s) s in
      append_more s p (append-within left (drop (measured L s) s) (omega arith) (omega (arith, total_more L s p, measured-le L s))))
      (eq-zero-or-pos (measured L s))

  pub records_append : (s : List ℕ) → total (records_in L s) ≡ length s → records_in L (s ++ r) ≡ records_in L s ++ (r ∷ [])
  records_append s = append-within (length s) s (omega arith)

pub total-append : (rs : List (List ℕ)) (r : List ℕ) → total (rs ++ (r ∷ [])) ≡ total rs + length r
unfolding total
total-append [] r = omega arith
total-append (x ∷ rs) r = omega (arith, total-append rs r)
