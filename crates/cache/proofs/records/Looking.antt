-- What a lookup finds when one record more stands at the end.
-- Assumes nothing.
use Prim.Native.Nat.{ℕ}
use mathlib.Core.Bool.{true, false, cond}
use mathlib.Core.List.{List, [], ◌∷◌, ◌++◌}
use mathlib.Core.Path.{◌≡◌, refl}
use native.Mathlib.Omega.{arith}
use Rattle.std.proofs.lemmas.Grind.{common_steps}
use Rattle.encoding.specs.Bytes.{same_bytes}
use Rattle.encoding.proofs.Equality.{same_equal, equal_same}
use Rattle.cache.specs.declared.layout.Layout.{Layout}
use Rattle.cache.specs.Records.{record_automaton, sound_record}
use Rattle.cache.specs.Lookups.{look_up, is_absent}
use Rattle.cache.specs.Caches.{all_sound, distinct}

miss_both : (a b : List ℕ) → same_bytes a b ≡ false → same_bytes b a ≡ false
miss_both a b e = grind (arith, common_steps, same_equal b a, equal_same a)

module _ (L : Layout) where
  -- ---- the first one counts
  abbrev First : List (List ℕ) → List ℕ → List ℕ → Type 0
  First rs r b = look_up L (rs ++ (r ∷ [])) b ≡ cond (is_absent (look_up L rs b)) (look_up L (r ∷ []) b) (look_up L rs b)

  pub look_append : (rs : List (List ℕ)) (r b : List ℕ) → First rs r b
  unfolding look_up
  look_append [] r b = refl
  look_append (x ∷ rs) r b = grind (arith, common_steps, look_append rs r b)

  -- ---- so a new automaton at the end leaves the records distinct
  absent_append : (rs : List (List ℕ)) (r b : List ℕ) → is_absent (look_up L rs b) ≡ true → same_bytes (record_automaton L r) b ≡ false
      → is_absent (look_up L (rs ++ (r ∷ [])) b) ≡ true
  unfolding look_up
  absent_append rs r b h e = grind (arith, common_steps, look_append rs r b)

  pub distinct_append : (rs : List (List ℕ)) (r : List ℕ) → distinct L rs ≡ true → is_absent (look_up L rs (record_automaton L r)) ≡ true
      → distinct L (rs ++ (r ∷ [])) ≡ true
  unfolding distinct look_up
  distinct_append [] r h g = refl
  distinct_append (x ∷ rs) r h g =
      let differ = miss_both (record_automaton L x) (record_automaton L r) in
      grind (arith, common_steps, absent_append rs r (record_automaton L x), distinct_append rs r, differ)

  pub sound-append : (rs : List (List ℕ)) (r : List ℕ) → all_sound L rs ≡ true → sound_record L r ≡ true → all_sound L (rs ++ (r ∷ [])) ≡ true
  unfolding all_sound
  sound-append [] r h g = rw g
  sound-append (x ∷ rs) r h g = grind (arith, common_steps, sound-append rs r)
