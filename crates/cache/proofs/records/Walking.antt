-- The turns of the walks over records: what is said of bytes s, by the record that they begin with and by the rest of them.
-- Assumes nothing.
use Prim.Native.Nat.{ℕ, ◌+◌, ◌<◌}
use mathlib.Core.Bool.{Bool, true, false, cond, ◌&&◌}
use mathlib.Core.List.{List, ◌∷◌}
use mathlib.Core.Path.{◌≡◌, refl}
use lib.Dec.{eqb}
use lib.ListN.{length, take, drop, length-drop}
use lib.Seq.{length-take-le}
use native.Mathlib.Omega.{arith}
use Rattle.std.proofs.lemmas.Grind.{common_steps}
use Rattle.encoding.specs.Bytes.{same_bytes}
use Rattle.cache.specs.declared.layout.Layout.{Layout}
use Rattle.std.specs.Prelude.{Some, None}
use Rattle.cache.specs.Records.{measured, sound_record, filed_as, record_automaton}
use Rattle.cache.specs.Lookups.{look_up, neither_filed, both_new}
use Rattle.cache.specs.Caches.{records_in, total, all_sound, sound_records, distinct}
use Rattle.cache.proofs.layouts.Measured.{measured-le}
use Rattle.cache.proofs.records.Splitting.{records_none, records_more}

-- ---- of any list of records
sound_more : (n a b : ℕ) (s x : Bool) → (eqb (n + a) (n + b) && cond s x false) ≡ cond s (eqb a b && x) false
sound_more n a b s x = grind (arith, common_steps)

neither_more : (L : Layout) (r : List ℕ) (rs : List (List ℕ)) (a b : List ℕ) → neither_filed L (r ∷ rs) a b
    ≡ cond (same_bytes (record_automaton L r) a) false (cond (same_bytes (record_automaton L r) b) false (neither_filed L rs a b))
unfolding look_up
neither_more L r rs a b = grind (arith, common_steps)

two_more : (L : Layout) (r r' : List ℕ) (rs : List (List ℕ))
    → distinct L (r ∷ r' ∷ rs) ≡ cond (both_new L rs (record_automaton L r) (record_automaton L r')) (distinct L rs) false
unfolding distinct look_up
two_more L r r' rs = grind (arith, common_steps)

-- ---- the record that s begins with, and the rest
module _ (L : Layout) (s : List ℕ) where
  abbrev first : List ℕ
  first = take (measured L s) s

  abbrev rest : List ℕ
  rest = drop (measured L s) s

  module _ (h : 0 < measured L s) where
    pub look_turn : (b : List ℕ) → look_up L (records_in L s) b
        ≡ cond (same_bytes (record_automaton L first) b) (Some (filed_as L first)) (look_up L (records_in L rest) b)
    unfolding look_up
    look_turn b = grind (arith, records_more L s h)

    pub neither_turn : (a b : List ℕ) → neither_filed L (records_in L s) a b
        ≡ cond (same_bytes (record_automaton L first) a) false
        (cond (same_bytes (record_automaton L first) b) false (neither_filed L (records_in L rest) a b))
    neither_turn a b = rw (records_more L s h) (neither_more L first (records_in L rest) a b)

    pub sound_turn : sound_records L s ≡ cond (sound_record L first) (sound_records L rest) false
    unfolding sound_records total all_sound
    sound_turn =
        let e : length s ≡ measured L s + length rest = omega (arith, length-drop (measured L s) s, measured-le L s) in
        rw (sound_records, records_more L s h, length-take-le (measured L s) s (measured-le L s), e)
        (sound_more (measured L s) (total (records_in L rest)) (length rest) (sound_record L first) (all_sound L (records_in L rest)))

  -- none there: nothing is filed, and s is sound where it is empty
  module _ (e : measured L s ≡ 0) where
    pub look_end : (b : List ℕ) → look_up L (records_in L s) b ≡ None
    unfolding look_up
    look_end b = rw (records_none L s e) refl

    pub neither_end : (a b : List ℕ) → neither_filed L (records_in L s) a b ≡ true
    unfolding look_up
    neither_end a b = rw (records_none L s e) refl

    pub distinct_end : distinct L (records_in L s) ≡ true
    unfolding distinct
    distinct_end = rw (records_none L s e) refl

    pub sound_end : sound_records L s ≡ eqb 0 (length s)
    unfolding sound_records total all_sound
    sound_end = grind (arith, common_steps, records_none L s e)

-- ---- one record that s begins with, and no other
pub distinct_last : (L : Layout) (s : List ℕ) → 0 < measured L s → measured L (rest L s) ≡ 0 → distinct L (records_in L s) ≡ true
unfolding distinct look_up
distinct_last L s h e = rw (records_more L s h, records_none L (rest L s) e) refl

-- ---- two records that s begins with, and the rest
module _ (L : Layout) (s : List ℕ) (h : 0 < measured L s) (g : 0 < measured L (rest L s)) where
  pub distinct_turn : distinct L (records_in L s)
      ≡ cond (both_new L (records_in L (rest L (rest L s))) (record_automaton L (first L s)) (record_automaton L (first L (rest L s))))
      (distinct L (records_in L (rest L (rest L s)))) false
  distinct_turn = rw (records_more L s h, records_more L (rest L s) g) (two_more L _ _ _)
