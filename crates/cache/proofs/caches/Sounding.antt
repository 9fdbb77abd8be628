-- A sound cache: its tests as facts, and back.
-- Assumes nothing.
use Prim.Native.Nat.{ℕ, ◌≤◌}
use mathlib.Core.Bool.{true}
use mathlib.Core.List.{List}
use mathlib.Core.Path.{◌≡◌}
use lib.ListN.{length}
use native.Mathlib.Omega.{arith}
use Rattle.std.proofs.lemmas.Grind.{common_steps}
use Rattle.cache.specs.declared.layout.Layout.{Layout}
use Rattle.cache.specs.Layouts.{header_length}
use Rattle.cache.specs.Caches.{used_of, version_of, record_bytes, records_in, total, all_sound, sound_records, distinct, sound_header}
use Rattle.cache.specs.Caches.{sound_as}

-- the records that fill bytes s are sound and distinct
pub record Fine (L : Layout) (s : List ℕ) : Type 0 where
  pub filled : total (records_in L s) ≡ length s
  pub each : all_sound L (records_in L s) ≡ true
  pub once : distinct L (records_in L s) ≡ true

pub record Sound (L : Layout) (c : List ℕ) : Type 0 where
  pub lent : header_length ≤ length c
  pub least : header_length ≤ used_of c
  pub most : used_of c ≤ length c
  pub version : version_of c ≡ L.version
  pub fine : Fine L (record_bytes c)

module _ (L : Layout) (c : List ℕ) where
  pub sound_facts : sound_as L c ≡ true → Sound L c
  unfolding sound_as sound_header sound_records
  sound_facts e = grind (arith, common_steps)

  pub facts_sound : Sound L c → sound_as L c ≡ true
  unfolding sound_as sound_header sound_records
  facts_sound s = grind (arith, common_steps)
