-- A header, then the records; and which caches are sound, in any layout L.
use Rattle.std.specs.Prelude.{ℕ, zero, suc, ◌+◌, ◌-◌, Bool, true, false, cond, ◌&&◌, List, [], ◌∷◌, leb, eqb, length, get_or, take, drop}
use Rattle.encoding.specs.Numbers.{be32_at}
use Rattle.cache.specs.declared.layout.Layout.{Layout}
use Rattle.cache.specs.Layouts.{header_length, version_at}
use Rattle.cache.specs.Versions.{version1}
use Rattle.cache.specs.Records.{measured, sound_record, record_automaton}
use Rattle.cache.specs.Lookups.{look_up, is_absent}

abbrev pub used_of : List ℕ → ℕ
used_of c = be32_at c 0

abbrev pub version_of : List ℕ → ℕ
version_of c = get_or c version_at 0

-- ---- the records, one after another, up to where none begins
unfoldable pub split : Layout → ℕ → List ℕ → List (List ℕ)
split L zero s = []
split L (suc left) s = elim (measured L s) [ zero ↦ [] | suc k ↦ take (suc k) s ∷ split L left (drop (suc k) s) ]

-- no record is empty: there are no more of them than bytes
unfoldable pub records_in : Layout → List ℕ → List (List ℕ)
records_in L s = split L (length s) s

-- the bytes that they fill
abbrev pub record_bytes : List ℕ → List ℕ
record_bytes c = take (used_of c - header_length) (drop header_length c)

abbrev pub records_of : Layout → List ℕ → List (List ℕ)
records_of L c = records_in L (record_bytes c)

-- ---- "Sound means"
unfoldable pub total : List (List ℕ) → ℕ
total [] = 0
total (r ∷ rs) = length r + total rs

unfoldable pub all_sound : Layout → List (List ℕ) → Bool
all_sound L [] = true
all_sound L (r ∷ rs) = cond (sound_record L r) (all_sound L rs) false

-- "records filling the used length exactly", each of them sound
unfoldable pub sound_records : Layout → List ℕ → Bool
sound_records L s = eqb (total (records_in L s)) (length s) && all_sound L (records_in L s)

-- "no card twice"
unfoldable pub distinct : Layout → List (List ℕ) → Bool
distinct L [] = true
distinct L (r ∷ rs) = cond (is_absent (look_up L rs (record_automaton L r))) (distinct L rs) false

-- "at least 5 bytes lent, used length from 5 to what is lent", and the version
unfoldable pub sound_header : Layout → List ℕ → Bool
sound_header L c =
    leb header_length (length c) && (leb header_length (used_of c) && (leb (used_of c) (length c) && eqb (version_of c) L.version))

unfoldable pub sound_as : Layout → List ℕ → Bool
sound_as L c = sound_header L c && (sound_records L (record_bytes c) && distinct L (records_of L c))

-- ---- "version 1"
abbrev pub sound : List ℕ → Bool
sound c = sound_as version1 c
