-- A walk over records: what it has left, and what a turn takes of it.
use Rattle.std.specs.Prelude.{ℕ, true, List, [], ◌∷◌, ◌++◌, ◌≡◌, MatchOption, Option}
use Rattle.cache.specs.declared.layout.Layout.{Layout}
use Rattle.cache.specs.declared.record.Record.{Record}
use Rattle.cache.specs.declared.records.Records.{Records}
use Rattle.cache.specs.Caches.{records_in, record_bytes, sound_as}

abbrev pub left : Records → List (List ℕ)
left w = records_in w.layout w.bytes.now

-- the first record, and then the rest
pub record Takes (w : Records) (r : Record) (rest : Records) : Type 0 where
  pub layout : r.layout ≡ w.layout
  pub rest_layout : rest.layout ≡ w.layout
  pub bytes : w.bytes.now ≡ r.bytes.now ++ rest.bytes.now
  pub records : left w ≡ r.bytes.now ∷ left rest

-- a turn takes a record, or none where none is left
abbrev pub Walks : Records → Option Record → Records → Type 0
Walks w r rest = MatchOption r ((left w ≡ []) × (rest ≡ w)) (λ x. Takes w x rest)

-- the records of a sound cache c
pub record Opened (L : Layout) (c : List ℕ) (w : Records) : Type 0 where
  pub sound : sound_as L c ≡ true
  pub layout : w.layout ≡ L
  pub bytes : w.bytes.now ≡ record_bytes c
