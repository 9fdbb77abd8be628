-- Where everything stands in a cache: its header, and the fields of a record.
use Rattle.std.specs.Prelude.{ℕ, ◌+◌, ◌≡◌}
use Rattle.cache.specs.declared.layout.Layout.{Layout}

-- ---- "Header: 4 bytes used length, header included; version"
abbrev pub version_at : ℕ
version_at = 4

abbrev pub header_length : ℕ
header_length = 5

-- the largest length that four bytes say
abbrev pub longest : ℕ
longest = 4294967295

-- ---- what all proofs know of a layout: each field stands right behind the one before, the first behind the four bytes of the record's length
pub record Laid (L : Layout) : Type 0 where
  pub kind_at : L.kind ≡ 4
  pub n_at : L.n ≡ L.kind + 1
  pub d_at : L.d ≡ L.n + 4
  pub zones_at : L.zones ≡ L.d + 4
  pub head_ends : L.head ≡ L.zones + 4
