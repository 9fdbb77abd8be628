-- The layouts that there are, a value for each version.
use Rattle.cache.specs.declared.layout.Layout.{Layout}

-- "Record: 4 bytes record length (17 + card length), kind (0 reached, 1 holds), 4 bytes n, 4 bytes d, 4 bytes zone count, the card."
abbrev pub version1 : Layout
version1 = record { version = 1; kind = 4; n = 5; d = 9; zones = 13; head = 17 }
