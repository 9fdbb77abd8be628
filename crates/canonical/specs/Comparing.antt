-- Two strings of bytes compared from byte k on.
use Rattle.std.specs.Prelude.{ℕ, Bool, List, drop}
use Rattle.order.specs.Edges.{bytes_less}

abbrev pub less_from : (s t : List ℕ) (k : ℕ) → Bool
less_from s t k = bytes_less (drop k s) (drop k t)
