-- The example of two offices, computed from the definitions.
-- Assumes nothing.
use mathlib.Core.Path.{refl}
use Rattle.encoding.specs.Numbers.{be16_at, be32_at, be16, be32}
use Rattle.order.specs.Edges.{bytes_less, rising, insert_edge, sorted}
use Rattle.order.specs.Laid.{edge_bytes, edges_from, joined}
use Rattle.order.specs.Places.{place_in, number_in}
use Rattle.automata.specs.Automata.{invariant_in, edge_in}
use Rattle.automata.specs.Refusals.{some, out_of_range_at, refusal_of}
use Rattle.automata.specs.Canonical.{in_order, canonical_of}
use Rattle.automata.specs.Examples.{Shown}

pub shown : Shown
unfolding be16_at be32_at be16 be32 invariant_in edge_in some out_of_range_at refusal_of
    bytes_less rising insert_edge sorted edge_bytes edges_from joined place_in number_in in_order canonical_of
shown = record {
  north_free = refl;
  south_free = refl;
  north_form = refl;
  south_form = refl;
  again = refl;
  falls = refl;
  repeats = refl;
  rises = refl;
  there = refl;
  twice = refl;
  home = refl;
}
