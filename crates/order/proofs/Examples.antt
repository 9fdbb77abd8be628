-- The examples of the order, computed from the definitions.
-- Assumes nothing.
use mathlib.Core.Path.{refl}
use Rattle.order.specs.Edges.{bytes_less, rising, insert_edge, sorted}
use Rattle.order.specs.Places.{place_in, number_in}
use Rattle.order.specs.Laid.{edge_bytes, edges_from, joined}
use Rattle.order.specs.Examples.{Shown}

pub shown : Shown
unfolding bytes_less rising insert_edge sorted place_in number_in edge_bytes edges_from joined
shown = record { less = refl; equal = refl; order = refl; drawn = refl; rises = refl; twice = refl; there = refl; back = refl; laid = refl }
