-- The examples of the writer, computed from the definitions.
-- Assumes nothing.
use mathlib.Core.Path.{refl}
use Rattle.encoding.specs.Numbers.{be16_at, be32_at, be16, be32}
use Rattle.encoding.specs.Placing.{placed}
use Rattle.order.specs.Edges.{bytes_less, insert_edge, sorted}
use Rattle.order.specs.Laid.{edge_bytes, edges_from, joined}
use Rattle.automata.specs.Automata.{invariant_in, edge_in}
use Rattle.automata.specs.Refusals.{some, out_of_range_at, refusal_of}
use Rattle.automata.specs.Canonical.{canonical_of}
use Rattle.canonical.specs.Writing.{form_refusal, form_answer, form_buffer}
use Rattle.canonical.specs.Examples.{Shown}

pub shown : Shown
unfolding be16_at be32_at be16 be32 placed
    bytes_less insert_edge sorted edge_bytes edges_from joined invariant_in edge_in some out_of_range_at refusal_of canonical_of
    form_refusal form_answer form_buffer
shown = record { short = refl; untouched = refl; enough = refl; whole = refl; more = refl; past = refl; turned_down = refl }
