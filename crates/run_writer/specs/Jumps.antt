-- A jump: the zone that it leaves on its way along the edge, the step back over it, and a state in which it arrives.
use Rattle.std.specs.Prelude.{ℕ, List}
use Rattle.witness.specs.declared.Crossing.{Crossing}
use Rattle.witness.specs.Witnesses.{StepBack}
use Rattle.zones.specs.declared.pair.Pair.{Pair}
use Rattle.zones.specs.declared.reduction.Reduced.{Reduced}
use Rattle.run_writer.specs.declared.crossing.Jump.{Jump}
use Rattle.run_writer.specs.Crossing.{Crossed, zone_in, guarded_by, back_along, landing_along}

abbrev pub zone_left : Jump → List Pair
zone_left j = zone_in j.automaton.bytes.now j.slot.now

abbrev pub guarded_over : Jump → Reduced
guarded_over j = guarded_by j.automaton.bytes.now j.edge (zone_left j)

abbrev pub CrossedOver : Jump → Crossing → Type 0
CrossedOver j x = Crossed j.automaton.bytes.now j.edge (zone_left j) x

abbrev pub back_over : Jump → List ℕ → StepBack
back_over j v = back_along j.automaton.bytes.now j.edge (zone_left j) v

abbrev pub landing_over : Jump → List ℕ
landing_over j = landing_along j.automaton.bytes.now j.edge (zone_left j)
