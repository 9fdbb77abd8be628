-- A step back as the code tells it.
use Rattle.witness.specs.declared.Back.{Back}
use Rattle.witness.specs.Witnesses.{StepBack}

abbrev pub step_of : Back → StepBack
step_of r = record { wait = r.wait; valuation = r.valuation.clocks }
