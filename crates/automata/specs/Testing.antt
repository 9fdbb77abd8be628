-- A function that tests the limits of one clock.
use Rattle.std.specs.Prelude.{Bool, ◌≡◌}
use Rattle.automata.specs.Refusals.{out_of_range}
use Rattle.automata.specs.declared.fields.Limits.{Limits}

-- it answers whether they are out of range, as of an invariant or of a guard
abbrev pub TestsRange : Bool → (Limits → Bool → Type 0) → Type 0
TestsRange mayLack post = (l : Limits) (b : Bool) → post l b → b ≡ out_of_range mayLack l.lo l.hi
