-- The documents' lines, computed from the definition.
-- Assumes nothing.
use mathlib.Core.Path.{refl}
use Rattle.robustness.specs.Lines.{digits_of, decimal, holding_text, verdict_text, findings_text, line_of}
use Rattle.robustness.specs.Examples.{AllRight, examples}

pub all_right : AllRight examples
unfolding digits_of decimal holding_text verdict_text findings_text line_of
all_right = (refl, (refl, (refl, (refl, (refl, (refl, tt))))))
