-- Worked examples: the two offices of `automata`, written into buffers of one byte too few, just enough, and more.
use Rattle.std.specs.Prelude.{ℕ, List, ◌∷◌, ◌++◌, ◌≡◌, replicate, Ok, Err}
use Rattle.automata.specs.Examples.{north, south, one}
use Rattle.automata.specs.declared.refusals.Refusal.TheVariants.{OtherLength, FormTooLong}
use Rattle.canonical.specs.Writing.{form_answer, form_buffer}

-- a buffer of so many bytes
abbrev pub blank : ℕ → List ℕ
blank n = replicate n 9

pub record Shown : Type 0 where
  -- "13, buffer too short for the ordered card": 49 bytes, repeats dropped; "buffer untouched"
  pub short : form_answer south 48 ≡ Err FormTooLong
  pub untouched : form_buffer south (blank 48) ≡ blank 48
  -- of south, 60 bytes as drawn, 49 are enough
  pub enough : form_answer south 49 ≡ Ok 49
  pub whole : form_buffer south (blank 49) ≡ one
  -- "Bytes past it are unchanged"
  pub more : form_answer north 60 ≡ Ok 49
  pub past : form_buffer north (blank 60) ≡ one ++ blank 11
  -- 1 to 8 come first, whatever the buffer: with a byte more in front north is turned down by 2
  pub turned_down : form_answer (0 ∷ north) 0 ≡ Err OtherLength
