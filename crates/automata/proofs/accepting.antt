-- What holds of an automaton to which no refusal applies, and the numbers of the refusals.
pub mod Some
pub mod Accepting
pub mod Numbering
