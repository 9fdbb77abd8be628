-- The parts of a form, written one after another.
pub mod Front
pub mod Listed
pub mod Parts
