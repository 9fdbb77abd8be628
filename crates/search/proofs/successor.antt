-- A step of a zone, as the code takes it.
pub mod Stepping
