-- An answer told in numbers.
pub mod Telling
