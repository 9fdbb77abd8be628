-- A slot as one codec, and two slots compared on their numbers.
pub mod Slots
pub mod Containing
