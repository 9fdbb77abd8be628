-- A wait and a jump: the ways out of each, and what they leave.
pub mod Moving
pub mod Readying
