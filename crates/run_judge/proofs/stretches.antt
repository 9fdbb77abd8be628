-- The judging in stretches.
pub mod Following
pub mod Stretches
pub mod Ending
