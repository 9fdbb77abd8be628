-- The laws of a step back.
pub mod Parts
pub mod Turns
pub mod Valuations
pub mod Sizes
pub mod Waiting
pub mod Resetting
pub mod Between
pub mod Steps
pub mod Examples
