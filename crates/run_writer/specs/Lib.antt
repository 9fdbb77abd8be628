-- The run that is written: how it is found, what the call answers and leaves, what holds of it, and what the walk over the slots asks.
pub mod Crossing
pub mod Writing
pub mod Told
pub mod Branch
pub mod Examples
pub mod Jumps
pub mod Walks
