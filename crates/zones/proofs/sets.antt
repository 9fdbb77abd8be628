-- Zones as sets of valuations: each operation, in both inclusions.
pub mod Squares
pub mod Lowering
pub mod Diagonals
pub mod Steps
pub mod Meeting
pub mod Closing
pub mod Moving
pub mod Entering
pub mod Starts
