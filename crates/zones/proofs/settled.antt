-- Comparisons that can be left out of a reduction, and the zones of which they can: settled ones, and those with column 0 raised.
pub mod Settled
pub mod Columns
pub mod Settling
pub mod Raising
