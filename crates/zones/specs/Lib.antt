-- Document 01, "Pairs and zones": first what is computed, then what it means, then how large it gets.
pub mod Pairs
pub mod Fractions
pub mod Zones
pub mod Reductions
pub mod Successors
pub mod Containment
pub mod InTurn
pub mod Values
pub mod Sets
pub mod Moves
pub mod Ranges
pub mod Integers
pub mod Settled
pub mod Examples
