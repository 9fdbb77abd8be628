-- The turns of the loops that list edges in order, each a law about lists.
pub mod Placing
pub mod Inserting
pub mod Ordering
