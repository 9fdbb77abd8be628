-- The walk over the branch: from slot to slot, what a turn of it asks and leaves, and the buffer that is filled.
pub mod Walking
pub mod Stepping
pub mod Filling
