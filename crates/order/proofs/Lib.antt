-- The order's laws, lists that rise, insertion and sorting, numbers of edges in two lists, and edges as they lie.
pub mod Order
pub mod Rising
pub mod Inserting
pub mod Sorted
pub mod Splitting
pub mod Places
pub mod Laid
pub mod Examples
