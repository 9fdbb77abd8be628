-- The step back through zones: what is computed, how large it gets, and what it means.
pub mod Witnesses
pub mod Sizes
pub mod Told
pub mod Laws
pub mod Examples
