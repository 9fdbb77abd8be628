-- Where the fields stand, and what is fetched of them.
pub mod Places
pub mod Resets
pub mod Counting
