-- What is proved of the search over any zones.
pub mod Lists
pub mod Paths
pub mod Judged
pub mod Later
pub mod Keeps
pub mod Inherits
pub mod Shaped
pub mod Cover
pub mod Same
pub mod Reached
pub mod Robust
pub mod Branches
pub mod Witnesses
pub mod Capacity
pub mod Accounts
pub mod Examples
pub mod Graphs
