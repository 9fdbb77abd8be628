-- The search of document 01 over any zones, what zones mean, the laws that its theorems rest on, and examples.
pub mod Search
pub mod Meaning
pub mod Laws
pub mod Branches
pub mod Witnesses
pub mod Accounts
pub mod Examples
pub mod Graphs
