-- Document 01's card: its fields, which number turns it down, what holds of one that none does, and its runs; an opened one; last, the form
-- in which each has one order of edges.
pub mod Automata
pub mod Refusals
pub mod Numbers
pub mod Accepted
pub mod Semantics
pub mod Opened
pub mod Canonical
pub mod Constraints
pub mod Forms
pub mod Examples
pub mod Testing
