-- Document 02, Change 1: the form of an automaton, in one order of edges, is accepted, has the same runs and is one for all drawings.
pub mod Alike
pub mod Reading
pub mod Renumbering
pub mod Shape
pub mod Numbering
pub mod Acceptance
pub mod Again
pub mod Deciding
pub mod Theorems
