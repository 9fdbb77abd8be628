-- What is proved of runs: waits and resets by clock, and what cards A, E, F and G of document 01 show.
pub mod Contradictions
pub mod Valuations
pub mod Renumbering
pub mod Examples
