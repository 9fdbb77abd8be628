-- The zones of an automaton's bytes obey the laws of the search.
pub mod Valuations
pub mod Results
pub mod Obeys
