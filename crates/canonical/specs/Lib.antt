-- Document 02, Change 1: the writer of an automaton's form.
pub mod Writing
pub mod Comparing
pub mod Numbers
pub mod Edges
pub mod Parts
pub mod Examples
