-- Where the edges of an automaton lie, and whether they rise.
pub mod Lying
pub mod Rising
