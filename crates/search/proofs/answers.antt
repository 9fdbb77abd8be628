-- The answer: the demands, its numbers, and document 01's cards.
pub mod Answers
pub mod Demands
pub mod Adding
pub mod Given
pub mod Numbers
pub mod Examples
