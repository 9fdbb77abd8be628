-- Document 01: the card's bytes, the runs that they allow, the search, its verdict and its store; then the demands.
-- Last, the laws that the proofs rest on, and what stands between the definitions and the code.
pub mod Instance
pub mod Store
pub mod Verdicts
pub mod Answers
pub mod Demands
pub mod Given
pub mod Promised
pub mod Examples
pub mod Meeting
pub mod Outcomes
pub mod Exploring
pub mod Steps
