-- The theory of zones, in folders by subject.
pub mod pairs
pub mod fractions
pub mod places
pub mod reductions
pub mod ranges
pub mod sets
pub mod settled
pub mod Examples
