-- The order of pairs, and the integers that it is reckoned in.
pub mod Integers
pub mod Choices
pub mod Order
