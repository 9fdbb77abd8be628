-- The reduction: a round at once, what holds along it, and the triangle rule.
pub mod Rounds
pub mod Progress
pub mod Closure
