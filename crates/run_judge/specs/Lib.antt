-- Document 02, Change 2: what the judge of runs is to say, and the judge as a definition.
pub mod Passing
pub mod Numbers
pub mod Clocks
pub mod Moves
pub mod Steps
pub mod Judging
pub mod Stretches
pub mod Examples
