-- Caches that have grown by consulting automata as drawn: what they give back, what they have filed, and all that consulting promises.
pub mod Back
pub mod Kept
pub mod Carried
