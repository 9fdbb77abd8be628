-- What the benchmark computes.
pub mod Bench
