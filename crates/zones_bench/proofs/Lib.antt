-- What the benchmark's zone holds, and that it can be reduced.
pub mod Filling
