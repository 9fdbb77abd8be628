-- How large the numbers get: in a reduction, and in a step.
pub mod Size
pub mod Ranges
pub mod Bounding
