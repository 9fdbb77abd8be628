-- That the judge says yes exactly to runs, and its examples. What stands beside the code is in the folders of its modules: numbers, clocks,
-- steps and stretches.
pub mod passing
pub mod Examples
