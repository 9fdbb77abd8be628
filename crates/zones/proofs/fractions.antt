-- The running fraction: lowest terms, what thresholds are for, and that every operation lowers it alone.
pub mod Lowest
pub mod Thresholds
pub mod Fractional
pub mod InTurn
