-- The program's line.
pub mod Lines
pub mod Examples
