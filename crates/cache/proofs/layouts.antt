-- One record: its length, and that what is written is read back.
pub mod Measured
pub mod Written
