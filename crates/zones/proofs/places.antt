-- What stands at each place of a square, or of a list, after an operation.
pub mod Places
pub mod Limits
pub mod Inside
pub mod Regardless
