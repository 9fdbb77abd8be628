-- The answers as numbers.
pub mod Replies
