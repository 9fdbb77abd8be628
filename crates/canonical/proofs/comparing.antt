-- Strings of bytes compared by words, each turn a law about lists.
pub mod Comparing
