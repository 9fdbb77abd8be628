-- The numbers of a buffer as naturals.
pub mod Numbers
