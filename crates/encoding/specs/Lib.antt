-- Numbers as bytes, both ways, and byte strings compared and put at a place.
pub mod Numbers
pub mod Bytes
pub mod Placing
