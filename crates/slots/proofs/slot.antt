-- A slot as a codec: what stands where, that a zone comes back out of it, and the loops over one.
pub mod Frames
pub mod Codec
pub mod Loops
