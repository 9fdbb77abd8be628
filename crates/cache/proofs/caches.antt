-- Sound caches: their tests as facts, and the used bytes that make one.
pub mod Sounding
pub mod Fronts
