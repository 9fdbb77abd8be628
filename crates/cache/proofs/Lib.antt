-- The theory of a cache, from the bytes up: one record, records one after another, sound caches, consulting, growing.
pub mod layouts
pub mod caches
pub mod consulting
pub mod growing
pub mod Examples
