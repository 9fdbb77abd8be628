-- Document 01's shelf: where everything stands in it, a record, a sound cache, lookup and consulting of a form, then of an automaton as drawn;
-- and caches that have grown from empty.
pub mod Layouts
pub mod Versions
pub mod Records
pub mod Lookups
pub mod Caches
pub mod Walks
pub mod Entries
pub mod Consulting
pub mod Drawn
pub mod Growing
pub mod Examples
