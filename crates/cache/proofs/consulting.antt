-- Making empty, asking, filing and consulting: by the branches of the code, then by the ways that a consulting goes.
pub mod Asking
pub mod Ways
pub mod Filing
pub mod Drawn
pub mod Meeting
