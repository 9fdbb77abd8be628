-- The search in the store: the slots of kept zones, a judged zone, and what each part of the search shows.
pub mod Stores
pub mod Judging
pub mod Sounding
pub mod Ending
pub mod Arriving
pub mod Expanding
pub mod Taking
pub mod Beginning
