-- The clocks: what their tests, a wait and a reset show, clock by clock.
pub mod Showing
