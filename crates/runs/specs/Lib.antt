-- Document 01, "Runs": limits and how they are loosened, steps and runs of any system, a timed automaton as a system, and a run as numbers.
pub mod Limits
pub mod Runs
pub mod Timed
pub mod Written
pub mod Renumbering
pub mod Examples
