-- What is proved of the run that is written.
pub mod Witnessing
pub mod Answering
pub mod Examples
