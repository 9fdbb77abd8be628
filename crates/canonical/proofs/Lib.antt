-- What comes of writing a form. What stands beside the code is in the folders of its modules: comparing, edges, ordering and writing.
pub mod Ways
pub mod Answers
pub mod Examples
