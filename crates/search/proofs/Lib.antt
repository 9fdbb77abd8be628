-- What is proved of the search of an automaton: that its zones obey the laws, and its answer. What stands beside the code is in the folders of
-- its modules: successor and exploration.
pub mod instance
pub mod answers
