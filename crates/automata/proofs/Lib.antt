-- What is proved of the reader: which automata are accepted; of the form of an automaton; and of its example. What stands beside the code is in
-- the folder of its module fields.
pub mod accepting
pub mod canonical
pub mod Examples
