-- What is proved of the definition: the documents' lines, and that std prints numbers as it has them.
pub mod Examples
pub mod Decimals
