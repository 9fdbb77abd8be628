-- What is proved of numbers as bytes and of lists: a number and its bytes determine each other; the same bytes are equal lists;
-- words from both ends tell whether they are; and a part that was put stands in its place.
pub mod Numbers
pub mod Equality
pub mod Words
pub mod Ends
pub mod Placed
