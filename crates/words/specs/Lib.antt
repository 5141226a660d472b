-- The words of a burst: what a list of words says.
pub mod Words
pub mod Fine
