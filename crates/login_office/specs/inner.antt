-- What serves invariants and private functions.
pub mod Inside
pub mod Reading
