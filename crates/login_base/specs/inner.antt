-- What serves private functions and models: what a reader of numerals looks at first, and how a seat's name is kept.
pub mod Plain
pub mod Padded
