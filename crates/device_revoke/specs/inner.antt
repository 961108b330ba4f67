-- What serves private functions.
pub mod Kinds
