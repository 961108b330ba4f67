-- What serves private functions: the rules of an action that is needed.
pub mod Needed
