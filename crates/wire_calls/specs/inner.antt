-- What serves private functions.
pub mod Fitting
pub mod KeptArguments
