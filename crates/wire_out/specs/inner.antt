-- What serves private functions.
pub mod Parts
pub mod Numbers
pub mod Delivered
pub mod Sendable
