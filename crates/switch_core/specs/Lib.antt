pub mod Handles
pub mod inner
