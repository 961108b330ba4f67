pub mod Ears
pub mod inner
