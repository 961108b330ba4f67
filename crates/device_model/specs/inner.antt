-- What serves private functions and models: the handles that listen.
pub mod Ears
