pub mod Listening
mod Places
