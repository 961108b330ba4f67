-- What serves private functions and models: how a replay stands, and what each line does to it.
pub mod Ahead
pub mod Opening
pub mod Placing
pub mod Playing
pub mod Running
pub mod Turns
pub mod Behind
pub mod Writing
pub mod Player
pub mod Apart
pub mod Making
pub mod Telling
pub mod Causes
pub mod Early
