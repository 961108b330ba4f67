-- What serves private functions and models: how talks, scripts and links that came are kept in memory, and how a script
-- goes on.
pub mod Notes
pub mod Scripts
pub mod Slots
