-- What serves private functions and models: the rule of turns, the steps of a turn, and how passes are kept.
pub mod Passes
pub mod Rule
pub mod Seats
pub mod Steps
