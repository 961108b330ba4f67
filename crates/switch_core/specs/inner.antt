-- What serves private functions and models: facts with appended marks behind them, and what procedures leave alone.
pub mod Keeping
pub mod HandedOn
pub mod Ahead
pub mod Awaited
