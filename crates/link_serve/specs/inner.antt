-- What serves private functions and models: what a core keeps at its desk, and what the parts of a turn do.
pub mod Inside
pub mod Standing
pub mod Turning
pub mod Acting
