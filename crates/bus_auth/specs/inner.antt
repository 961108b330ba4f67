-- What serves private functions and models: what stands behind a command, where a line ends, what the lines of a text
-- led to, and how a handshake is kept.
pub mod Outcomes
pub mod Commands
pub mod Cutting
pub mod Greeting
pub mod Hearing
pub mod Standing
