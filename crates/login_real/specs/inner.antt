-- What serves private functions and models: what calls answer that do not wait, and what a stream of std tells.
pub mod Sockets
pub mod Streams
