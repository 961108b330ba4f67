-- What serves private functions and models: words in a text that goes on, the facts before the first mark as they are
-- kept, and the value that a `Boxed` holds.
pub mod Prefixed
pub mod Start
pub mod Held
