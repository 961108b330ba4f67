-- What serves private functions and models.
pub mod Holdings
