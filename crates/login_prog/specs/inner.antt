-- What serves private functions.
pub mod Endings
pub mod Input
pub mod Jobs
pub mod Accepting
pub mod Left
pub mod Words
pub mod Causes
