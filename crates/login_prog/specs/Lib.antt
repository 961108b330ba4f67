pub mod Words
pub mod Statuses
pub mod Served
pub mod Script
pub mod Outcome
pub mod inner
