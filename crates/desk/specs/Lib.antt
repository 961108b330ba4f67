pub mod Counting
pub mod History
pub mod Passes
pub mod SameEntries
pub mod Standing
pub mod Views
pub mod inner
