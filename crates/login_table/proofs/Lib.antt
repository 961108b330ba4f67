pub mod Appending
mod Ascending
mod KeyOrder
mod Keys
pub mod Listing
mod NextKey
mod NextRow
mod NextTaken
mod NextTaker
pub mod Parts
mod RowOrder
mod RowPlaces
pub mod Standing
