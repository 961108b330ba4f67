-- What serves private functions: how the readers go over the words of a line.
pub mod CallWords
pub mod Filling
pub mod Pieces
pub mod Arguments
pub mod CallReadings
pub mod LineReadings
pub mod Parts
pub mod Meaning
pub mod Words
