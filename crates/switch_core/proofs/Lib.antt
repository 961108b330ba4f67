pub mod Frames
pub mod HandedOn
pub mod Behind
pub mod Aheads
pub mod Staying
pub mod Numbers
pub mod Growing
pub mod Going
pub mod Appending
mod PausesLeft
