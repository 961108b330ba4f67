pub mod Ends
pub mod Parts
pub mod Heard
pub mod Allowing
