pub mod Placed
pub mod Mailable
