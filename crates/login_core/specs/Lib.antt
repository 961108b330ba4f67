pub mod Texts
pub mod Ready
pub mod Fullness
pub mod Ends
pub mod State
pub mod inner
