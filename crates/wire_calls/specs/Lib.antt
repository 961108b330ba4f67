pub mod Objects
pub mod Arguments
pub mod Methods
pub mod Calls
pub mod Reading
pub mod Sending
pub mod Laws
pub mod inner
