pub mod Owners
pub mod Acting
pub mod Serving
pub mod Turned
pub mod inner
