pub mod Appended
pub mod Home
pub mod inner
pub mod KeyOrder
pub mod Listed
pub mod Nearest
pub mod Rows
pub mod Stands
