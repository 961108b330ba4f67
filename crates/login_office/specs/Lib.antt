pub mod Links
pub mod Hearing
pub mod Mailing
pub mod Offices
pub mod Laws
pub mod inner
