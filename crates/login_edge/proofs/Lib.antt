pub mod Cuts
pub mod Dues
pub mod SlotLaws
pub mod Moments
pub mod Gained
pub mod Given
pub mod Grown
