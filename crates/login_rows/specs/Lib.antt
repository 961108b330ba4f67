pub mod Named
pub mod Going
