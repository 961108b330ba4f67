-- What serves private functions: a text that is read in part, and a sum that is bounded.
pub mod UnderWay
pub mod Sums
