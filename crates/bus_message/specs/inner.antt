-- What serves private functions and models: the fields that are kept and the names in them, what readers and cutters of
-- messages answer, and what a cutter keeps.
pub mod KnownFields
pub mod Named
pub mod Names
pub mod Parts
pub mod Checks
pub mod Faults
pub mod Feeding
pub mod Headers
pub mod Outcomes
