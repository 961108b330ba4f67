-- What serves private functions and models: what a node of a value is, what values that bytes spell are, how arrays are
-- opened, rows of numbers, plain texts, how values are told apart, and what readers of parts answer.
pub mod Nodes
pub mod NodeFalls
pub mod Held
pub mod Opening
pub mod Plain
pub mod PlainText
pub mod ValueCode
pub mod Answers
pub mod Fields
pub mod BasicReading
pub mod Nesting
pub mod VariantTypes
pub mod Spelling
