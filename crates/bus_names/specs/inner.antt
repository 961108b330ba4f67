-- What serves private functions and models: what a node of a type is, how types are told apart and get smaller, and
-- how readers of names and signatures go on.
pub mod Parts
pub mod Nodes
pub mod NodeFalls
pub mod ShapeCode
pub mod Grammar
pub mod Parsing
