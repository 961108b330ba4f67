-- What serves private functions and models: rows in their order, the keys of what is there, the places of their rows,
-- fronts of lists, and facts in several rows.
pub mod Keys
pub mod Nearest
pub mod Ordered
pub mod Places
pub mod Fronts
pub mod Parts
