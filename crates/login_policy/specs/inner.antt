-- What serves private functions: a table that is read in part.
pub mod UnderWay
