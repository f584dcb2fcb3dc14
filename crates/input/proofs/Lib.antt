-- What belongs to no one function.
pub mod Kept  -- what is kept, by its parts
