-- What belongs to no one function.
pub mod Joins  -- a number read in two parts
pub mod Fits  -- what is all there, and what is not
pub mod Writes  -- what is written one behind the other
