-- What belongs to no one function.
pub mod Recorded  -- the records of the held events
