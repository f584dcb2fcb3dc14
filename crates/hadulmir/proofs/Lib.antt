-- What belongs to no one function.
pub mod Facing  -- an operation shows the outcome of its call
pub mod Unstored  -- an operation that has nothing to store
