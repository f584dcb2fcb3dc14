-- What belongs to no one function.
pub mod Primacies  -- primacies that may be used
pub mod Backward  -- a pass from the back
