-- What belongs to no one function.
pub mod Zeros  -- the id of a line, and the digits of its upper half
pub mod Written  -- a line in a buffer
pub mod Shapes  -- what becomes of a line, by what it is
pub mod Widths  -- a line over ids of two widths
pub mod Laws  -- the request's sentences on one line
pub mod Texts  -- a converted text schedules as the original
