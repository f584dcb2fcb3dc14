-- What belongs to no one function.
pub mod Printing  -- texts one behind the other, and how long they are
pub mod Digits  -- the digits of a number
pub mod Division  -- the last eight digits of a number of two halves
