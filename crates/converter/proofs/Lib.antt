-- What belongs to no one function.
pub mod Cut  -- lines that are longer than any frame's
pub mod Telling  -- a line's text in a buffer
pub mod Printing  -- lines one after the other
