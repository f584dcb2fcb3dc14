-- What belongs to no one function.
pub mod InRows  -- things in a row, read and written
pub mod Whole  -- the parts of an image one after the other
pub mod Listed  -- a listed record, written or not
