-- A line turned, and what document 02 says of it.
pub mod Turns
pub mod Recorded
