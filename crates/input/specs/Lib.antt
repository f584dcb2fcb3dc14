-- What is kept of a line that has not ended.
pub mod Kept
