-- Texts in a buffer.
pub mod Texts
