-- A number and an event in a slice, read and written; bytes copied.
pub mod Octets
