-- What the functions for C hosts, and load and store by value, promise.
pub mod Outcomes
