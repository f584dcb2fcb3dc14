-- What reading and writing an image promise.
pub mod Exchange
