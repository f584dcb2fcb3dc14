-- A frame's bytes and its line, what the decoder and the encoder promise of them, and where lines end.
pub mod Decoded
pub mod Ends
pub mod Encoded
