-- What the parts of the stream promise to each other, and what of a cut line counts.
pub mod Pieces
pub mod Cut
