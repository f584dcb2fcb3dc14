-- What the parts of the program promise to each other.
pub mod Pieces
