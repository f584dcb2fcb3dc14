-- What belongs to no one function.
pub mod Fronts  -- numbers read from the first of some bytes
pub mod Pairs  -- digits and bytes are inverse
pub mod ByKind  -- the size of a kind, and the frame of a kind
pub mod Ends  -- where a line ends
pub mod Passes  -- the pass over a line
pub mod Worths  -- what bytes are worth as digits
pub mod Writes  -- pairs one after the other, and the bytes of a frame
pub mod RoundTrips  -- a frame and its line are inverse
