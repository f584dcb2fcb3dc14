-- What belongs to no one function.
pub mod Puts  -- bytes and rows written one after the other
pub mod Slots  -- what stands at a place of a list; what stands in the slots, and when a schedule is what it says
pub mod Contending  -- settling with one claimant more is contending
pub mod Sets  -- sets of places and masks of controls: one bit, the lowest, their order
pub mod Turns  -- an event contends, and walks over a set of places
pub mod Moments  -- what an event does at a moment, and a moment on slots
pub mod Changes  -- an agenda made and read, and what it says of the moments
pub mod Advancing  -- the loop over moments, with nothing dropped on the way
pub mod Placing  -- the place of an id, and slots with an event put in or marked there
pub mod Acting  -- the number that a call gives by value, and what a call in place gives
pub mod Returned  -- a call by value is refused with 2 if its schedule breaks a rule
pub mod Clocked  -- a clock call gives 12, 13, or what the moments leave
pub mod Asking  -- a control's first holder, and its best default
pub mod Said  -- the text of a line is that of its frame's call
pub mod Longest  -- a line's text has a bound
pub mod Running  -- what is known before each line of a run, and what a line adds
pub mod Progress  -- a run with room for any text takes a line
pub mod Whole  -- what is written goes on where a run stopped
