-- What the functions under the calls promise to each other.
pub mod Slots  -- the schedule that slots in use are
pub mod Answered  -- what a call returned, read as an outcome of the definitions
pub mod Best  -- the best default
pub mod Found  -- the place of an id
pub mod Written  -- bytes and rows written one behind the other
pub mod Sets  -- sets of places, and the events at places of the slots
pub mod Finished  -- what is left after the last moment
pub mod Settled  -- who keeps which control, and a claim that comes in
pub mod Agenda  -- the starts and ends that a clock call passes
pub mod Moment  -- one moment, on slots
pub mod Advanced  -- what the core of the clock call leaves
pub mod Lines  -- a line acted on, and a run over lines
pub mod Whole  -- runs over a whole text
pub mod Says  -- what a frame and a line leave in slots and buffers
