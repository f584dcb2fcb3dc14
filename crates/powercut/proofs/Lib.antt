-- What belongs to no one function.
pub mod Fitting  -- after calls that fit, every field of the schedule fits
pub mod Host  -- a C host's image is at every step that of the schedule
