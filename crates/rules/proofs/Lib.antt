-- What belongs to no one function, from the bottom up: each file stands on those above it. docs/ARRIVAL.md follows demand 3 through them.

-- Tools.
pub mod Tests  -- what a Bool that came out true or false says of its parts
pub mod ListLaws  -- what is kept, where a thing is put, membership; ascending lists with the same members are equal
pub mod Over  -- one list written over a part of another
pub mod Copying  -- what is copied one by one over the front of a list
pub mod Masks  -- control by control: what is in a mask that was cut or joined
pub mod IdLaws  -- an id is its number: all that is known of an id's inside
pub mod Same  -- what the derived comparisons of records say
-- Who holds what, second by second.
pub mod Claims  -- who claims nothing, and what the rows of a moment depend on
pub mod Local  -- what comes later, has ended or is added changes nothing up to a moment
pub mod Second  -- a second on the state of a history leads to its state a second later
pub mod Kept  -- what every history keeps: its events ascend, those of one id do not overlap
pub mod Ranks  -- better is a strict order
pub mod Holders  -- the best of those that claim a control holds it
pub mod Quiet  -- where nothing begins or ends, a second changes the clock and the marks of the choices alone
pub mod Interval  -- an event holds a control in one interval
pub mod Nobody  -- an event that holds nothing blocks nobody
-- The rules of an image, as statements and kept; many seconds at once.
pub mod SoundState  -- what `sound` tests, as statements about the schedule as lists
pub mod SoundKept  -- every call keeps them
pub mod Jump  -- many quiet seconds at once
-- Evaluated tables.
pub mod Quick  -- a run from moment to moment gives what the run second by second gives; it evaluates quickly
pub mod Evaluated  -- T1 to T12, the edges of the numbers, the worked example
pub mod Witnessed  -- calls, schedules, moments, lines, texts and images
pub mod FaceSeen  -- the operations of a C host, on every image of a schedule
-- Bytes.
pub mod Numbers  -- numbers, and things in a row, and their bytes are inverse
pub mod Entries  -- events and entries, and their bytes, are inverse
pub mod Images  -- a schedule and its image are inverse
pub mod RowBytes  -- the bytes of rows are read again
pub mod Ranges  -- what is owned fits its width
pub mod Lengths  -- an array that is owned has its length
-- Clauses.
pub mod IdClause  -- an id is an unsigned number of 128 bits
pub mod Earliest  -- the earliest start is the least of the drawn starts, and not after the effective start
pub mod CodeLaws  -- when an entry gives which code
pub mod RowsGiven  -- the rows of the moments passed are what the events give in them
pub mod RowLaws  -- when an entry gives which code, said of what the event holds
pub mod RowOrder  -- rows ascend
pub mod Bound  -- how many rows there are at the most
pub mod Refused  -- when 10 and 13 are given, and when not
pub mod Cancelled  -- what a cancellation finds and marks
pub mod CallLaws  -- what the numbers say of a call; deliveries and readings that change nothing
pub mod Choosing  -- which code an end gives by the choices; choices change no held mask, and nothing of another event
pub mod Room  -- the program's buffer fits every reading
pub mod Defaults  -- the best default is better than all, and only one can be
pub mod FaceLaws  -- the C face does what the call by value does
-- Demand 3.
pub mod Scheduled  -- theorem A: every list of calls gives what the schedule of its history gives
pub mod OneHolder  -- after no call does a control have two holders
pub mod Members  -- what the members of a history's lists say
pub mod Order  -- the order of arrival does not count
pub mod Sampled  -- the two sample lists, the histories, and the lists that miss the premise
