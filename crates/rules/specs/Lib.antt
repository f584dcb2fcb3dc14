-- Document 01 as definitions, in its order, with document 02's requests where they belong. docs/READING.md maps each clause to its definition and its law.
pub mod Lists  -- lists: tests, places, one over another, membership
pub mod Ascii  -- quoted texts as bytes
pub mod Records  -- sizes, ids, events, masks, the schedule as lists
pub mod Period  -- the times of an event
pub mod Holding  -- who is better, who claims and holds what
pub mod Rows  -- response codes and rows
pub mod Moments  -- one second, and many
pub mod Bytes  -- numbers, events, entries and rows as bytes
pub mod Sound  -- the rules of an image
pub mod Refusals  -- the numbers, in checking order
pub mod Calls  -- the calls, what each does, and THE CALL
pub mod History  -- what the accepted calls of a list bring
pub mod Schedules  -- the schedule of that
pub mod Arrival  -- demand 3
pub mod Image  -- an image of a schedule, and back
pub mod Face  -- operations of a C host
pub mod Frames  -- lines and frames
pub mod Printed  -- what the program writes
pub mod Converted  -- recorded lines turned into the long kind, and back
pub mod Marks  -- how the tables are read
pub mod Table  -- T1 to T12
pub mod LineTable  -- lines and the frames that they are
pub mod TextTable  -- a conversation with the program
pub mod Script  -- calls one after the other, each beside what it gives
pub mod CallTable  -- the calls, as such scripts
pub mod ImageTable  -- rules, bytes, sizes, lengths and marks of images
pub mod FaceTable  -- operations of a C host
pub mod ScheduleTable  -- histories and their schedules
pub mod MomentTable  -- seconds after an accepted state
pub mod Edges  -- numbers 3 to 14 on their edges
pub mod Example  -- the worked example
pub mod ConvertTable  -- recorded lines, and what they are turned into
pub mod Clauses  -- the clauses as laws
pub mod ChoiceTable  -- worked cases of users who opt out
pub mod Sample  -- two lists that meet the premise of demand 3, and pairs that miss it
