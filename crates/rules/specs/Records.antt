-- Records: limits, ids, primacies, masks, and the schedule as lists. A comment names the section of document 01 and the term that it renders.
use Rattle.std.specs.Prelude.{ℕ, ◌+◌, ◌-◌, ◌*◌, ◌/◌, ◌%◌, ◌^◌, ◌<◌, Bool, true, false, cond, not, ◌&&◌, ◌||◌, List, [], ◌++◌, leb, eqb, length, take, get_or, replicate}
use Rattle.std.specs.Int.Bits.{bit_and, bit_or, bit_xor}
use Rattle.rules.specs.declared.Id.{Id}
use Rattle.rules.specs.declared.Primacy.{Primacy}
use Rattle.rules.specs.declared.Primacy.TheVariants.{Usable, Reserved}
use Rattle.rules.specs.declared.Program.{Program}
use Rattle.rules.specs.declared.Event.{Event}
use Rattle.rules.specs.declared.Entry.{Entry}
use Rattle.rules.specs.declared.Choice.{Choice}
use Rattle.rules.specs.declared.Schedule.{Schedule}

-- Records, limit on events: how many are held at the most
abbrev pub most_events : ℕ
most_events = 48

-- Records, limit of the clock: its greatest reading
abbrev pub last_clock : ℕ
last_clock = 9000000000

-- Records, programs: how many places there are, and the greatest number
abbrev pub most_programs : ℕ
most_programs = 8

abbrev pub last_program : ℕ
last_program = most_programs - 1

-- Records, controls: how many a mask has, and the greatest number
abbrev pub most_controls : ℕ
most_controls = 32

abbrev pub last_control : ℕ
last_control = most_controls - 1

-- Response rows: no clock call gives more, since an event gives at most two in its life
abbrev pub most_rows : ℕ
most_rows = 2 * most_events

-- Document 02, #104, the mRID: how many bytes half of it has and how many the whole, and the numbers that every half and every id is below
abbrev pub half_size : ℕ
half_size = 8

abbrev pub id_size : ℕ
id_size = 2 * half_size

abbrev pub half_limit : ℕ
half_limit = 256 ^ half_size

abbrev pub id_limit : ℕ
id_limit = 256 ^ id_size

-- Document 02, #104, one unsigned number of 128 bits, of its upper and its lower half
abbrev pub halves : (high low : ℕ) → ℕ
halves high low = high * half_limit + low

-- the mRID as one number, and the mRID that a number is
unfoldable pub id_number : Id → ℕ
id_number i = halves i.high i.low

unfoldable pub id_from : ℕ → Id
id_from n = record { high = n / half_limit; low = n % half_limit }

-- each half fits its width, as those of every id by value do
abbrev pub IdFits : Id → Type 0
IdFits i = (i.high < half_limit) × (i.low < half_limit)

abbrev pub id_of : Event → ℕ
id_of e = id_number e.id

-- Records, event: from its fields, in their order
abbrev pub event_of : (id program controls created start duration randomize_start randomize_duration start_draw duration_draw : ℕ) → Event
event_of id program controls created start duration randomize_start randomize_duration start_draw duration_draw =
    record {
      id = id_from id;
      program = program;
      controls = controls;
      created = created;
      start = start;
      duration = duration;
      randomize_start = randomize_start;
      randomize_duration = randomize_duration;
      start_draw = start_draw;
      duration_draw = duration_draw;
    }

-- Records, primacy: one that may be used; any other is reserved
unfoldable pub usable : ℕ → Bool
usable primacy = leb primacy 2 || (leb 65 primacy && leb primacy 191)

-- the same as an enum
abbrev pub primacy_is : ℕ → Primacy
primacy_is primacy = cond (usable primacy) Usable Reserved

-- Records, mask: whether control c is in the mask m
unfoldable pub has : ℕ → ℕ → Bool
has m c = eqb (m / 2 ^ c % 2) 1

-- the controls of a that are not in b
unfoldable pub cut : ℕ → ℕ → ℕ
cut a b = bit_xor a (bit_and a b)

-- the controls of a and of b
unfoldable pub join : ℕ → ℕ → ℕ
join a b = bit_or a b

-- a program place that is not in use
abbrev pub no_program : Program
no_program = record { added = false; primacy = 0; defaults = 0 }

-- every field zero
abbrev pub no_event : Event
no_event = event_of 0 0 0 0 0 0 0 0 0 0

-- Document 02, #102, a new event is in
abbrev pub no_choice : Choice
no_choice = record { out = false; was_in = false; was_out = false }

-- whether two choices are not the same
abbrev pub differ : Bool → Bool → Bool
differ true b = not b
differ false b = b

-- an event place that is not in use
abbrev pub no_entry : Entry
no_entry = record { event = no_event; begins = 0; held = 0; cancelled = false; choice = no_choice }

-- a schedule with its held events as a list, by ascending id
pub record State : Type 0 where
  pub clock : ℕ
  pub programs : List Program
  pub entries : List Entry

-- the program under a number
abbrev pub program_at : List Program → ℕ → Program
program_at ps n = get_or ps n no_program

-- Records, fresh schedule
abbrev pub fresh : State
fresh = record { clock = 0; programs = replicate most_programs no_program; entries = [] }

-- what a schedule by value says: its first `count` entries are held
abbrev pub view : Schedule → State
view s = record { clock = s.clock; programs = s.programs; entries = take s.count s.entries }

-- the schedule by value that says it, its unused entries zero
abbrev pub pad : State → Schedule
pad s =
    record {
      clock = s.clock;
      count = length s.entries;
      programs = s.programs;
      entries = s.entries ++ replicate (most_events - length s.entries) no_entry;
    }
