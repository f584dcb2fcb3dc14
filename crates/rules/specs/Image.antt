-- Frames and image, the image: a schedule as bytes, and back.
use Rattle.std.specs.Prelude.{ℕ, zero, suc, ◌+◌, ◌*◌, Bool, true, ◌&&◌, List, ◌++◌, leb, eqb, length}
use Rattle.rules.specs.declared.Program.{Program}
use Rattle.rules.specs.declared.Schedule.{Schedule}
use Rattle.rules.specs.Records.{most_events, most_programs}
use Rattle.rules.specs.Bytes.{big, read, flat, many, flag, flag_at, entry_size, mark_at, choice_at, entry_bytes, entry_at}
use Rattle.rules.specs.Sound.{sound}

-- bytes of a program entry
abbrev pub program_size : ℕ
program_size = 6

-- where the programs stand in an image, behind clock and count, and where the events, behind the programs
abbrev pub programs_at : ℕ
programs_at = 9

abbrev pub entries_at : ℕ
entries_at = programs_at + most_programs * program_size

-- bytes of an image
abbrev pub image_size : ℕ
image_size = entries_at + most_events * entry_size

-- Frames and image, a program entry: added, primacy, defaults
unfoldable pub program_bytes : Program → List ℕ
program_bytes p = flag p.added ++ (big 1 p.primacy ++ big 4 p.defaults)

unfoldable pub program_from : ℕ → List ℕ → Program
program_from at l = record { added = flag_at at l; primacy = read 1 (at + 1) l; defaults = read 4 (at + 2) l }

-- Frames and image, the image of a schedule: clock, count, programs, events
unfoldable pub image : Schedule → List ℕ
image s = big 8 s.clock ++ (big 1 s.count ++ (flat program_bytes s.programs ++ flat entry_bytes s.entries))

-- the schedule in an image
unfoldable pub loaded : List ℕ → Schedule
loaded l =
    record {
      clock = read 8 0 l;
      count = read 1 8 l;
      programs = many program_from program_size most_programs programs_at l;
      entries = many entry_at entry_size most_events entries_at l;
    }

-- whether n bytes, k bytes from one to the next, are at most `most` each
unfoldable pub marked : ℕ → ℕ → ℕ → ℕ → List ℕ → Bool
marked most k zero at l = true
marked most k (suc n) at l = leb (read 1 at l) most && marked most k n (at + k) l

-- the length of an image, and its marks, 0 or 1; document 02, #102: no choice byte has a bit above 2
unfoldable pub formed : List ℕ → Bool
formed l =
    eqb (length l) image_size
    && (marked 1 program_size most_programs programs_at l
    && (marked 1 entry_size most_events (entries_at + mark_at) l && marked 7 entry_size most_events (entries_at + choice_at) l))

-- Numbers given, 2: an image that keeps its length and every rule
unfoldable pub imaged : List ℕ → Bool
imaged l = formed l && sound (loaded l)
