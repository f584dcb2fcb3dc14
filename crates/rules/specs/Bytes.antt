-- Numbers, events, entries and rows as bytes, the most significant byte first.
use Rattle.std.specs.Prelude.{ℕ, zero, suc, ◌+◌, ◌*◌, ◌/◌, ◌%◌, Bool, cond, List, [], ◌∷◌, ◌++◌, eqb, get_or}
use Rattle.rules.specs.declared.Id.{Id}
use Rattle.rules.specs.declared.Event.{Event}
use Rattle.rules.specs.declared.Entry.{Entry}
use Rattle.rules.specs.declared.Choice.{Choice}
use Rattle.rules.specs.declared.Record.{Record}
use Rattle.rules.specs.Records.{id_size, id_from, id_of, event_of, has, most_rows}
use Rattle.rules.specs.Rows.{Row}

-- the last n bytes of a number
unfoldable pub big : ℕ → ℕ → List ℕ
big zero x = []
big (suc n) x = big n (x / 256) ++ (x % 256 ∷ [])

-- the number in the n bytes of l from `at`
unfoldable pub read : ℕ → ℕ → List ℕ → ℕ
read zero at l = 0
read (suc n) at l = read n at l * 256 + get_or l (at + n) 0

-- things one after the other
unfoldable pub flat : {A : Type 0} → (A → List ℕ) → List A → List ℕ
flat put [] = []
flat put (x ∷ xs) = put x ++ flat put xs

-- n things of k bytes each, from `at`
unfoldable pub many : {A : Type 0} → (ℕ → List ℕ → A) → ℕ → ℕ → ℕ → List ℕ → List A
many f k zero at l = []
many f k (suc n) at l = f at l ∷ many f k n (at + k) l

-- Response rows, a row's bytes: time, id, code; how many they are, and how many those of all rows that a clock call can give
abbrev pub row_size : ℕ
row_size = 8 + id_size + 1

abbrev pub rows_size : ℕ
rows_size = most_rows * row_size

unfoldable pub row_bytes : Row → List ℕ
row_bytes r = big 8 r.time ++ (big id_size r.id ++ big 1 r.code)

abbrev pub bytes : List Row → List ℕ
bytes rs = flat row_bytes rs

-- the id in w bytes, document 02, #105, since recorded lines have ids of another width; and that in the bytes of an mRID
abbrev pub id_in : (w : ℕ) → ℕ → List ℕ → Id
id_in w at l = id_from (read w at l)

abbrev pub id_at : ℕ → List ℕ → Id
id_at at l = id_in id_size at l

-- Frames and image, the field bytes of an event, its id of w bytes before all others; how many they are, and how many with an mRID
abbrev pub event_size_in : (w : ℕ) → ℕ
event_size_in w = w + 25

abbrev pub event_size : ℕ
event_size = event_size_in id_size

unfoldable pub event_bytes : Event → List ℕ
event_bytes e =
    big id_size (id_of e) ++ (big 1 e.program ++ (big 4 e.controls ++ (big 4 e.created ++ (big 4 e.start ++ (big 4 e.duration
    ++ (big 2 e.randomize_start ++ (big 2 e.randomize_duration ++ (big 2 e.start_draw ++ big 2 e.duration_draw))))))))

unfoldable pub event_in : (w : ℕ) → ℕ → List ℕ → Event
event_in w at l =
    event_of (read w at l) (read 1 (at + w) l) (read 4 (at + (w + 1)) l) (read 4 (at + (w + 5)) l)
    (read 4 (at + (w + 9)) l) (read 4 (at + (w + 13)) l) (read 2 (at + (w + 17)) l) (read 2 (at + (w + 19)) l)
    (read 2 (at + (w + 21)) l) (read 2 (at + (w + 23)) l)

abbrev pub event_at : ℕ → List ℕ → Event
event_at at l = event_in id_size at l

-- a mark is a byte, 1 or 0
abbrev pub flag : Bool → List ℕ
flag b = cond b 1 0 ∷ []

abbrev pub flag_at : ℕ → List ℕ → Bool
flag_at at l = eqb (read 1 at l) 1

-- Document 02, #102, the choice byte: bit 0 out now, bit 1 was in for a held second, bit 2 was out for one
abbrev pub choice_byte : Choice → ℕ
choice_byte c = cond c.out 1 0 + (cond c.was_in 2 0 + cond c.was_out 4 0)

abbrev pub choice_of : ℕ → Choice
choice_of b = record { out = has b 0; was_in = has b 1; was_out = has b 2 }

-- Frames and image, an event entry: the event, effective start, held mask, mark and choice; how many bytes they are, and where mark and choice stand
abbrev pub entry_size : ℕ
entry_size = event_size + 14

abbrev pub mark_at : ℕ
mark_at = event_size + 12

abbrev pub choice_at : ℕ
choice_at = event_size + 13

unfoldable pub entry_bytes : Entry → List ℕ
entry_bytes h = event_bytes h.event ++ (big 8 h.begins ++ (big 4 h.held ++ (flag h.cancelled ++ (choice_byte h.choice ∷ []))))

unfoldable pub entry_at : ℕ → List ℕ → Entry
entry_at at l =
    record {
      event = event_at at l;
      begins = read 8 (at + event_size) l;
      held = read 4 (at + (event_size + 8)) l;
      cancelled = flag_at (at + mark_at) l;
      choice = choice_of (read 1 (at + choice_at) l);
    }

-- Frames and image, C hosts, a listed record, and document 02, #101: the entry, and behind it the earliest start; how many bytes they are
abbrev pub record_size : ℕ
record_size = entry_size + 8

unfoldable pub record_bytes : Record → List ℕ
record_bytes r = entry_bytes r.entry ++ big 8 r.earliest
