-- Effective period, in the sequence of IEEE 2030.5, 10.2.2.2 (document 02, #103): start, start draw, drawn and effective start, duration, duration draw, effective end.
-- What the clause calls Effective Start Time is document 01's drawn start, and both count the end from it. An effective start is here, as in document 01,
-- never before receipt: the clause has no word for it.
use Rattle.std.specs.Prelude.{ℕ, ◌+◌, ◌-◌, ◌%◌, min, max}
use Rattle.rules.specs.declared.Event.{Event}
use Rattle.rules.specs.declared.Period.{Period}
use Rattle.rules.specs.declared.Dated.{Dated}

-- Records, signed fields: two's complement on 16 bits, moved up by 32,768, so that 0 goes to 32,768 and the order is that of the signed numbers
abbrev pub lift : ℕ → ℕ
lift b = (b + 32768) % 65536

-- n plus a signed 16-bit number, cut off at 0
abbrev pub plus : ℕ → ℕ → ℕ
plus n b = n + lift b - 32768

-- Effective period, drawn start: the clause's Effective Start Time, of Start Time and the Start Randomization that is applied, the start draw
unfoldable pub drawn_start : Event → ℕ
drawn_start e = plus e.start e.start_draw

-- Effective period, effective start: of an event that was first accepted at the receipt clock. No term of the clause; a late receipt moves this alone
unfoldable pub effective_start : Event → ℕ → ℕ
effective_start e receipt = max (drawn_start e) (receipt + 1)

-- Effective period, effective end: the clause's Effective End Time, of its Effective Start Time, Duration and the Duration Randomization that is applied, the
-- duration draw. So it is counted from the drawn start, however late the event came
unfoldable pub effective_end : Event → ℕ
effective_end e = plus (drawn_start e + e.duration) e.duration_draw

-- Document 02, #101, what clause 10.2.2.2 calls Earliest Effective Start Time: the lesser of start and start + randomizeStart.
-- No draw and no receipt clock is in it.
unfoldable pub earliest_start : Event → ℕ
earliest_start e = min e.start (plus e.start e.randomize_start)

-- Effective period, period: the moments from `start` on and before `end`; and #101's third time
abbrev pub period_of : Event → ℕ → Period
period_of e receipt = record { start = effective_start e receipt; end = effective_end e; earliest = earliest_start e }

-- Form by location, effective end: a time, with the record handed back
abbrev pub dated : ℕ → Event → Dated
dated time e = record { time = time; event = e }
