-- Frames and image, rules: what an image, or a schedule given by value, has to keep. One name for each rule.
use Rattle.std.specs.Prelude.{ℕ, ◌+◌, ◌-◌, min, max, Bool, cond, not, ◌&&◌, ◌||◌, List, leb, ltb, eqb, length, take, drop}
use Rattle.rules.specs.declared.Event.{Event}
use Rattle.rules.specs.declared.Entry.{Entry}
use Rattle.rules.specs.declared.Choice.{Choice}
use Rattle.rules.specs.declared.Program.{Program}
use Rattle.rules.specs.declared.Schedule.{Schedule}
use Rattle.rules.specs.Lists.{each, pairs}
use Rattle.rules.specs.Records.{id_of, usable, cut, most_events, most_programs, last_program, last_clock, no_event, program_at}
use Rattle.rules.specs.Period.{lift, drawn_start}
use Rattle.rules.specs.Holding.{end_of}

-- Numbers given, 7: a randomisation beyond an hour either way
abbrev pub outside : ℕ → Bool
outside r = ltb (lift r) (32768 - 3600) || ltb (32768 + 3600) (lift r)

-- Effective period, draw: between 0 and its randomisation, both included
abbrev pub drawn : ℕ → ℕ → Bool
drawn r d = leb (min (lift r) 32768) (lift d) && leb (lift d) (max (lift r) 32768)

-- Numbers given, 7: the conditions on single fields and on each draw
unfoldable pub out_of_range : Event → Bool
out_of_range e =
    eqb e.controls 0 || ltb e.start 3600 || eqb e.duration 0
    || outside e.randomize_start || outside e.randomize_duration
    || not (drawn e.randomize_start e.start_draw) || not (drawn e.randomize_duration e.duration_draw)

-- Numbers given, 7: all its conditions; the last is that the drawn duration is below 1
unfoldable pub malformed : Event → Bool
malformed e = out_of_range e || ltb (e.duration + lift e.duration_draw) (32768 + 1)

-- every field the same
unfoldable pub same_event : Event → Event → Bool
same_event a b =
    eqb (id_of a) (id_of b) && eqb a.program b.program && eqb a.controls b.controls && eqb a.created b.created
    && eqb a.start b.start && eqb a.duration b.duration
    && eqb a.randomize_start b.randomize_start && eqb a.randomize_duration b.randomize_duration
    && eqb a.start_draw b.start_draw && eqb a.duration_draw b.duration_draw

-- the two arrays have their places: every schedule given by value does
unfoldable pub whole : Schedule → Bool
whole s = eqb (length s.programs) most_programs && eqb (length s.entries) most_events

-- limits
unfoldable pub within_limits : Schedule → Bool
within_limits s = leb s.clock last_clock && leb s.count most_events

-- a program that was added passes 5; an unused place is zero
unfoldable pub sound_program : Program → Bool
sound_program p = cond p.added (usable p.primacy) (eqb p.primacy 0 && eqb p.defaults 0)

-- document 02, #102: whether the user was in, or was out, for a second in which the event held something
abbrev pub any_counted : Choice → Bool
any_counted c = c.was_in || c.was_out

-- an unused event place is zero
unfoldable pub unused : Entry → Bool
unused h =
    same_event h.event no_event
    && (eqb h.begins 0 && (eqb h.held 0 && (not h.cancelled && (not h.choice.out && not (any_counted h.choice)))))

-- ids ascend, no two the same
unfoldable pub ascending : Entry → Entry → Bool
ascending h o = ltb (id_of h.event) (id_of o.event)

-- the event passes 3 and 6
unfoldable pub of_program : List Program → Entry → Bool
of_program ps h = leb h.event.program last_program && (program_at ps h.event.program).added

-- the event passes 7
unfoldable pub well_formed : Entry → Bool
well_formed h = not (malformed h.event)

-- the effective start is not before the drawn start, and before the effective end
unfoldable pub in_period : Entry → Bool
in_period h = leb (drawn_start h.event) h.begins && ltb h.begins (end_of h)

-- the effective end is after the clock
unfoldable pub lasting : ℕ → Entry → Bool
lasting clock h = ltb clock (end_of h)

-- the held mask is within the controls
unfoldable pub carried : Entry → Bool
carried h = eqb (cut h.held h.event.controls) 0

-- the held mask is zero before the start
unfoldable pub held_since_start : ℕ → Entry → Bool
held_since_start clock h = leb h.begins clock || eqb h.held 0

-- the held mask is zero if the event is cancelled
unfoldable pub none_if_cancelled : Entry → Bool
none_if_cancelled h = not h.cancelled || eqb h.held 0

-- document 02, #102: the user was neither in nor out before the start
unfoldable pub counted_since_start : ℕ → Entry → Bool
counted_since_start clock h = leb h.begins clock || not (any_counted h.choice)

-- document 02, #102: the user was in or out while the held mask is not zero
unfoldable pub counted_if_held : Entry → Bool
counted_if_held h = eqb h.held 0 || any_counted h.choice

-- two held masks share no bit
unfoldable pub apart : Entry → Entry → Bool
apart h o = eqb (cut h.held o.held) h.held

-- the rules of one entry
unfoldable pub sound_entry : List Program → ℕ → Entry → Bool
sound_entry ps clock h =
    of_program ps h && (well_formed h && (in_period h && (lasting clock h && (carried h && (held_since_start clock h && (none_if_cancelled h
    && (counted_since_start clock h && counted_if_held h)))))))

-- all rules
unfoldable pub sound : Schedule → Bool
sound s =
    let hs = take s.count s.entries in
    whole s
    && (within_limits s
    && (each sound_program s.programs
    && (each unused (drop s.count s.entries)
    && (pairs ascending hs && (each (sound_entry s.programs s.clock) hs && pairs apart hs)))))
