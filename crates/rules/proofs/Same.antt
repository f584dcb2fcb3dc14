-- What the derived comparisons of records say: an event's is `same_event`, and an entry's with the unused one `unused`.
use Rattle.std.specs.Prelude.{◌≡◌, Bool, true, false, not, ◌&&◌, ◌||◌, eqb, refl}
use Rattle.std.proofs.Common.{sym, ◌∙◌, ap}
use mathlib.Core.Bool.{and_assoc, and-false, beq}
use Rattle.rules.specs.declared.Event.{Event}
use Rattle.rules.specs.declared.Entry.{Entry}
use Rattle.rules.specs.Records.{id_of, no_event, no_entry}
use Rattle.rules.specs.Sound.{same_event, unused}

-- the fields in the order in which they lie, the program first
abbrev pub fields_equal : Event → Event → Bool
fields_equal a b =
    eqb a.program b.program
    && (eqb (id_of a) (id_of b)
    && (eqb a.controls b.controls
    && (eqb a.created b.created
    && (eqb a.start b.start
    && (eqb a.duration b.duration
    && (eqb a.randomize_start b.randomize_start
    && (eqb a.randomize_duration b.randomize_duration && (eqb a.start_draw b.start_draw && eqb a.duration_draw b.duration_draw))))))))

id_first : (p i rest : Bool) → p && (i && rest) ≡ i && p && rest
id_first true true rest = refl
id_first true false rest = refl
id_first false i rest = sym (ap (λ b. b && rest) (and-false i))

pub equal_events : (a b : Event) → fields_equal a b ≡ same_event a b
unfolding same_event
equal_events a b = id_first (eqb a.program b.program) (eqb (id_of a) (id_of b)) _ ∙ simp and_assoc

beq_false : (b : Bool) → beq b false ≡ not b
beq_false true = refl
beq_false false = refl

neither : (a b : Bool) → beq a false && beq b false ≡ not (a || b)
neither true b = refl
neither false b = beq_false b

-- an entry's fields
abbrev pub entries_equal : Entry → Entry → Bool
entries_equal h o =
    fields_equal h.event o.event
    && (eqb h.begins o.begins
    && (eqb h.held o.held
    && (beq h.cancelled o.cancelled
    && (beq h.choice.out o.choice.out && (beq h.choice.was_in o.choice.was_in && beq h.choice.was_out o.choice.was_out)))))

pub equal_unused : (h : Entry) → entries_equal h no_entry ≡ unused h
unfolding unused
equal_unused h = rw (equal_events h.event no_event, beq_false h.cancelled, beq_false h.choice.out, neither h.choice.was_in h.choice.was_out) refl
