-- Call lists: what the accepted calls of a list brought.
use Rattle.std.specs.Prelude.{ℕ, Bool, true, false, cond, ◌&&◌, ◌||◌, List, [], ◌∷◌, map, ltb, eqb}
use Rattle.std.proofs.Math.Option.{Option, none, some}
use Rattle.rules.specs.declared.Event.{Event}
use Rattle.rules.specs.declared.Schedule.{Schedule}
use Rattle.rules.specs.Lists.{insert}
use Rattle.rules.specs.Records.{id_of, differ, fresh, pad}
use Rattle.rules.specs.Period.{effective_end}
use Rattle.rules.specs.Sound.{same_event}
use Rattle.rules.specs.Calls.{Bare, program, event, cancellation, decision, question, Call, bare, set_clock, list, accepts, call}

-- Call lists, the accepted calls of a list that is run from a schedule
unfoldable pub accepted_calls : Schedule → List Call → List Call
accepted_calls s [] = []
accepted_calls s (c ∷ cs) = cond (accepts s c) (c ∷ accepted_calls (call s c).state cs) (accepted_calls (call s c).state cs)

-- Call lists, a program that was added
pub record Added : Type 0 where
  pub number : ℕ
  pub primacy : ℕ
  pub defaults : ℕ

-- Document 02, #102, a choice that was accepted: at which clock, and whether it is out or in
pub record Chosen : Type 0 where
  pub clock : ℕ
  pub out : Bool

-- Call lists, an event with its receipt clock, and the clock of its cancellation if it has one; document 02, #102: and its choices, the last one first, none of
-- which repeats the one before
pub record Brought : Type 0 where
  pub event : Event
  pub receipt : ℕ
  pub cancelled : Option ℕ
  pub choices : List Chosen

-- Call lists: the programs; the events by ascending id, those of one id in the order of receipt; the last clock reading
pub record History : Type 0 where
  pub programs : List Added
  pub brought : List Brought
  pub last : ℕ

abbrev pub no_history : History
no_history = record { programs = []; brought = []; last = 0 }

abbrev pub brought_id : Brought → ℕ
brought_id b = id_of b.event

-- whether the same record was brought before
abbrev pub known : Event → List Brought → Bool
known e [] = false
known e (b ∷ bs) = same_event b.event e || known e bs

-- Call lists, an event given again counts once
abbrev pub bring : Event → ℕ → List Brought → List Brought
bring e clock bs = cond (known e bs) bs (insert brought_id (record { event = e; receipt = clock; cancelled = none; choices = [] }) bs)

-- whether the event is the one held under the id at the clock
abbrev pub held_under : ℕ → ℕ → Event → Bool
held_under i clock e = eqb (id_of e) i && ltb clock (effective_end e)

-- Call lists, a cancellation: the clock of the first one counts
abbrev pub cancelled_at : Bool → ℕ → Option ℕ → Option ℕ
cancelled_at false clock c = c
cancelled_at true clock none = some clock
cancelled_at true clock (some k) = some k

abbrev pub cancel_brought : ℕ → ℕ → Brought → Brought
cancel_brought i clock b =
    record { event = b.event; receipt = b.receipt; cancelled = cancelled_at (held_under i clock b.event) clock b.cancelled; choices = b.choices }

-- Document 02, #102, the present choice: whether the user is out, by the last one; a new event is in
abbrev pub standing : List Chosen → Bool
standing [] = false
standing (c ∷ cs) = c.out

-- Document 02, #102, a choice: one that repeats the present choice does not count
abbrev pub chosen_at : Bool → ℕ → Bool → List Chosen → List Chosen
chosen_at it clock out cs = cond (it && differ (standing cs) out) (record { clock = clock; out = out } ∷ cs) cs

abbrev pub choose_brought : ℕ → Bool → ℕ → Brought → Brought
choose_brought i out clock b =
    record { event = b.event; receipt = b.receipt; cancelled = b.cancelled; choices = chosen_at (held_under i clock b.event) clock out b.choices }

-- a history, and then an accepted call
abbrev pub note_bare : History → Bare → History
note_bare H (program n p d) =
    record { programs = record { number = n; primacy = p; defaults = d } ∷ H.programs; brought = H.brought; last = H.last }
note_bare H (event e) = record { programs = H.programs; brought = bring e H.last H.brought; last = H.last }
note_bare H (cancellation i) = record { programs = H.programs; brought = map (cancel_brought i H.last) H.brought; last = H.last }
note_bare H (decision i out) = record { programs = H.programs; brought = map (choose_brought i out H.last) H.brought; last = H.last }
note_bare H (question c) = H

unfoldable pub note : History → Call → History
note H (bare c) = note_bare H c
note H (set_clock t b) = record { programs = H.programs; brought = H.brought; last = t }
note H (list r) = H

unfoldable pub history_from : History → List Call → History
history_from H [] = H
history_from H (c ∷ cs) = history_from (note H c) cs

-- Call lists, what a list of calls brings when it is run from the fresh schedule
abbrev pub history_of : List Call → History
history_of cs = history_from no_history (accepted_calls (pad fresh) cs)
