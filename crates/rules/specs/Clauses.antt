-- Sentences of documents 01 and 02 on times, holding, rows and states, said of the definitions. Each field is one clause; all are proved (promise `clauses`).
-- `ps` are the programs, `ts` all events of a history, and Holds t c x says that the event x holds the control c at moment t.
use Rattle.std.specs.Prelude.{◌≡◌, ◌↔◌, ◌⊎◌, ℕ, zero, suc, ◌+◌, ◌*◌, ◌<◌, ◌≤◌, min, Bool, true, false, cond, not, ◌||◌, List, [], ◌∷◌, ◌++◌, map, eqb, length, replicate, Result, Ok, Err}
use Rattle.std.proofs.Math.Option.{none, some}
use Rattle.rules.specs.declared.Id.{Id}
use Rattle.rules.specs.declared.Event.{Event}
use Rattle.rules.specs.declared.Refusal.{Refusal}
use Rattle.rules.specs.declared.Reply.{Reply}
use Rattle.rules.specs.declared.Reply.TheVariants.{Code, Count, Holder, Default, Nobody}
use Rattle.rules.specs.declared.Entry.{Entry}
use Rattle.rules.specs.declared.Program.{Program}
use Rattle.rules.specs.declared.Record.{Record}
use Rattle.rules.specs.declared.Schedule.{Schedule}
use Rattle.rules.specs.Lists.{In, All, Pairwise}
use Rattle.rules.specs.Records.{State, half_size, half_limit, id_size, id_limit, id_number, id_from, id_of, IdFits, has, differ, last_clock, most_events, most_rows, program_at, fresh, view, pad}
use Rattle.rules.specs.Period.{lift, drawn_start, effective_end, earliest_start, period_of}
use Rattle.rules.specs.Holding.{Rank, rank_of, better, held_at, Holding, end_of, remarked}
use Rattle.rules.specs.Rows.{Row, code_at, ending, Sooner}
use Rattle.rules.specs.Moments.{second, passed}
use Rattle.rules.specs.Sound.{drawn, malformed, sound}
use Rattle.rules.specs.Refusals.{late}
use Rattle.rules.specs.Bytes.{big, row_size}
use Rattle.rules.specs.Calls.{Call, deliver, cancel, choose, set_clock, list, entry_id, code, count, number_of, value_of, entry, Ranked, best_default, record_of, lent_bytes, lent_list, call}
use Rattle.rules.specs.Image.{image_size, image, loaded, imaged}
use Rattle.rules.specs.Face.{Operation, as_call, id_too_long, shown, negative, lent_after, face, face_fresh}
use Rattle.rules.specs.Printed.{room}
use Rattle.rules.specs.History.{Chosen}
use Rattle.rules.specs.Schedules.{Timed, gone_by, out_by, holding, seen, rows_to}

-- Document 02, #104, the mRID as an unsigned number of 128 bits
pub record IdClauses : Type 0 where
  -- every number below 2 ^ 128 is that of an id
  pub made : (n : ℕ) → n < id_limit → IdFits (id_from n) × (id_number (id_from n) ≡ n)
  -- every id has such a number, and no other has it
  pub told : (i : Id) → IdFits i → (id_number i < id_limit) × (id_from (id_number i) ≡ i)
  -- of two ids the upper halves decide which is below the other, and where these are equal the lower halves
  pub below : (a b : Id) → IdFits a → IdFits b → id_number a < id_number b ↔ ((a.high < b.high) ⊎ ((a.high ≡ b.high) × (a.low < b.low)))
  -- the bytes of an id below 2 ^ 64 are the eight that such a number has, with eight zero bytes before them
  pub widened : (n : ℕ) → n < half_limit → big id_size n ≡ replicate half_size 0 ++ big half_size n

-- Effective period, draw: the event with another start draw
abbrev pub with_draw : Event → ℕ → Event
with_draw e draw =
    record {
      id = e.id;
      program = e.program;
      controls = e.controls;
      created = e.created;
      start = e.start;
      duration = e.duration;
      randomize_start = e.randomize_start;
      randomize_duration = e.randomize_duration;
      start_draw = draw;
      duration_draw = e.duration_draw;
    }

-- Effective period, draw: a start draw that the event's randomisation allows
abbrev pub InRange : Event → ℕ → Type 0
InRange e draw = drawn e.randomize_start draw ≡ true

-- the moment is the least of the drawn starts over all start draws in range
pub record LeastStart (e : Event) (t : ℕ) : Type 0 where
  -- not after any
  pub not_after : (draw : ℕ) → InRange e draw → t ≤ drawn_start (with_draw e draw)
  -- and reached by one
  pub reached : (draw : ℕ) × InRange e draw × (drawn_start (with_draw e draw) ≡ t)

-- Document 02, #101: Earliest Effective Start Time
pub record EarliestClauses : Type 0 where
  -- when the event might begin at the earliest: the least of the drawn starts over all start draws in range
  pub least : (e : Event) (t : ℕ) → t ≡ earliest_start e ↔ LeastStart e t
  -- the lesser of start and start + randomizeStart; of an event that passes 7 nothing is cut off
  pub exact : (e : Event) → malformed e ≡ false → earliest_start e + 32768 ≡ min (e.start + 32768) (e.start + lift e.randomize_start)
  -- the listing carries the third time of the period that was worked out at the receipt
  pub carried : (e : Event) (receipt : ℕ) → (record_of (entry receipt e)).earliest ≡ (period_of e receipt).earliest
  -- a late receipt does not move it
  pub receipt : (e : Event) (r k : ℕ) → (record_of (entry r e)).earliest ≡ (record_of (entry k e)).earliest
  -- nor does anything else that happens to the event
  pub event : (h o : Entry) → h.event ≡ o.event → (record_of h).earliest ≡ (record_of o).earliest
  -- it is not after the effective start
  pub in_time : (e : Event) (receipt : ℕ) → malformed e ≡ false → (period_of e receipt).earliest ≤ (period_of e receipt).start
  pub listed : (s : Schedule) (h : Entry) → sound s ≡ true → In h (view s).entries → (record_of h).earliest ≤ h.begins

-- the event holds the control at the moment
abbrev pub Holds : List Program → List Timed → ℕ → ℕ → Timed → Type 0
Holds ps ts t c x = has (holding ps ts t x).held c ≡ true

abbrev pub Better : List Program → Timed → Timed → Type 0
Better ps o x = better (rank_of ps o.event) (rank_of ps x.event) ≡ true

-- no better event holds the control at the moment
abbrev pub Free : List Program → List Timed → ℕ → ℕ → Timed → Type 0
Free ps ts t c x = (o : Timed) → In o ts → Better ps o x → Holds ps ts t c o → ⊥

abbrev pub Carries : ℕ → Timed → Type 0
Carries c x = has x.event.controls c ≡ true

abbrev pub ends : Timed → ℕ
ends x = effective_end x.event

-- no cancellation at a clock before the moment
abbrev pub Standing : ℕ → Timed → Type 0
Standing t x = (k : ℕ) → x.cancelled ≡ some k → t ≤ k

-- Who holds a control, better
pub record RankClauses : Type 0 where
  -- nobody is better than itself
  pub strict : (a : Rank) → better a a ≡ false
  pub transitive : (a b c : Rank) → better a b ≡ true → better b c ≡ true → better a c ≡ true
  -- of two with different ids one is better
  pub total : (a b : Rank) → (a.id ≡ b.id → ⊥) → (better a b ≡ true) ⊎ (better b a ≡ true)

-- Who holds a control, of a history's events
pub record HoldingClauses (ps : List Program) (ts : List Timed) : Type 0 where
  -- holds from the effective start, unless a better event holds it at that moment
  pub from_start : (t c : ℕ) (x : Timed) → In x ts → x.begins ≡ suc t → suc t < ends x → Standing (suc t) x → Carries c x
      → Holds ps ts (suc t) c x ↔ Free ps ts (suc t) c x
  -- goes on holding, until a better event holds it
  pub until_better : (t c : ℕ) (x : Timed) → In x ts → x.begins ≤ t → suc t < ends x → Standing (suc t) x
      → Holds ps ts (suc t) c x ↔ (Holds ps ts t c x × Free ps ts (suc t) c x)
  -- holds what it carries, and nothing before its effective start
  pub not_before : (t c : ℕ) (x : Timed) → In x ts → Holds ps ts t c x → Carries c x × (x.begins ≤ t)
  -- nor from its effective end on, so that at one moment ends come before starts
  pub not_after : (t c : ℕ) (x : Timed) → Holds ps ts t c x → t < ends x
  -- nor after the moment of its cancellation, and nothing once the call is made
  pub not_cancelled : (t c : ℕ) (x : Timed) → Holds ps ts t c x → Standing t x
  pub gone_at_once : (t : ℕ) (x : Timed) → gone_by t x.cancelled ≡ true → (seen ps ts t x).held ≡ 0
  -- never gets it back
  pub never_back : (t u c : ℕ) (x : Timed) → In x ts → x.begins ≤ t → t ≤ u → Holds ps ts u c x → Holds ps ts t c x
  -- closed form: one interval, from the effective start to the first of end, cancellation and a better holder
  pub interval : (t c : ℕ) (x : Timed) → In x ts → 0 < x.begins
      → Holds ps ts t c x ↔ (Carries c x × (x.begins ≤ t) × (t < ends x) × Standing t x × ((u : ℕ) → x.begins ≤ u → u ≤ t → Free ps ts u c x))
  -- at most one holder of a control at a moment
  pub one_holder : (t c : ℕ) (x y : Timed) → In x ts → In y ts → (id_of x.event ≡ id_of y.event → ⊥) → Holds ps ts t c x → Holds ps ts t c y → ⊥

-- the event holds some control at the moment
abbrev pub HoldsAny : List Program → List Timed → ℕ → Timed → Type 0
HoldsAny ps ts t x = (c : ℕ) × Holds ps ts t c x

-- Response rows, code: what the event gives at moment suc t, 0 for nothing
abbrev pub code_given : List Program → List Timed → ℕ → Timed → ℕ
code_given ps ts t x = code_at (suc t) (seen ps ts t x) (holding ps ts (suc t) x)

-- Response rows, row: with the code that the event gives at moment suc t
abbrev pub row_given : List Program → List Timed → ℕ → Timed → Row
row_given ps ts t x = record { time = suc t; id = id_of x.event; code = code_given ps ts t x }

-- the event ends at moment suc t, was not cancelled before, and held some control until then
abbrev pub EndsHolding : List Program → List Timed → ℕ → Timed → Type 0
EndsHolding ps ts t x = (ends x ≡ suc t) × Standing (suc t) x × HoldsAny ps ts t x

-- Response rows, of a history's events
pub record RowClauses (ps : List Program) (ts : List Timed) : Type 0 where
  -- an event not cancelled before the moment gives 2 at its start if it holds any control then
  pub at_start : (t : ℕ) (x : Timed) → code_given ps ts t x ≡ 2 ↔ ((x.begins ≡ suc t) × Standing (suc t) x × HoldsAny ps ts (suc t) x)
  -- 3 at its end if it held any until then; document 02, #102: 3, 8, 9 or 10
  pub at_end : (t : ℕ) (x : Timed) → ending (code_given ps ts t x) ≡ true ↔ EndsHolding ps ts t x
  -- 7 at its start if it holds none, or when a better one takes its last control
  pub superseded : (t : ℕ) (x : Timed)
      → code_given ps ts t x ≡ 7 ↔ ((suc t < ends x) × Standing (suc t) x × (HoldsAny ps ts (suc t) x → ⊥) × ((x.begins ≡ suc t) ⊎ HoldsAny ps ts t x))
  -- a better one takes it: each control that it held a second before, a better event holds then
  pub taken : (t c : ℕ) (x : Timed) → code_given ps ts t x ≡ 7 → Holds ps ts t c x → (o : Timed) × In o ts × Better ps o x × Holds ps ts (suc t) c o
  -- it gives no other code
  pub only : (t : ℕ) (x : Timed)
      → (code_given ps ts t x ≡ 0) ⊎ ((code_given ps ts t x ≡ 2) ⊎ ((ending (code_given ps ts t x) ≡ true) ⊎ (code_given ps ts t x ≡ 7)))
  -- the rows of the moments from 1 to u are what the events give in them, and nothing else
  pub rows : (u : ℕ) (r : Row) → In r (rows_to ps ts u) ↔ ((t : ℕ) × (x : Timed) × (t < u) × In x ts × (code_given ps ts t x ≡ 0 → ⊥) × (r ≡ row_given ps ts t x))

-- Response rows: how many an event has given up to moment t
unfoldable pub given : List Program → List Timed → ℕ → Timed → ℕ
given ps ts zero x = 0
given ps ts (suc t) x = given ps ts t x + cond (eqb (code_given ps ts t x) 0) 0 1

-- whether an entry begins or ends at moment t
unfoldable pub busy : ℕ → List Entry → Bool
busy t [] = false
busy t (h ∷ hs) = eqb h.begins t || (eqb (end_of h) t || busy t hs)

-- Who holds a control and Response rows, from one moment to the next
pub record MomentClauses : Type 0 where
  -- an event that holds nothing blocks nobody: without it, all others hold the same
  pub blocks_nobody : (ps : List Program) (t : ℕ) (before after : List Entry) (o : Entry) → held_at ps t (before ++ (o ∷ after)) o ≡ 0
      → (h : Entry) → held_at ps t (before ++ after) h ≡ held_at ps t (before ++ (o ∷ after)) h
  -- an event gives no row after its cancellation
  pub silent : (t : ℕ) (h : Entry) (now : Holding) → h.cancelled ≡ true → code_at t h now ≡ 0
  -- an event gives at most two rows in its life
  pub two_rows : (ps : List Program) (ts : List Timed) (t : ℕ) (x : Timed) → given ps ts t x ≤ 2
  -- the rows of a clock call go by time, then code in the order 3, 7, 2, with 8, 9 and 10 where 3 stands, then id
  pub in_order : (s : Schedule) → sound s ≡ true → (reading : ℕ) → Pairwise Sooner (passed (view s) reading).rows
  -- a clock call gives at most two for each held event, so at most `most_rows`
  pub few_rows : (s : Schedule) → sound s ≡ true → (reading : ℕ) → length (passed (view s) reading).rows ≤ most_rows
  -- where nothing begins or ends, a second changes the clock and the marks of the choices alone
  pub quiet : (s : Schedule) → sound s ≡ true → busy (suc s.clock) (view s).entries ≡ false
      → second (view s) ≡ record { state = record { clock = suc s.clock; programs = s.programs; entries = map remarked (view s).entries }; rows = [] }

-- Document 02, #102: in each second up to t in which the event held something, the user was out, or in each was in. A choice made at clock u counts from
-- second suc u on.
abbrev pub Throughout : List Program → List Timed → ℕ → Bool → Timed → Type 0
Throughout ps ts t out x = (u : ℕ) → suc u ≤ t → HoldsAny ps ts (suc u) x → out_by u x.choices ≡ out

-- in some of them in and in some out, and at moment suc t out, or in
abbrev pub InPart : List Program → List Timed → ℕ → Bool → Timed → Type 0
InPart ps ts t out x = (Throughout ps ts t false x → ⊥) × (Throughout ps ts t true x → ⊥) × (out_by t x.choices ≡ out)

-- the event with other choices
abbrev pub rechosen : (Timed → List Chosen) → Timed → Timed
rechosen f x = record { event = x.event; begins = x.begins; cancelled = x.cancelled; choices = f x }

-- Document 02, #102, of a history's events
pub record ChoiceClauses (ps : List Program) (ts : List Timed) : Type 0 where
  -- at its end the event gives 3 exactly if the user was in for every second that it held something, 10 exactly if out for each
  pub always_in : (t : ℕ) (x : Timed) → code_given ps ts t x ≡ 3 ↔ (EndsHolding ps ts t x × Throughout ps ts t false x)
  pub always_out : (t : ℕ) (x : Timed) → code_given ps ts t x ≡ 10 ↔ (EndsHolding ps ts t x × Throughout ps ts t true x)
  -- otherwise 8 exactly if out at the effective end, and 9 exactly if in
  pub out_at_end : (t : ℕ) (x : Timed) → code_given ps ts t x ≡ 8 ↔ (EndsHolding ps ts t x × InPart ps ts t true x)
  pub in_at_end : (t : ℕ) (x : Timed) → code_given ps ts t x ≡ 9 ↔ (EndsHolding ps ts t x × InPart ps ts t false x)
  -- choices change no held mask, whatever they are and whichever events they are on; starts and ends have none in them
  pub same_masks : (f : Timed → List Chosen) (t : ℕ) (x : Timed) → (holding ps (map (rechosen f) ts) t (rechosen f x)).held ≡ (holding ps ts t x).held
  -- nor do they change what another event gives: one on which the choices are the same gives the same codes
  pub same_codes : (f : Timed → List Chosen) (t : ℕ) (x : Timed) → f x ≡ x.choices
      → code_given ps (map (rechosen f) ts) t (rechosen f x) ≡ code_given ps ts t x

-- Numbers given: none before 10 applies to the delivery
pub record Fit (s : State) (e : Event) : Type 0 where
  -- not 3: its program number is not above 7
  pub program : e.program ≤ 7
  -- not 6: its program was added
  pub added : (program_at s.programs e.program).added ≡ true
  -- not 7: nothing in it is out of range
  pub is_well_formed : malformed e ≡ false
  -- not 8: its id is not held
  pub new : All (λ h. id_of h.event ≡ id_of e → ⊥) s.entries
  -- not 9: it does not come too late
  pub in_time : late s.clock e ≡ false

-- Calls and Numbers given
pub record CallClauses : Type 0 where
  -- a refused call leaves the schedule, the buffer and the list as they came in
  pub unchanged : (s : Schedule) (c : Call) → ((call s c).number ≡ 0 → ⊥)
      → ((call s c).state ≡ s) × ((call s c).bytes ≡ lent_bytes c) × ((call s c).records ≡ lent_list c)
  -- a schedule that breaks a rule is refused with 2, whatever is asked of it
  pub broken : (s : Schedule) (c : Call) → sound s ≡ false → (call s c).number ≡ 2
  -- an event given again, every field the same, is accepted and changes nothing
  pub again : (s : Schedule) (h : Entry) → sound s ≡ true → In h (view s).entries
      → call s (deliver h.event) ≡ record { number = 0; value = code 0; state = s; bytes = []; records = [] }
  -- an event with another field under a held id, a fresh draw too, is never accepted; the halves of both ids fit, as those of every id by value do
  pub redrawn : (s : Schedule) (h : Entry) (e : Event) → sound s ≡ true → In h (view s).entries → IdFits h.event.id → IdFits e.id → id_of h.event ≡ id_of e
      → (h.event ≡ e → ⊥)
      → (call s (deliver e)).number ≡ 0 → ⊥
  -- a cancellation of a held event gives code 6, or 0 if it was cancelled before
  pub cancelled : (s : Schedule) (h : Entry) → sound s ≡ true → In h (view s).entries
      → ((call s (cancel (id_of h.event))).number ≡ 0) × ((call s (cancel (id_of h.event))).value ≡ cond h.cancelled (code 0) (code 6))
  -- after an accepted cancellation the same one again gives code 0
  pub cancelled_again : (s : Schedule) (i : ℕ) → sound s ≡ true → (call s (cancel i)).number ≡ 0
      → ((call (call s (cancel i)).state (cancel i)).number ≡ 0) × ((call (call s (cancel i)).state (cancel i)).value ≡ code 0)
  -- 10 is given at 48 held events and not before, to an event to which no number before 10 applies
  pub full : (s : Schedule) (e : Event) → sound s ≡ true → (call s (deliver e)).number ≡ 10 ↔ ((length (view s).entries ≡ most_events) × Fit (view s) e)
  -- 13 is given for a buffer that is shorter than the rows, and not for one that they fit; a reading that 12 refuses gets 12
  pub too_short : (s : Schedule) (t : ℕ) (b : List ℕ) → sound s ≡ true
      → (call s (set_clock t b)).number ≡ 13 ↔ ((s.clock ≤ t) × (t ≤ last_clock) × (length b < row_size * length (passed (view s) t).rows))
  -- 13 is given for a list that is shorter than the held events, and not for one that they fit
  pub short_list : (s : Schedule) (r : List Record) → sound s ≡ true → (call s (list r)).number ≡ 13 ↔ (length r < length (view s).entries)
  -- the same reading is accepted, whatever the buffer, and writes nothing
  pub same_reading : (s : Schedule) (b : List ℕ) → sound s ≡ true
      → call s (set_clock s.clock b) ≡ record { number = 0; value = count 0; state = s; bytes = b; records = [] }

-- Document 02, #102, the calls
pub record ChoosingClauses : Type 0 where
  -- a choice on a held event gives 4 for out and 5 for in, or 0 if it repeats the present choice
  pub gives_code : (s : Schedule) (h : Entry) (out : Bool) → sound s ≡ true → In h (view s).entries
      → ((call s (choose (entry_id h) out)).number ≡ 0)
      × ((call s (choose (entry_id h) out)).value ≡ cond (differ h.choice.out out) (cond out (code 4) (code 5)) (code 0))
  -- a choice that repeats the present one changes nothing
  pub repeated : (s : Schedule) (h : Entry) → sound s ≡ true → In h (view s).entries
      → call s (choose (entry_id h) h.choice.out) ≡ record { number = 0; value = code 0; state = s; bytes = []; records = [] }
  -- the other choice and back again, before the next second, leaves the schedule as it was, so that nothing later shows it
  pub back : (s : Schedule) (h : Entry) → sound s ≡ true → In h (view s).entries
      → (call (call s (choose (entry_id h) (not h.choice.out))).state (choose (entry_id h) h.choice.out)).state ≡ s

-- the program under the number was added, and its defaults carry the control
abbrev pub Offers : List Program → ℕ → ℕ → Type 0
Offers ps c n = (n < length ps) × ((program_at ps n).added ≡ true) × (has (program_at ps n).defaults c ≡ true)

-- Calls, ask for a control: the program is the one whose default holds where no event does
pub record BestOffer (ps : List Program) (c : ℕ) (r : Ranked) : Type 0 where
  -- its defaults carry the control
  pub offers : Offers ps c r.number
  pub primacy : (program_at ps r.number).primacy ≡ r.primacy
  -- the best primacy of those that do; ties: smaller number
  pub best : (n : ℕ) → Offers ps c n → (r.primacy < (program_at ps n).primacy) ⊎ ((r.primacy ≡ (program_at ps n).primacy) × (r.number ≤ n))

-- Calls, ask for a control: the default
pub record DefaultClause : Type 0 where
  -- else the program with the best primacy whose defaults carry it (ties: smaller number)
  pub best : (ps : List Program) (c : ℕ) (r : Ranked) → best_default c 0 ps ≡ some r ↔ BestOffer ps c r
  -- else none
  pub nobody : (ps : List Program) (c : ℕ) → best_default c 0 ps ≡ none ↔ ((n : ℕ) → Offers ps c n → ⊥)

-- the halves of an id in an answer fit, as those of every answer by value do
abbrev pub AnswerFits : Result Reply Refusal → Type 0
AnswerFits (Ok (Code k)) = Unit {0}
AnswerFits (Ok (Count n)) = Unit {0}
AnswerFits (Ok (Holder i)) = IdFits i
AnswerFits (Ok (Default p)) = Unit {0}
AnswerFits (Ok Nobody) = Unit {0}
AnswerFits (Err e) = Unit {0}

-- Form by location, answers that are enums: their numbers and values tell them apart
pub record AnswerClause : Type 0 where
  pub apart : (a b : Result Reply Refusal) → AnswerFits a → AnswerFits b → number_of a ≡ number_of b → value_of a ≡ value_of b → a ≡ b

-- Frames and image, C hosts
pub record FaceClauses : Type 0 where
  -- an image that is none is refused with 2, and no byte of it changes
  pub broken : (l : List ℕ) (op : Operation) (lent : List ℕ) → imaged l ≡ false → face l op lent ≡ record { returned = negative 2; image = l; lent = lent }
  -- a call that is refused by value is refused with the same number, and no byte changes
  pub unchanged : (l : List ℕ) (op : Operation) (lent : List ℕ) → imaged l ≡ true → ((call (loaded l) (as_call op lent)).number ≡ 0 → ⊥)
      → face l op lent ≡ record { returned = negative (call (loaded l) (as_call op lent)).number; image = l; lent = lent }
  -- a call that is accepted by value answers and leaves the image as that call does; a question's holder needs room for its id
  pub same : (l : List ℕ) (op : Operation) (lent : List ℕ) → imaged l ≡ true → (call (loaded l) (as_call op lent)).number ≡ 0
      → id_too_long (call (loaded l) (as_call op lent)).value (length lent) ≡ false
      → face l op lent ≡ record { returned = shown (call (loaded l) (as_call op lent)).value; image = image (call (loaded l) (as_call op lent)).state; lent = lent_after op (call (loaded l) (as_call op lent)) lent }
  -- a question whose holder's id does not fit is refused with 13, and no byte changes
  pub too_short : (l : List ℕ) (op : Operation) (lent : List ℕ) → imaged l ≡ true → (call (loaded l) (as_call op lent)).number ≡ 0
      → id_too_long (call (loaded l) (as_call op lent)).value (length lent) ≡ true
      → face l op lent ≡ record { returned = negative 13; image = l; lent = lent }
  -- the fresh image is accepted, and is that of the fresh schedule
  pub fresh : (l : List ℕ) → length l ≡ image_size → (imaged (face_fresh l).image ≡ true) × (loaded (face_fresh l).image ≡ pad fresh)

-- Frames and image, the program
pub record ProgramClause : Type 0 where
  -- the buffer that it lends fits the rows of every reading, so that 13 is never printed
  pub room_fits : (s : Schedule) (t : ℕ) → sound s ≡ true → (call s (set_clock t room)).number ≡ 13 → ⊥

-- Frames and image: the rules are kept by every call
pub record SoundClause : Type 0 where
  pub kept : (s : Schedule) → sound s ≡ true → (c : Call) → sound (call s c).state ≡ true

-- Frames and image: an image and its schedule give each other back
pub record ImageKept (s : Schedule) : Type 0 where
  -- the image keeps its length and every rule
  pub accepted : imaged (image s) ≡ true
  -- the schedule in it is the one that it was made of
  pub back : loaded (image s) ≡ s

pub record Clauses : Type 0 where
  pub ids : IdClauses
  pub earliest : EarliestClauses
  pub rank : RankClauses
  pub holding : (ps : List Program) (ts : List Timed) → HoldingClauses ps ts
  pub rows : (ps : List Program) (ts : List Timed) → RowClauses ps ts
  pub moments : MomentClauses
  pub choices : (ps : List Program) (ts : List Timed) → ChoiceClauses ps ts
  pub calls : CallClauses
  pub choosing : ChoosingClauses
  pub defaults : DefaultClause
  pub answers : AnswerClause
  pub face : FaceClauses
  pub program : ProgramClause
  pub sound : SoundClause
