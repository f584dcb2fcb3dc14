-- The tests in their order: each number is given where the tests before it have failed.
use mathlib.Core.Path.{◌≡◌, sym, ◌∙◌}
use mathlib.Core.Bool.{Bool, true, false, cond, not, ◌&&◌}
use mathlib.Core.List.{[], ◌∷◌}
use mathlib.Core.Option.{Option}
use Prim.Native.Nat.{ℕ, ◌<◌, ◌≤◌}
use native.Mathlib.Omega.{arith}
use borrow.Author.Tests.{lt-ltb, le-ltb, lt-leb}
use lib.Dec.{leb}
use lib.ListN.{length}
use Rattle.rules.specs.declared.Event.{Event}
use Rattle.rules.specs.declared.Entry.{Entry}
use Rattle.rules.specs.declared.Schedule.{Schedule}
use Rattle.rules.specs.Sound.{sound, malformed, same_event}
use Rattle.rules.specs.Records.{State, view, id_of, program_at, most_events, last_program}
use Rattle.rules.specs.Refusals.{◌if◌, first_of, is_none, differs, find, late, event_checks}
use Rattle.rules.specs.Calls.{deliver, checks}
use Rattle.rules.proofs.Same.{equal_events}
use Rattle.rules.proofs.SoundState.{sound_view}
use Rattle.calls.specs.Found.{Bears, Free}
use Rattle.calls.specs.Sets.{event_at}
use Rattle.calls.proofs.Slots.{in_slots, slot_at, in_use, fits}
use Rattle.calls.proofs.Acting.{held, free, inside}
use Rattle.calls.proofs.events.check.Goals as goal

-- the tests that look at what is held
abbrev rest : State → Event → Option Entry → ℕ
rest s e o =
    first_of (8 if differs o e ∷ 9 if (is_none o && late s.clock e) ∷ 10 if (is_none o && leb most_events (length s.entries)) ∷ [])

-- past those that do not
past : (s : Schedule) (e : Event) → e.program ≤ last_program → (program_at s.programs e.program).added ≡ true → malformed e ≡ false → {o : Option Entry} → find (id_of e) (view s).entries ≡ o
    → first_of (checks (view s) (deliver e)) ≡ rest (view s) e o
unfolding checks event_checks
past s e l a m q = rw (q, le-ltb last_program _ l, a, m)

pub returns-then-e-gt-LAST : goal.returns-then-e-gt-LAST
unfolding checks event_checks
returns-then-e-gt-LAST c = sym (rw (lt-ltb last_program _ c.if-e-gt-LAST.true))

pub returns-then-not-s-e : goal.returns-then-not-s-e
unfolding checks event_checks
returns-then-not-s-e c = sym (rw (le-ltb last_program _ c.if-e-gt-LAST.false, c.if-not-s-e.true))

pub returns-then-is_malformed : goal.returns-then-is_malformed
unfolding checks event_checks
returns-then-is_malformed c =
    sym (rw (le-ltb last_program _ c.if-e-gt-LAST.false, c.if-not-s-e.false, sym c.is_malformed.ensures ∙ c.if-is_malformed.true))

pub offset_bounds-s-at : goal.offset_bounds-s-at
offset_bounds-s-at c = omega (arith, inside c.args.s.now.schedule c.args.s.now.good (rw c.in-Ok.is at c.requires))

pub bounds-s-at : goal.bounds-s-at
bounds-s-at c = omega (arith, inside c.args.s.now.schedule c.args.s.now.good (rw c.in-Ok.is at c.requires))

-- the event held is compared
compared : (s : Schedule) → sound s ≡ true → (e : Event) → e.program ≤ last_program → (program_at s.programs e.program).added ≡ true → malformed e ≡ false → {at : ℕ} → Bears (view s).entries (id_of e) at
    → {b : Bool} → b ≡ same_event (event_at s.entries at).event e → first_of (checks (view s) (deliver e)) ≡ cond (not b) 8 0
compared s g e l a m f q = past s e l a m (held s g f) ∙ rw (slot_at s.entries s.count (fits s g) _ (inside s g f).0, sym q)

pub returns-then-eq : goal.returns-then-eq
returns-then-eq c =
    let s = c.args.s.now in
    sym
    (compared s.schedule s.good c.args.e c.if-e-gt-LAST.false c.if-not-s-e.false (sym c.is_malformed.ensures ∙ c.if-is_malformed.false) (rw c.in-Ok.is at c.requires) (c.eq.ensures ∙ equal_events _ _)
    ∙ rw c.if-eq.true)

pub returns-in-Ok : goal.returns-in-Ok
returns-in-Ok c =
    let s = c.args.s.now in
    sym
    (compared s.schedule s.good c.args.e c.if-e-gt-LAST.false c.if-not-s-e.false (sym c.is_malformed.ensures ∙ c.if-is_malformed.false) (rw c.in-Ok.is at c.requires) (c.eq.ensures ∙ equal_events _ _)
    ∙ rw c.if-eq.false)

pub is_late-requires : goal.is_late-requires
is_late-requires c = (sound_view c.args.s.now.schedule c.args.s.now.good).clock

pub returns-then-is_late : goal.returns-then-is_late
returns-then-is_late c =
    let s = c.args.s.now in
    sym
    (past s.schedule c.args.e c.if-e-gt-LAST.false c.if-not-s-e.false (sym c.is_malformed.ensures ∙ c.if-is_malformed.false) (free s.schedule s.good (rw c.in_default.is at c.requires))
    ∙ rw (sym c.is_late.ensures ∙ c.if-is_late.true))

-- nothing is left but room
soon : (s : Schedule) → sound s ≡ true → (e : Event) → e.program ≤ last_program → (program_at s.programs e.program).added ≡ true → malformed e ≡ false → {at : ℕ} → Free (view s).entries (id_of e) at
    → late s.clock e ≡ false → first_of (checks (view s) (deliver e)) ≡ cond (leb most_events s.count) 10 0
soon s g e l a m f q = past s e l a m (free s g f) ∙ rw (q, in_slots s.entries s.count (fits s g))

pub returns-then-s-eq-EVENTS : goal.returns-then-s-eq-EVENTS
returns-then-s-eq-EVENTS c =
    let s = c.args.s.now in
    let full : s.schedule.count ≡ most_events = c.if-s-eq-EVENTS.true in
    sym
    (soon s.schedule s.good c.args.e c.if-e-gt-LAST.false c.if-not-s-e.false (sym c.is_malformed.ensures ∙ c.if-is_malformed.false) (rw c.in_default.is at c.requires) (sym c.is_late.ensures ∙ c.if-is_late.false)
    ∙ rw full)

pub returns : goal.returns
returns c =
    let s = c.args.s.now in
    let room : s.schedule.count < most_events = omega (arith, c.if-s-eq-EVENTS.false, (in_use s.schedule s.good).few) in
    sym
    (soon s.schedule s.good c.args.e c.if-e-gt-LAST.false c.if-not-s-e.false (sym c.is_malformed.ensures ∙ c.if-is_malformed.false) (rw c.in_default.is at c.requires) (sym c.is_late.ensures ∙ c.if-is_late.false)
    ∙ rw (lt-leb most_events s.schedule.count room))
