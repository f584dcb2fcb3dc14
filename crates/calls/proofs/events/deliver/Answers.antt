-- A number that applies is given. Else the event is held already, and nothing changes, or it is taken in.
use mathlib.Core.Path.{◌≡◌, refl, sym, ap, ◌∙◌, ap₂}
use mathlib.Core.Bool.{true, false}
use mathlib.Core.List.{[]}
use mathlib.Core.Option.{Option}
use Prim.Native.Nat.{ℕ, ◌+◌, min}
use native.Mathlib.Omega.{arith}
use Rattle.rules.specs.declared.Reply.TheVariants.{Code}
use Rattle.std.specs.Prelude.{Ok}
use Rattle.std.proofs.lemmas.Result.{err_from_is_err_and}
use Rattle.rules.specs.declared.Event.{Event}
use Rattle.rules.specs.declared.Period.{Period}
use Rattle.rules.specs.declared.Choice.{Choice}
use Rattle.rules.specs.declared.Entry.{Entry}
use Rattle.rules.specs.declared.Schedule.{Schedule}
use Rattle.rules.specs.Records.{State, view, pad, id_of, no_choice, last_clock}
use Rattle.rules.specs.Sound.{sound}
use Rattle.rules.specs.Period.{period_of}
use Rattle.rules.specs.Refusals.{first_of, find}
use Rattle.rules.specs.Calls.{Done, deliver, entry, received, receive, checks, does, accepted, call}
use Rattle.rules.proofs.SoundState.{sound_view}
use Rattle.rules.proofs.CallLaws.{done}
use Rattle.calls.specs.Answered.{told}
use Rattle.calls.specs.Found.{Free, CanOpen, widened}
use Rattle.calls.proofs.Slots.{in_slots, in_use, fits, unused, says}
use Rattle.calls.proofs.Placing.{put_in, put_in_unused}
use Rattle.calls.proofs.Acting.{kept, refuses, room, held, free}
use Rattle.calls.proofs.events.deliver.Goals as goal

-- what a delivery gives and leaves, by what is held
abbrev delivered : State → Event → Option Entry → Done
delivered s e old = record { state = receive s e old; value = received old; bytes = []; records = [] }

-- past every number: what is held under the id says what is done
done_by : (s : Schedule) → sound s ≡ true → (e : Event) → first_of (checks (view s) (deliver e)) ≡ 0 → {o : Option Entry} → find (id_of e) (view s).entries ≡ o
    → accepted (delivered (view s) e o) ≡ call s (deliver e)
unfolding does
done_by s g e z q = rw q at (sym (done s g (deliver e) z))

pub check-requires : goal.check-requires
check-requires c = c.place_of-place.ensures

pub returns-in_err-check : goal.returns-in_err-check
returns-in_err-check c =
    let why = err_from_is_err_and c.from_residual.result c.from_residual.ensures.1 in
    rw (why.1, why.2) (refuses c.args.s.now.schedule c.args.s.now.good (deliver c.args.e) c.in_err-check.field-0.0 refl refl c.in_err-check.ensures)

pub returns-in_default : goal.returns-in_default
returns-in_default c =
    let s = c.args.s.now in
    ap (λ r. told (Ok r) s.schedule) c.from.ensures ∙ ap (told (Ok (Code 0))) (says s.schedule (unused s.schedule s.good))
    ∙ done_by s.schedule s.good c.args.e (sym c.in_ok-check.ensures) (held s.schedule s.good (rw c.in_default.is at c.place_of-place.ensures))

-- there is room at the place
opens : (s : Schedule) → sound s ≡ true → (e : Event) {at : ℕ} → Free (view s).entries (id_of e) at → first_of (checks (view s) (deliver e)) ≡ 0 → CanOpen at s.count s.entries
opens s g e f z = record {
  within = omega (arith, f.placed.within, in_slots s.entries s.count (fits s g));
  room = room s g e z (free s g f);
  size = (in_use s g).size;
}

pub put_in-requires : goal.put_in-requires
put_in-requires c =
    let o = opens c.args.s.now.schedule c.args.s.now.good c.args.e (rw c.in-Err.is at c.place_of-place.ensures) (sym c.in_ok-check.ensures) in
    (o.within, omega (arith, o.room, o.size))

-- a new event comes in at its place
comes_in : (s : Schedule) → sound s ≡ true → (v : Event) {at : ℕ} → Free (view s).entries (id_of v) at → first_of (checks (view s) (deliver v)) ≡ 0
    → told (Ok (Code 1)) (record { clock = s.clock; count = s.count + 1; programs = s.programs; entries = widened s.entries s.count at (entry s.clock v) }) ≡ call s (deliver v)
comes_in s g v {at} f z =
    let o = opens s g v f z in
    let h = entry s.clock v in
    let now : Schedule = record { clock = s.clock; count = s.count + 1; programs = s.programs; entries = widened s.entries s.count at h } in
    ap (told (Ok (Code 1))) (says now (put_in_unused s.entries s.count (unused s g) o h))
    ∙ ap (λ es. told (Ok (Code 1)) (pad (record { clock = s.clock; programs = s.programs; entries = es })))
    (put_in s.entries s.count (omega (arith, o.room, o.size)) h at f.placed (free s g f))
    ∙ done_by s g v z (free s g f)

-- as it is taken in at the clock
new_entry : (s : Schedule) → sound s ≡ true → (v : Event) {t : Period} {n : Choice} → t ≡ period_of v (min s.clock last_clock) → n ≡ no_choice
    → record { event = v; begins = t.start; held = 0; cancelled = false; choice = n } ≡ entry s.clock v
new_entry s g v e f =
    let clock : min s.clock last_clock ≡ s.clock = omega (arith, (sound_view s g).clock) in
    ap₂ (λ (t : Period) (c : Choice). record { event = v; begins = t.start; held = 0; cancelled = false; choice = c }) (e ∙ ap (period_of v) clock) f

pub invariant_of-s : goal.invariant_of-s
invariant_of-s c =
    let s = c.args.s.now in
    let v = c.args.e in
    rw (c.put_in.ensures, new_entry s.schedule s.good v c.period-period.ensures c.none.ensures)
    (record { good = kept s.schedule s.good (deliver v) (comes_in s.schedule s.good v (rw c.in-Err.is at c.place_of-place.ensures) (sym c.in_ok-check.ensures)) })

pub returns : goal.returns
returns c =
    let s = c.args.s.now in
    let v = c.args.e in
    rw (c.from-2.ensures, c.put_in.ensures, new_entry s.schedule s.good v c.period-period.ensures c.none.ensures)
    (comes_in s.schedule s.good v (rw c.in-Err.is at c.place_of-place.ensures) (sym c.in_ok-check.ensures))

pub overflow_add-s : goal.overflow_add-s
overflow_add-s c = omega (arith, in_use c.args.s.now.schedule c.args.s.now.good)
