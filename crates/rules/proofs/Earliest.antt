-- A drawn start grows with its draw, and a draw lies between 0 and the randomisation: so the least of the drawn starts is at one of these two.
use mathlib.Core.Path.{◌≡◌, refl, ap}
use Prim.Native.Nat.{ℕ, ◌+◌, ◌-◌, ◌≤◌, min, max}
use mathlib.Core.Bool.{Bool, true, false, not, ◌||◌}
use native.Mathlib.Omega.{arith}
use borrow.Author.Tests.{leb-true, leb-false, le-leb, ltb-false, not-false}
use lib.Dec.{leb, ltb, eqb}
use Rattle.rules.specs.declared.Event.{Event}
use Rattle.rules.specs.declared.Entry.{Entry}
use Rattle.rules.specs.declared.Schedule.{Schedule}
use Rattle.rules.specs.Lists.{In}
use Rattle.rules.specs.Records.{view}
use Rattle.rules.specs.Period.{lift, plus, drawn_start, effective_start, earliest_start, period_of}
use Rattle.rules.specs.Sound.{outside, drawn, out_of_range, malformed, sound}
use Rattle.rules.specs.Calls.{entry, record_of}
use Rattle.rules.specs.Clauses.{with_draw, InRange, LeastStart, EarliestClauses}
use Rattle.rules.proofs.Tests.{either_false, each_true}
use Rattle.rules.proofs.SoundState.{sound_view}

-- the randomisation of a start, moved up by 32,768
abbrev spread : Event → ℕ
spread e = lift e.randomize_start

-- what passing 7 says of a start, its randomisation and its draw
record Passes (e : Event) : Type 0 where
  start : 3600 ≤ e.start
  randomisation : 32768 ≤ spread e + 3600
  draw : InRange e e.start_draw

passes : (e : Event) → malformed e ≡ false → Passes e
unfolding malformed out_of_range
passes e w =
    let starts = eqb e.controls 0 || ltb e.start 3600 in
    let lasts = starts || eqb e.duration 0 in
    let randomises = lasts || outside e.randomize_start in
    let draws = randomises || outside e.randomize_duration || not (drawn e.randomize_start e.start_draw) in
    let r₄ = either_false (randomises || outside e.randomize_duration) _ (either_false draws _ (either_false (out_of_range e) _ w).0).0 in
    let r₃ = either_false lasts _ (either_false randomises _ r₄.0).0 in
    let r₁ = either_false (eqb e.controls 0) _ (either_false starts _ r₃.0).0 in
    record {
      start = ltb-false e.start 3600 r₁.1;
      randomisation = omega (arith, ltb-false (spread e) (32768 - 3600) (either_false (ltb (spread e) (32768 - 3600)) _ r₃.1).0);
      draw = not-false (drawn e.randomize_start e.start_draw) r₄.1;
    }

-- a draw is in range from the lesser of 0 and the randomisation up to the greater
between : (e : Event) (d : ℕ) → min (spread e) 32768 ≤ lift d → lift d ≤ max (spread e) 32768 → InRange e d
between e d p q = rw (le-leb _ _ p, le-leb _ _ q)

at_least : (e : Event) (d : ℕ) → InRange e d → min (spread e) 32768 ≤ lift d
at_least e d q = leb-true (min (spread e) 32768) (lift d) (each_true (leb (min (spread e) 32768) (lift d)) _ q).0

least_start : (e : Event) → LeastStart e (earliest_start e)
unfolding earliest_start drawn_start
least_start e = record { not_after = λ d q. omega (arith, at_least e d q); reached = by (leb (spread e) 32768) refl }
  where
    by : (b : Bool) → leb (spread e) 32768 ≡ b → (d : ℕ) × InRange e d × (drawn_start (with_draw e d) ≡ earliest_start e)
    by true p = let l = leb-true (spread e) 32768 p in (e.randomize_start, between e _ (omega arith) (omega arith), omega arith)
    by false p =
        let l = leb-false (spread e) 32768 p in
        let start : plus e.start 0 ≡ earliest_start e = omega arith in
        (0, between e 0 (omega arith) (omega arith), start)

-- there is no other
only_least : (e : Event) (t : ℕ) → LeastStart e t → t ≡ earliest_start e
only_least e t m =
    let n = least_start e in
    let here = n.reached in
    let there = m.reached in
    omega (arith, m.not_after here.0 here.1, here.2, n.not_after there.0 there.1, there.2)

exact : (e : Event) → malformed e ≡ false → earliest_start e + 32768 ≡ min (e.start + 32768) (e.start + spread e)
unfolding earliest_start
exact e w = let p = passes e w in omega arith

-- a draw in range begins no event before its earliest start, and a late receipt only later
in_time : (e : Event) (receipt : ℕ) → malformed e ≡ false → (period_of e receipt).earliest ≤ (period_of e receipt).start
unfolding earliest_start drawn_start effective_start
in_time e receipt w = omega (arith, at_least e e.start_draw (passes e w).draw)

listed_in_time : (s : Schedule) (h : Entry) → sound s ≡ true → In h (view s).entries → (record_of h).earliest ≤ h.begins
unfolding earliest_start drawn_start
listed_in_time s h v m =
    let r = (sound_view s v).entries h m in
    omega (arith, at_least h.event h.event.start_draw (passes h.event r.well).draw, r.from)

carried_over : (e : Event) (receipt : ℕ) → (record_of (entry receipt e)).earliest ≡ (period_of e receipt).earliest
carried_over e receipt = refl

whenever_received : (e : Event) (r k : ℕ) → (record_of (entry r e)).earliest ≡ (record_of (entry k e)).earliest
whenever_received e r k = refl

by_event_lem : (h o : Entry) → h.event ≡ o.event → (record_of h).earliest ≡ (record_of o).earliest
by_event_lem h o p = ap earliest_start p

pub earliest_clauses : EarliestClauses
earliest_clauses =
    record {
      least = λ e t. (λ p. rw p (least_start e), only_least e t);
      exact = exact;
      carried = carried_over;
      receipt = whenever_received;
      event = by_event_lem;
      in_time = in_time;
      listed = listed_in_time;
    }
