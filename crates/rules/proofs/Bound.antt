-- How many rows: an event may give two until it begins, then one while it holds anything, and none after. No moment gives more than it takes off this.
use mathlib.Core.Path.{◌≡◌, refl}
use mathlib.Core.Logic.{⊎_elim}
use Prim.Native.Nat.{ℕ, zero, suc, ◌+◌, ◌-◌, ◌*◌, ◌<◌, ◌≤◌}
use native.Mathlib.Nat.{eq-or-lt_of_le}
use native.Mathlib.Omega.{arith}
use mathlib.Core.Bool.{Bool, true, false, cond, not, ◌||◌}
use mathlib.Core.List.{List, [], ◌∷◌, map}
use lib.Dec.{ltb, eqb}
use lib.ListN.{length, length-append}
use borrow.Author.Tests.{ltb-true, ltb-false, eqb-true, eqb-false, lt-ltb, le-ltb, ne_eqb}
use Rattle.rules.specs.declared.Entry.{Entry}
use Rattle.rules.specs.declared.Program.{Program}
use Rattle.rules.specs.declared.Schedule.{Schedule}
use Rattle.rules.specs.Lists.{keep}
use Rattle.rules.specs.Records.{State, view, most_rows}
use Rattle.rules.specs.Holding.{claim, Holding, holding_at, with_holding, end_of}
use Rattle.rules.specs.Rows.{end_code, code_at, row_of, rows_with, rows_from, rows_at, ending, superseded, starting}
use Rattle.rules.specs.Moments.{lasts, entries_from, Moved, second, advance, passed}
use Rattle.rules.specs.Sound.{sound}
use Rattle.rules.specs.Schedules.{Timed, gone_by, holding, seen}
use Rattle.rules.specs.Clauses.{given}
use Rattle.rules.proofs.Tests.{cond_same}
use Rattle.rules.proofs.Claims.{claim_ended, code_early, nothing_held}
use Rattle.rules.proofs.SoundState.{sound_view}

-- 1, and 0 for the number 0: whether a code is a row, whether a mask has a control
abbrev any : ℕ → ℕ
any n = cond (eqb n 0) 0 1

-- the rows that an event may still give after moment t, by its start and by what it holds then
abbrev left : ℕ → ℕ → ℕ → ℕ
left t begins held = cond (ltb t begins) 2 (any held)

any_one : (n : ℕ) → any n ≤ 1
any_one n = go (eqb n 0)
  where
    go : (b : Bool) → cond b 0 1 ≤ 1
    go true = omega arith
    go false = omega arith

left_two : (t begins held : ℕ) → left t begins held ≤ 2
left_two t begins held = go (ltb t begins)
  where
    go : (b : Bool) → cond b 2 (any held) ≤ 2
    go true = omega arith
    go false = omega (arith, any_one held)

-- One entry at one moment.

module _ (t : ℕ) (h : Entry) (now : Holding) (nothing : claim (suc t) h ≡ 0 → now.held ≡ 0) where
  -- no more rows than the moment takes off what was left
  abbrev Fewer : Type 0
  Fewer = any (code_at (suc t) h now) + left (suc t) h.begins now.held ≤ left t h.begins h.held

  early : suc t < h.begins → Fewer
  early l = rw (code_early (suc t) h now l, lt-ltb (suc t) h.begins l, lt-ltb t h.begins (omega arith)) (omega arith)

  first : suc t ≡ h.begins → Fewer
  first e = rw (le-ltb (suc t) h.begins (omega arith), lt-ltb t h.begins (omega arith)) (omega (arith, any_one (code_at (suc t) h now), any_one now.held))

  later : h.begins ≤ t → Fewer
  unfolding code_at claim
  later l = rw (le-ltb t h.begins l, le-ltb (suc t) h.begins (omega arith), other) (go (eqb h.held 0) (eqb now.held 0) refl refl)
    where
      other : eqb h.begins (suc t) ≡ false
      other = ne_eqb h.begins (suc t) (omega arith)

      dead : Bool
      dead = h.cancelled || ltb (end_of h) (suc t) || false

      held_none : h.held ≡ 0 → now.held ≡ 0
      held_none e = nothing (rw (other, e, cond_same))

      ended_none : end_of h ≡ suc t → now.held ≡ 0
      ended_none e = nothing (claim_ended (suc t) h (omega arith))

      go : (old new : Bool) → eqb h.held 0 ≡ old → eqb now.held 0 ≡ new
          → any (cond dead 0 (cond (eqb (end_of h) (suc t)) (cond old 0 (end_code h.choice)) (cond (old || not new) 0 7))) + cond new 0 1 ≤ cond old 0 1
      go true true p q = simp cond_same (omega arith)
      go true false p q = absurd (eqb-false now.held 0 q (held_none (eqb-true h.held 0 p)))
      go false true p q = omega (arith, any_one (cond dead 0 (cond (eqb (end_of h) (suc t)) (end_code h.choice) 7)))
      go false false p q = rw (ne_eqb (end_of h) (suc t) (λ e. eqb-false now.held 0 q (ended_none e)), cond_same) (omega arith)

  step : Fewer
  step = go (ltb t h.begins) refl
    where
      go : (b : Bool) → ltb t h.begins ≡ b → Fewer
      go true p = ⊎_elim first early (eq-or-lt_of_le (ltb-true t h.begins p))
      go false p = later (ltb-false t h.begins p)

-- One event over time.

left_less : (t begins held : ℕ) (b : Bool) → left t begins (cond b 0 held) ≤ left t begins held
left_less t begins held b = go (ltb t begins) b
  where
    go : (d b : Bool) → cond d 2 (any (cond b 0 held)) ≤ cond d 2 (any held)
    go true b = omega arith
    go false true = omega arith
    go false false = omega arith

given_left : (ps : List Program) (ts : List Timed) (t : ℕ) (x : Timed) → given ps ts t x + left t x.begins (seen ps ts t x).held ≤ 2
unfolding given holding holding_at
given_left ps ts zero x = omega (arith, left_two 0 x.begins (seen ps ts 0 x).held)
given_left ps ts (suc t) x =
    omega (
      arith,
      given_left ps ts t x,
      step t (seen ps ts t x) (holding ps ts (suc t) x) (nothing_held ps (suc t) (map (seen ps ts t) ts) (seen ps ts t x)),
      left_less (suc t) x.begins (holding ps ts (suc t) x).held (gone_by (suc t) x.cancelled),
    )

pub two_rows : (ps : List Program) (ts : List Timed) (t : ℕ) (x : Timed) → given ps ts t x ≤ 2
two_rows ps ts t x = omega (arith, given_left ps ts t x)

-- All entries at one moment.

abbrev total : ℕ → List Entry → ℕ
total t [] = 0
total t (h ∷ hs) = left t h.begins h.held + total t hs

-- how many of the three kinds a code is of
abbrev kinds : ℕ → ℕ
kinds code = cond (ending code) 1 0 + (cond (superseded code) 1 0 + cond (starting code) 1 0)

one_kind : (code : ℕ) → kinds code ≤ any code
one_kind code = go (superseded code) (starting code) (eqb code 0) refl refl refl
  where
    go : (a b c : Bool) → superseded code ≡ a → starting code ≡ b → eqb code 0 ≡ c → kinds code ≤ any code
    go true b c p q r = rw (eqb-true code 7 p) (omega arith)
    go false true c p q r = rw (eqb-true code 2 q) (omega arith)
    go false false true p q r = rw (eqb-true code 0 r) (omega arith)
    go false false false p q r = rw (p, q, r) (one (ending code))
      where
        one : (d : Bool) → cond d 1 0 + (0 + 0) ≤ 1
        one true = omega arith
        one false = omega arith

module _ (t : ℕ) (now : Entry → Holding) where
  length_from : (hs : List Entry)
      → length (rows_from t now hs) ≡ length (rows_with t now hs ending) + (length (rows_with t now hs superseded) + length (rows_with t now hs starting))
  unfolding rows_from
  length_from hs = simp length-append

  length_with : (h : Entry) (hs : List Entry) (kind : ℕ → Bool)
      → length (rows_with t now (h ∷ hs) kind) ≡ cond (kind (code_at t h (now h))) 1 0 + length (rows_with t now hs kind)
  unfolding rows_with
  length_with h hs kind = go (kind (code_at t h (now h)))
    where
      rest : List Entry
      rest = keep (λ h. kind (code_at t h (now h))) hs

      go : (b : Bool) → length (map (row_of t now) (cond b (h ∷ rest) rest)) ≡ cond b 1 0 + length (map (row_of t now) rest)
      go true = omega arith
      go false = omega arith

  total_from : (h : Entry) (hs : List Entry) → total t (entries_from t now (h ∷ hs)) ≤ left t h.begins (now h).held + total t (entries_from t now hs)
  unfolding entries_from
  total_from h hs = go (lasts t h)
    where
      go : (b : Bool) → total t (map (λ h. with_holding h (now h)) (cond b (h ∷ keep (lasts t) hs) (keep (lasts t) hs)))
          ≤ left t h.begins (now h).held + total t (map (λ h. with_holding h (now h)) (keep (lasts t) hs))
      go true = omega arith
      go false = omega arith

moment_less : (t : ℕ) (now : Entry → Holding) → ((h : Entry) → claim (suc t) h ≡ 0 → (now h).held ≡ 0) → (hs : List Entry)
    → length (rows_from (suc t) now hs) + total (suc t) (entries_from (suc t) now hs) ≤ total t hs
unfolding rows_from rows_with entries_from
moment_less t now nothing [] = omega arith
moment_less t now nothing (h ∷ hs) =
    omega (
      arith,
      moment_less t now nothing hs,
      step t h (now h) (nothing h),
      one_kind (code_at (suc t) h (now h)),
      length_from (suc t) now (h ∷ hs),
      length_from (suc t) now hs,
      length_with (suc t) now h hs ending,
      length_with (suc t) now h hs superseded,
      length_with (suc t) now h hs starting,
      total_from (suc t) now h hs,
    )

-- All entries over time.

abbrev Less : State → Moved → Type 0
Less s m = length m.rows + total m.state.clock m.state.entries ≤ total s.clock s.entries

second_less : (s : State) → Less s (second s)
unfolding second rows_at holding_at
second_less s =
    let t = suc s.clock in
    moment_less s.clock (holding_at s.programs t s.entries) (nothing_held s.programs t s.entries) s.entries

advance_less : (n : ℕ) (s : State) → Less s (advance n s)
unfolding advance
advance_less zero s = omega arith
advance_less (suc n) s = rw length-append (omega (arith, second_less s, advance_less n (second s).state))

total_two : (t : ℕ) (hs : List Entry) → total t hs ≤ 2 * length hs
total_two t [] = omega arith
total_two t (h ∷ hs) = omega (arith, left_two t h.begins h.held, total_two t hs)

pub few_rows : (s : Schedule) → sound s ≡ true → (reading : ℕ) → length (passed (view s) reading).rows ≤ most_rows
few_rows s e reading = omega (arith, advance_less (reading - s.clock) (view s), total_two s.clock (view s).entries, (sound_view s e).room)
