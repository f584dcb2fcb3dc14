-- Rows ascend: of two events that give codes of one kind at one moment the ids ascend, since those of one id do not overlap.
use mathlib.Core.Path.{◌≡◌, refl, sym, ap, ◌∙◌}
use mathlib.Core.Logic.{◌⊎◌, inl, inr, ⊎_elim}
use Prim.Native.Nat.{ℕ, zero, suc, ◌-◌, ◌<◌, ◌≤◌}
use native.Mathlib.Omega.{arith}
use mathlib.Core.Bool.{Bool, true}
use mathlib.Core.List.{List, ◌++◌, map}
use borrow.Author.Tests.{eqb-true}
use Rattle.rules.specs.declared.Entry.{Entry}
use Rattle.rules.specs.declared.Program.{Program}
use Rattle.rules.specs.declared.Schedule.{Schedule}
use Rattle.rules.specs.Lists.{keep, In, All, Pairwise}
use Rattle.rules.specs.Records.{State, view}
use Rattle.rules.specs.Holding.{Holding, holding_at, with_holding, end_of}
use Rattle.rules.specs.Rows.{Row, code_at, row_of, rows_with, rows_from, rows_at, ending, superseded, starting, turn, Sooner}
use Rattle.rules.specs.Moments.{lasts, entries_from, second, advance, passed}
use Rattle.rules.specs.Sound.{sound}
use Rattle.rules.specs.Calls.{entry_id}
use Rattle.rules.specs.Schedules.{Timed, seen, rows_to}
use Rattle.rules.proofs.ListLaws.{in_keep, in_map, in_append, asc_keep, asc_weaken, asc_with, asc_map, asc_append}
use Rattle.rules.proofs.Kept.{Before, ends}
use Rattle.rules.proofs.SoundState.{ById, sound_view}
use Rattle.rules.proofs.RowsGiven.{moment_by}
use Rattle.rules.proofs.CodeLaws.{is_start_lem, is_end_lem, is_loss}

-- the ids ascend, or the one ends before the other begins
abbrev Behind : Entry → Entry → Type 0
Behind h o = (entry_id h < entry_id o) ⊎ ((end_of h ≤ o.begins) × (o.begins < end_of o))

-- At one moment.

module _ (t : ℕ) (now : Entry → Holding) where
  -- two entries give codes of one kind only if their ids ascend
  abbrev IdsAscend : (ℕ → Bool) → Type 0
  IdsAscend kind = (h o : Entry) → Behind h o → kind (code_at t h (now h)) ≡ true → kind (code_at t o (now o)) ≡ true → entry_id h < entry_id o

  two_ends : IdsAscend ending
  two_ends h o (inl l) d e = l
  two_ends h o (inr b) d e = absurd (let v = is_end_lem t h (now h) d in let w = is_end_lem t o (now o) e in omega arith)

  two_losses : IdsAscend superseded
  two_losses h o (inl l) d e = l
  two_losses h o (inr b) d e =
      absurd (let v = is_loss t h (now h) (eqb-true _ 7 d) in let w = is_loss t o (now o) (eqb-true _ 7 e) in omega arith)

  two_starts : IdsAscend starting
  two_starts h o (inl l) d e = l
  two_starts h o (inr b) d e =
      absurd (let v = is_start_lem t h (now h) (eqb-true _ 2 d) in let w = is_start_lem t o (now o) (eqb-true _ 2 e) in omega arith)

  module _ (hs : List Entry) where
    -- the rows of one kind, whose turn is that number
    abbrev of : (ℕ → Bool) → List Row
    of kind = rows_with t now hs kind

    abbrev Turn : (ℕ → Bool) → ℕ → Type 0
    Turn kind n = (code : ℕ) → kind code ≡ true → turn code ≡ n

    of_kind : (kind : ℕ → Bool) (n : ℕ) → Turn kind n → (r : Row) → In r (of kind) → (r.time ≡ t) × (turn r.code ≡ n)
    unfolding rows_with
    of_kind kind n f r m =
        let p : Entry → Bool = λ h. kind (code_at t h (now h)) in
        let q = in_map (row_of t now) r (keep p hs) m in
        (ap (λ r. r.time) q.2, ap (λ r. turn r.code) q.2 ∙ f (code_at t q.0 (now q.0)) (in_keep p q.0 hs q.1).1)

    by_id : (kind : ℕ → Bool) (n : ℕ) → Turn kind n → IdsAscend kind → Pairwise Behind hs → Pairwise Sooner (of kind)
    unfolding rows_with
    by_id kind n f apart b =
        let p : Entry → Bool = λ h. kind (code_at t h (now h)) in
        let code : All (λ h. p h ≡ true) (keep p hs) = λ h m. (in_keep p h hs m).1 in
        asc_map (λ h o. Behind h o × (p h ≡ true) × (p o ≡ true)) Sooner (row_of t now)
        (λ h o r. inr (refl, inr (f (code_at t h (now h)) r.1 ∙ sym (f (code_at t o (now o)) r.2), apart h o r.0 r.1 r.2)))
        (keep p hs) (asc_with Behind (λ h. p h ≡ true) (keep p hs) (asc_keep Behind p hs b) code)

    by_turn : (kind after : ℕ → Bool) (m n : ℕ) → Turn kind m → Turn after n → m < n → (a b : Row) → In a (of kind) → In b (of after) → Sooner a b
    by_turn kind after m n f g l a b i j =
        let x = of_kind kind m f a i in
        let y = of_kind after n g b j in
        inr (x.0 ∙ sym y.0, inl (omega (arith, x.1, y.1)))

    first : Turn ending 0
    first code e = rw e

    second_turn : Turn superseded 1
    second_turn code e = ap turn (eqb-true code 7 e)

    third : Turn starting 2
    third code e = ap turn (eqb-true code 2 e)

    moment_times : All (λ r. r.time ≡ t) (rows_from t now hs)
    moment_times r m = ap (λ r. r.time) (moment_by t now hs r m).3

    moment_order : Pairwise Behind hs → Pairwise Sooner (rows_from t now hs)
    unfolding rows_from
    moment_order b =
        asc_append Sooner (of ending) (of superseded ++ of starting) (by_id ending 0 first two_ends b)
        (asc_append Sooner (of superseded) (of starting) (by_id superseded 1 second_turn two_losses b) (by_id starting 2 third two_starts b)
        (λ x i y j. by_turn superseded starting 1 2 second_turn third (omega arith) x y i j))
        (λ x i y j. ⊎_elim (by_turn ending superseded 0 1 first second_turn (omega arith) x y i) (by_turn ending starting 0 2 first third (omega arith) x y i)
        (in_append y (of superseded) (of starting) j))

-- From a schedule on.

second_order : (s : State) → Pairwise ById s.entries → Pairwise Sooner (second s).rows
unfolding second rows_at
second_order s b =
    let t = suc s.clock in
    moment_order t (holding_at s.programs t s.entries) s.entries (asc_weaken ById Behind (λ h o l. inl l) s.entries b)

second_times : (s : State) → All (λ r. r.time ≡ suc s.clock) (second s).rows
unfolding second rows_at
second_times s = let t = suc s.clock in moment_times t (holding_at s.programs t s.entries) s.entries

second_ids : (s : State) → Pairwise ById s.entries → Pairwise ById (second s).state.entries
unfolding second entries_from
second_ids s b =
    let t = suc s.clock in
    asc_map ById ById (λ h. with_holding h (holding_at s.programs t s.entries h)) (λ x y l. l) (keep (lasts t) s.entries) (asc_keep ById (lasts t) s.entries b)

advance_later : (n : ℕ) (s : State) → All (λ r. s.clock < r.time) (advance n s).rows
unfolding advance second
advance_later zero s r m = absurd m
advance_later (suc n) s r m =
    ⊎_elim (λ i. omega (arith, second_times s r i)) (λ i. omega (arith, advance_later n (second s).state r i)) (in_append r (second s).rows (advance n (second s).state).rows m)

-- the rows of the first second, then the others
first_second : (n : ℕ) (s : State) (x y : Row) → In x (second s).rows → In y (advance n (second s).state).rows → x.time < y.time
unfolding second
first_second n s x y i j = omega (arith, second_times s x i, advance_later n (second s).state y j)

advance_order : (n : ℕ) (s : State) → Pairwise ById s.entries → Pairwise Sooner (advance n s).rows
unfolding advance
advance_order zero s b = tt
advance_order (suc n) s b =
    asc_append Sooner (second s).rows (advance n (second s).state).rows (second_order s b) (advance_order n (second s).state (second_ids s b))
    (λ x i y j. inl (first_second n s x y i j))

pub in_order : (s : Schedule) → sound s ≡ true → (reading : ℕ) → Pairwise Sooner (passed (view s) reading).rows
in_order s e reading = advance_order (reading - s.clock) (view s) (sound_view s e).ids

-- Of a history.

module _ (ps : List Program) (ts : List Timed) where
  rows_until : (t : ℕ) → All (λ r. r.time ≤ t) (rows_to ps ts t)
  unfolding rows_to rows_at
  rows_until zero r m = absurd m
  rows_until (suc t) r m =
      let hs = map (seen ps ts t) ts in
      ⊎_elim (λ i. omega (arith, rows_until t r i)) (λ i. omega (arith, moment_times (suc t) (holding_at ps (suc t) hs) hs r i)) (in_append r (rows_to ps ts t) (rows_at ps (suc t) hs) m)

  module _ (ascending : Pairwise Before ts) (proper : All (λ x. x.begins < ends x) ts) where
    behind : (t : ℕ) → Pairwise Behind (map (seen ps ts t) ts)
    behind t = asc_map (λ x y. Before x y × (x.begins < ends x) × (y.begins < ends y)) Behind (seen ps ts t) (λ x y r. go x y r.0 r.2) ts (asc_with Before (λ x. x.begins < ends x) ts ascending proper)
      where
        go : (x y : Timed) → Before x y → y.begins < ends y → Behind (seen ps ts t x) (seen ps ts t y)
        go x y (inl l) p = inl l
        go x y (inr r) p = inr (r.2, p)

    pub rows_ascend : (t : ℕ) → Pairwise Sooner (rows_to ps ts t)
    unfolding rows_to rows_at
    rows_ascend zero = tt
    rows_ascend (suc t) =
        let hs = map (seen ps ts t) ts in
        let now = holding_at ps (suc t) hs in
        asc_append Sooner (rows_to ps ts t) (rows_from (suc t) now hs) (rows_ascend t) (moment_order (suc t) now hs (behind t))
        (λ x i y j. inl (omega (arith, rows_until t x i, moment_times (suc t) now hs y j)))
