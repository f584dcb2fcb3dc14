-- Events and entries, and their bytes, are inverse: each field is a number or a mark of its own width.
use mathlib.Core.Path.{◌≡◌, refl, ap, ap₂, ◌∙◌}
use Prim.Native.Nat.{ℕ, zero, suc, ◌+◌, ◌*◌, ◌^◌, ◌<◌, ◌≤◌}
use mathlib.Core.Bool.{Bool, true, false, cond, ◌&&◌}
use mathlib.Core.List.{List, [], ◌∷◌, ◌++◌, append_assoc}
use native.Mathlib.Omega.{arith}
use borrow.Author.Rules.{rules}
use lib.Dec.{leb, eqb, lit<}
use borrow.Author.Tests.{leb-true}
use lib.ListN.{length, drop}
use Rattle.rules.specs.declared.Event.{Event}
use Rattle.rules.specs.declared.Entry.{Entry}
use Rattle.rules.specs.declared.Choice.{Choice}
use Rattle.rules.specs.declared.Record.{Record}
use Rattle.rules.specs.Records.{id_size, id_of, IdFits, has, no_entry}
use Rattle.rules.specs.Bytes.{big, read, event_at, event_in, event_bytes, entry_at, entry_bytes, record_bytes, flag, choice_byte, choice_of, event_size, entry_size, mark_at, choice_at, record_size}
use Rattle.rules.specs.Image.{marked}
use Rattle.rules.proofs.Tests.{each_true}
use Rattle.rules.proofs.IdLaws.{number_id, id_number_lem, id_below, from_fits}
use Rattle.rules.proofs.Numbers.{Bytes, read_big, read_drop, piece, Inverse, all_good}

-- each field fits its width
pub record FitsEvent (e : Event) : Type 0 where
  pub id : IdFits e.id
  pub program : e.program < 256 ^ 1
  pub controls : e.controls < 256 ^ 4
  pub created : e.created < 256 ^ 4
  pub start : e.start < 256 ^ 4
  pub duration : e.duration < 256 ^ 4
  pub randomize_start : e.randomize_start < 256 ^ 2
  pub randomize_duration : e.randomize_duration < 256 ^ 2
  pub start_draw : e.start_draw < 256 ^ 2
  pub duration_draw : e.duration_draw < 256 ^ 2

pub record FitsEntry (h : Entry) : Type 0 where
  pub event : FitsEvent h.event
  pub begins : h.begins < 256 ^ 8
  pub held : h.held < 256 ^ 4

-- a place that is not in use
pub none_fits : FitsEntry no_entry
none_fits = let zero = from_fits 0 (lit< tt) in search rules

pub entry_size_lem : (h : Entry) → length (entry_bytes h) ≡ entry_size
unfolding entry_bytes event_bytes big
entry_size_lem h = refl

pub record_size_lem : (r : Record) → length (record_bytes r) ≡ record_size
unfolding record_bytes entry_bytes event_bytes big
record_size_lem r = refl

-- an event's bytes are that event, whatever follows
pub event_of_bytes : (e : Event) → FitsEvent e → (r : List ℕ) → event_at 0 (event_bytes e ++ r) ≡ e
unfolding event_in event_bytes read big
event_of_bytes e f r =
    rw (
      read_big id_size (id_of e) (id_below e.id f.id),
      id_number_lem e.id f.id,
      read_big 1 e.program f.program,
      read_big 4 e.controls f.controls,
      read_big 4 e.created f.created,
      read_big 4 e.start f.start,
      read_big 4 e.duration f.duration,
      read_big 2 e.randomize_start f.randomize_start,
      read_big 2 e.randomize_duration f.randomize_duration,
      read_big 2 e.start_draw f.start_draw,
      read_big 2 e.duration_draw f.duration_draw,
    )

-- a mark's byte is that mark, and is 0 or 1
pub flag_read : (b : Bool) → eqb (0 * 256 + cond b 1 0) 1 ≡ b
flag_read true = refl
flag_read false = refl

pub flag_small : (b : Bool) → leb (0 * 256 + cond b 1 0) 1 ≡ true
flag_small true = refl
flag_small false = refl

-- a choice's byte is that choice, and has no bit above 2
choice_kept : (c : Choice) → (choice_of (0 * 256 + choice_byte c) ≡ c) × (leb (0 * 256 + choice_byte c) 7 ≡ true)
unfolding has
choice_kept c = go c.out c.was_in c.was_out
  where
    go :
        (a b d : Bool)
        → let x = 0 * 256 + (cond a 1 0 + (cond b 2 0 + cond d 4 0)) in (choice_of x ≡ record { out = a; was_in = b; was_out = d }) × (leb x 7 ≡ true)
    go true true true = (refl, refl)
    go true true false = (refl, refl)
    go true false true = (refl, refl)
    go true false false = (refl, refl)
    go false true true = (refl, refl)
    go false true false = (refl, refl)
    go false false true = (refl, refl)
    go false false false = (refl, refl)

pub choice_read : (c : Choice) → choice_of (0 * 256 + choice_byte c) ≡ c
choice_read c = (choice_kept c).0

pub choice_small : (c : Choice) → leb (0 * 256 + choice_byte c) 7 ≡ true
choice_small c = (choice_kept c).1

-- a byte with no bit above 2 is that of its choice
pub choice_byte_lem : (x : ℕ) → x ≤ 7 → choice_byte (choice_of x) ∷ [] ≡ big 1 x
unfolding has big
choice_byte_lem zero h = refl
choice_byte_lem (suc zero) h = refl
choice_byte_lem (suc (suc zero)) h = refl
choice_byte_lem (suc (suc (suc zero))) h = refl
choice_byte_lem (suc (suc (suc (suc zero)))) h = refl
choice_byte_lem (suc (suc (suc (suc (suc zero))))) h = refl
choice_byte_lem (suc (suc (suc (suc (suc (suc zero)))))) h = refl
choice_byte_lem (suc (suc (suc (suc (suc (suc (suc zero))))))) h = refl
choice_byte_lem (suc (suc (suc (suc (suc (suc (suc (suc x)))))))) h = absurd (omega arith)

-- an entry's bytes are that entry, whatever follows
pub entry_of_bytes : (h : Entry) → FitsEntry h → (r : List ℕ) → entry_at 0 (entry_bytes h ++ r) ≡ h
unfolding entry_at entry_bytes event_bytes read big
entry_of_bytes h f r =
    let event = event_of_bytes h.event f.event (big 8 h.begins ++ (big 4 h.held ++ (flag h.cancelled ++ (choice_byte h.choice ∷ r)))) in
    rw (event, read_big 8 h.begins f.begins, read_big 4 h.held f.held, flag_read h.cancelled, choice_read h.choice)

-- an event, and an entry, further on
pub event_drop : (at : ℕ) (l : List ℕ) → event_at 0 (drop at l) ≡ event_at at l
unfolding event_in
event_drop at l = let z : at + 0 ≡ at = omega arith in simp (read_drop, z)

pub entry_drop : (at : ℕ) (l : List ℕ) → entry_at 0 (drop at l) ≡ entry_at at l
unfolding entry_at
entry_drop at l = simp (event_drop, read_drop)

-- a byte that is 0 or 1 is that of its mark
pub flag_byte : (x : ℕ) → x ≤ 1 → flag (eqb x 1) ≡ big 1 x
unfolding big
flag_byte zero h = refl
flag_byte (suc zero) h = refl
flag_byte (suc (suc x)) h = absurd (omega arith)

-- an event entry's mark is 0 or 1, and its choice has no bit above 2
abbrev pub entry_marks : ℕ → List ℕ → Bool
entry_marks at l = leb (read 1 (at + mark_at) l) 1 && leb (read 1 (at + choice_at) l) 7

module _ (l : List ℕ) (b : Bytes l) where
  -- bytes are those of the event that they are
  pub event_piece : event_size ≤ length l → event_bytes (event_at 0 l) ++ drop event_size l ≡ l
  unfolding event_in event_bytes
  event_piece h =
      simp (append_assoc, number_id (read id_size 0 l))
      (rw (
        piece l b 2 (id_size + 23) (omega arith),
        piece l b 2 (id_size + 21) (omega arith),
        piece l b 2 (id_size + 19) (omega arith),
        piece l b 2 (id_size + 17) (omega arith),
        piece l b 4 (id_size + 13) (omega arith),
        piece l b 4 (id_size + 9) (omega arith),
        piece l b 4 (id_size + 5) (omega arith),
        piece l b 4 (id_size + 1) (omega arith),
        piece l b 1 id_size (omega arith),
        piece l b id_size 0 (omega arith),
      ))

  -- and of the entry, if the mark is 0 or 1 and the choice has no bit above 2
  pub entry_piece : entry_size ≤ length l → entry_marks 0 l ≡ true → entry_bytes (entry_at 0 l) ++ drop entry_size l ≡ l
  unfolding entry_at entry_bytes
  entry_piece h m =
      let r = each_true (leb (read 1 mark_at l) 1) (leb (read 1 choice_at l) 7) m in
      let last : flag (eqb (read 1 mark_at l) 1) ++ ((choice_byte (choice_of (read 1 choice_at l)) ∷ []) ++ drop entry_size l) ≡ drop mark_at l =
      ap₂ (λ (x y : List ℕ). x ++ (y ++ drop entry_size l)) (flag_byte (read 1 mark_at l) (leb-true (read 1 mark_at l) 1 r.0)) (choice_byte_lem (read 1 choice_at l) (leb-true (read 1 choice_at l) 7 r.1))
      ∙ rw (piece l b 1 choice_at (omega arith)) (piece l b 1 mark_at (omega arith)) in
      simp append_assoc
      (rw (last, piece l b 4 (event_size + 8) (omega arith), piece l b 8 event_size (omega arith), event_piece (omega arith)))

-- so all of them are
mixed : (a b c d : Bool) → ((a && b) && (c && d)) ≡ ((a && c) && (b && d))
mixed true true c d = refl
mixed true false true d = refl
mixed true false false d = refl
mixed false b c d = refl

pub entries_marked : (k n at : ℕ) (l : List ℕ) → all_good entry_marks k n at l ≡ (marked 1 k n (at + mark_at) l && marked 7 k n (at + choice_at) l)
unfolding all_good marked
entries_marked k zero at l = refl
entries_marked k (suc n) at l =
    let y : at + k + mark_at ≡ at + mark_at + k = omega arith in
    let z : at + k + choice_at ≡ at + choice_at + k = omega arith in
    ap (λ b. entry_marks at l && b) (rw (y, z) at (entries_marked k n (at + k) l))
    ∙ mixed (leb (read 1 (at + mark_at) l) 1) (leb (read 1 (at + choice_at) l) 7) (marked 1 k n (at + mark_at + k) l) (marked 7 k n (at + choice_at + k) l)

entry_marks_lem : (h : Entry) (r : List ℕ) → entry_marks 0 (entry_bytes h ++ r) ≡ true
unfolding entry_bytes event_bytes read big
entry_marks_lem h r = ap₂ ◌&&◌ (flag_small h.cancelled) (choice_small h.choice)

marks_drop : (at : ℕ) (l : List ℕ) → entry_marks 0 (drop at l) ≡ entry_marks at l
marks_drop at l = simp read_drop

pub entry_inverse : Inverse FitsEntry entry_at entry_bytes entry_size entry_marks
entry_inverse = record { size = entry_size_lem; marks = entry_marks_lem; reads = entry_of_bytes; puts = entry_piece; moves = entry_drop; good_moves = marks_drop }
