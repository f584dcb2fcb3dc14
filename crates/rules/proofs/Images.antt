-- A schedule and its image are inverse: the clock, the count, the programs and the entries stand one after the other, each of its own length.
use mathlib.Core.Path.{◌≡◌, refl, sym, ap, ◌∙◌}
use Prim.Native.Nat.{ℕ, zero, suc, ◌+◌, ◌*◌, ◌^◌, ◌<◌, ◌≤◌}
use mathlib.Core.Bool.{Bool, true, ◌&&◌, and-eq-true_iff}
use mathlib.Core.List.{List, [], ◌++◌, append_assoc, append-nil}
use native.Mathlib.Omega.{arith}
use borrow.Author.Rules.{rules}
use borrow.Author.Tests.{eqb-true, eq-eqb, leb-true}
use lib.Dec.{eqb, leb}
use lib.ListN.{length, drop, length-append, drop_of_length-le}
use lib.Seq.{drop-drop, drop_at}
use Rattle.rules.specs.declared.Program.{Program}
use Rattle.rules.specs.declared.Schedule.{Schedule}
use Rattle.rules.specs.Lists.{All}
use Rattle.rules.specs.Records.{last_clock, most_events, no_program, no_entry, fresh, pad, most_programs}
use Rattle.rules.specs.Bytes.{big, read, flat, many, entry_bytes, entry_at, entry_size, mark_at, choice_at}
use Rattle.rules.specs.Image.{program_bytes, program_from, image, loaded, marked, formed, imaged, image_size, program_size, programs_at, entries_at}
use Rattle.rules.specs.Sound.{whole, within_limits, sound}
use Rattle.rules.specs.Clauses.{ImageKept}
use Rattle.rules.proofs.ListLaws.{in_replicate}
use Rattle.rules.proofs.Numbers.{Bytes, read_big, read_drop, piece, flat_length, Inverse, many_of_flat, all_good, good_of_flat, flat_of_many}
use Rattle.rules.proofs.Entries.{FitsEntry, none_fits, flag_read, flag_small, flag_byte, entries_marked, entry_inverse}

pub record FitsProgram (p : Program) : Type 0 where
  pub primacy : p.primacy < 256 ^ 1
  pub defaults : p.defaults < 256 ^ 4

pub program_size_lem : (p : Program) → length (program_bytes p) ≡ 6
unfolding program_bytes big
program_size_lem p = refl

pub program_of_bytes : (p : Program) → FitsProgram p → (r : List ℕ) → program_from 0 (program_bytes p ++ r) ≡ p
unfolding program_from program_bytes read big
program_of_bytes p f r = rw (flag_read p.added, read_big 1 p.primacy f.primacy, read_big 4 p.defaults f.defaults)

pub program_drop : (at : ℕ) (l : List ℕ) → program_from 0 (drop at l) ≡ program_from at l
unfolding program_from
program_drop at l = let z : at + 0 ≡ at = omega arith in simp (read_drop, z)

-- a program entry's mark is 0 or 1
abbrev program_marks : ℕ → List ℕ → Bool
program_marks at l = leb (read 1 at l) 1

programs_marked : (k n at : ℕ) (l : List ℕ) → all_good program_marks k n at l ≡ marked 1 k n at l
unfolding all_good marked
programs_marked k zero at l = refl
programs_marked k (suc n) at l = ap (λ b. program_marks at l && b) (programs_marked k n (at + k) l)

pub program_piece : (l : List ℕ) → Bytes l → 6 ≤ length l → program_marks 0 l ≡ true → program_bytes (program_from 0 l) ++ drop 6 l ≡ l
unfolding program_from program_bytes
program_piece l b h m =
    simp append_assoc
    (rw (piece l b 4 2 (omega arith), piece l b 1 1 (omega arith))
    (ap (λ (x : List ℕ). x ++ drop 1 l) (flag_byte (read 1 0 l) (leb-true (read 1 0 l) 1 m)) ∙ piece l b 1 0 (omega arith)))

program_marks_drop : (at : ℕ) (l : List ℕ) → program_marks 0 (drop at l) ≡ program_marks at l
program_marks_drop at l = let z : at + 0 ≡ at = omega arith in simp (read_drop, z)

pub program_inverse : Inverse FitsProgram program_from program_bytes 6 program_marks
unfolding program_bytes read
program_inverse =
    record { size = program_size_lem; marks = λ p r. flag_small p.added; reads = program_of_bytes; puts = program_piece; moves = program_drop; good_moves = program_marks_drop }

-- each field of each element fits its width
pub record FitsSchedule (s : Schedule) : Type 0 where
  pub programs : All FitsProgram s.programs
  pub entries : All FitsEntry s.entries

pub fresh_fits : FitsSchedule (pad fresh)
fresh_fits = record {
  programs = λ p m. rw (in_replicate p no_program most_programs m) (search rules);
  entries = λ h m. rw (in_replicate h no_entry most_events m) none_fits;
}

module _ (s : Schedule) (w : whole s ≡ true) where
  lengths : (length s.programs ≡ most_programs) × (length s.entries ≡ most_events)
  unfolding whole
  lengths =
      let t = (and-eq-true_iff (eqb (length s.programs) most_programs) (eqb (length s.entries) most_events)).0 w in
      (eqb-true (length s.programs) most_programs t.0, eqb-true (length s.entries) most_events t.1)

  programs_length : length (flat program_bytes s.programs) ≡ most_programs * program_size
  programs_length = omega (arith, lengths.0, flat_length program_bytes 6 program_size_lem s.programs)

  pub image_length : length (image s) ≡ image_size
  unfolding image big
  image_length =
      let n = flat_length entry_bytes entry_size entry_inverse.size s.entries in
      simp length-append (omega (arith, programs_length, lengths.1, n))

  -- the programs start at byte 9, the entries behind them
  at_programs : drop 9 (image s) ≡ flat program_bytes s.programs ++ flat entry_bytes s.entries
  unfolding image big
  at_programs = refl

  at_entries : drop entries_at (image s) ≡ flat entry_bytes s.entries ++ []
  at_entries =
      sym (drop-drop (most_programs * program_size) programs_at (image s)) ∙ ap (drop (most_programs * program_size)) at_programs
      ∙ drop_at (flat program_bytes s.programs) (flat entry_bytes s.entries) (most_programs * program_size) programs_length ∙ sym (append-nil (flat entry_bytes s.entries))

  pub formed_image : formed (image s) ≡ true
  unfolding formed
  formed_image =
      let l = image s in
      let programs : marked 1 program_size most_programs programs_at l ≡ true = sym (programs_marked program_size most_programs programs_at l) ∙ rw lengths.0 at (good_of_flat program_inverse s.programs _ 9 l at_programs) in
      let entries : (marked 1 entry_size most_events (entries_at + mark_at) l && marked 7 entry_size most_events (entries_at + choice_at) l) ≡ true = sym (entries_marked entry_size most_events entries_at l) ∙ rw lengths.1 at (good_of_flat entry_inverse s.entries [] entries_at l at_entries) in
      rw (eq-eqb (length l) image_size image_length, programs, entries)

  -- a schedule is read again from its image
  pub loaded_image : within_limits s ≡ true → FitsSchedule s → loaded (image s) ≡ s
  unfolding loaded image read big within_limits
  loaded_image n f =
      let t = (and-eq-true_iff (leb s.clock last_clock) (leb s.count most_events)).0 n in
      let clock : s.clock < 256 ^ 8 = omega (arith, leb-true s.clock last_clock t.0) in
      let count : s.count < 256 ^ 1 = omega (arith, leb-true s.count most_events t.1) in
      let ps = many_of_flat program_inverse s.programs f.programs _ 9 (image s) at_programs in
      let es = many_of_flat entry_inverse s.entries f.entries [] entries_at (image s) at_entries in
      let programs : many program_from 6 8 9 (image s) ≡ s.programs = rw lengths.0 at ps in
      let entries : many entry_at entry_size most_events entries_at (image s) ≡ s.entries = rw lengths.1 at es in
      rw (read_big 8 s.clock clock, read_big 1 s.count count, programs, entries)

-- so the image of a sound schedule is accepted, and gives the schedule back
pub image_kept : (s : Schedule) → sound s ≡ true → FitsSchedule s → ImageKept s
unfolding imaged sound
image_kept s e f =
    let t = (and-eq-true_iff (whole s) _).0 e in
    let n = (and-eq-true_iff (within_limits s) _).0 t.1 in
    let back : loaded (image s) ≡ s = loaded_image s t.0 n.0 f in
    record { accepted = rw (formed_image s t.0, back) e; back = back }

-- an image is written again from its schedule
pub image_loaded : (l : List ℕ) → Bytes l → formed l ≡ true → image (loaded l) ≡ l
unfolding loaded image formed
image_loaded l b f =
    let t = (and-eq-true_iff (eqb (length l) image_size) _).0 f in
    let m = (and-eq-true_iff (marked 1 program_size most_programs programs_at l) _).0 t.1 in
    let n : length l ≡ image_size = eqb-true (length l) image_size t.0 in
    let end : drop image_size l ≡ [] = drop_of_length-le l {i = image_size} (omega arith) in
    let entries : flat entry_bytes (many entry_at entry_size most_events entries_at l) ≡ drop entries_at l =
    sym (append-nil _) ∙ rw end at (flat_of_many entry_inverse l b most_events entries_at (omega arith) (entries_marked entry_size most_events entries_at l ∙ m.1)) in
    rw (entries, flat_of_many program_inverse l b 8 9 (omega arith) (programs_marked program_size most_programs programs_at l ∙ m.0), piece l b 1 8 (omega arith), piece l b 8 0 (omega arith))
