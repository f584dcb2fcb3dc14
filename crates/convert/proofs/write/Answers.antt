-- The parts stand one behind the other, if there is room for them all.
use mathlib.Core.Path.{◌≡◌, refl, ap, ◌∙◌}
use Prim.Native.Nat.{ℕ, ◌+◌, ◌≤◌}
use mathlib.Core.List.{List, ◌++◌, append_assoc}
use native.Mathlib.Omega.{arith}
use lib.Seq.{take_all}
use lib.ListN.{length, length-append}
use Rattle.rules.specs.Lists.{over_at}
use Rattle.octets.specs.Octets.{copied}
use Rattle.octets.proofs.Fits.{copy_inside}
use Rattle.octets.proofs.Writes.{wrote_none, also, same_size}
use Rattle.convert.proofs.Written.{too_long, fits, all_written}
use Rattle.convert.proofs.write.Goals as goal

-- a part that was copied whole
put_part : (at : ℕ) (part old : List ℕ) {new : List ℕ} → at + length part ≤ length old → new ≡ copied at (length part) part old → new ≡ over_at at part old
put_part at part old h e = e ∙ copy_inside at (length part) part old (omega arith) h ∙ ap (λ l. over_at at l old) (take_all (length part) part (omega arith))

-- how long three parts are
parts_length : (kind zeros rest : List ℕ) → length kind + length zeros + length rest ≡ length (kind ++ (zeros ++ rest))
parts_length kind zeros rest = simp length-append (omega arith)

pub returns-then-not-has_room : goal.returns-then-not-has_room
returns-then-not-has_room c =
    let a = c.args in
    too_long (a.kind.now ++ (a.zeros.now ++ a.rest.now)) a.at a.out.now _ (parts_length a.kind.now a.zeros.now a.rest.now) c.has_room.ensures c.if-not-has_room.true

pub returns : goal.returns
returns c =
    let a = c.args in
    let kind = a.kind.now in
    let zeros = a.zeros.now in
    let rest = a.rest.now in
    let line = kind ++ (zeros ++ rest) in
    let size = parts_length kind zeros rest in
    let room = fits line a.at a.out.now _ size c.has_room.ensures c.if-not-has_room.false in
    let first = also (wrote_none a.out.now a.at (omega arith)) a.at (omega arith) kind (omega arith) (put_part a.at kind a.out.now (omega (arith, room)) c.copy.ensures) in
    let second = also first (a.at + length kind) refl zeros (omega arith) (put_part (a.at + length kind) zeros _ (omega (arith, room, same_size first)) c.copy-2.ensures) in
    let behind : a.at + length kind + length zeros ≡ a.at + length (kind ++ zeros) = simp length-append (omega arith) in
    let third = also second (a.at + length kind + length zeros) behind rest (omega arith) (put_part (a.at + length kind + length zeros) rest _ (omega (arith, room, same_size second)) c.copy-3.ensures) in
    let all = rw append_assoc at third in
    all_written line a.at a.out.now _ size c.has_room.ensures c.if-not-has_room.false all.is
