-- Numbers read from bytes: one byte, and within the first of some bytes.
use mathlib.Core.Path.{◌≡◌, refl}
use Prim.Native.Nat.{ℕ, zero, suc, ◌+◌, ◌≤◌}
use mathlib.Core.List.{List}
use native.Mathlib.Omega.{arith}
use lib.ListN.{take, get_or}
use lib.Seq.{get_or-take}
use Rattle.rules.specs.Bytes.{read}

-- reading within the first m
pub read_take : (n at m : ℕ) (l : List ℕ) → at + n ≤ m → read n at (take m l) ≡ read n at l
unfolding read
read_take zero at m l h = refl
read_take (suc n) at m l h = rw (read_take n at m l (omega arith), get_or-take m l (at + n) 0 (omega arith))

-- a number of one byte
pub read_one : (at : ℕ) (l : List ℕ) → read 1 at l ≡ get_or l at 0
unfolding read
read_one at l = let z : at + 0 ≡ at = omega arith in rw z (omega arith)
