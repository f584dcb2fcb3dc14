-- One list written over a part of another.
use mathlib.Core.Path.{◌≡◌, sym}
use Prim.Native.Nat.{ℕ, ◌+◌, ◌≤◌}
use mathlib.Core.List.{List, [], ◌++◌, append_assoc, append-nil}
use native.Mathlib.Omega.{arith}
use lib.ListN.{length, take, drop, length-append, length-drop, drop_of_length-le, take-append-drop}
use lib.Seq.{drop-drop, length-take-le, take_at, drop_at}
use Rattle.rules.specs.Lists.{over_at}

module _ {A : Type 0} (at : ℕ) where
  -- one list and then another
  pub over_then : (vs ws l : List A) → at ≤ length l → over_at (at + length vs) ws (over_at at vs l) ≡ over_at at (vs ++ ws) l
  over_then vs ws l h =
      let p = take at l ++ vs in
      let r = drop (length vs) (drop at l) in
      let n : length p ≡ at + length vs = simp length-append (omega (arith, length-take-le at l h)) in
      let e : over_at at vs l ≡ p ++ r = sym (append_assoc (take at l) vs r) in
      rw (e, take_at p r (at + length vs) n, drop_at p r (at + length vs) n, length-append, ← drop-drop (length ws) (length vs) (drop at l)) (simp append_assoc)

  pub over_none : (l : List A) → over_at at [] l ≡ l
  over_none l = take-append-drop at l

  -- what fits leaves the length
  pub over_size : (vs l : List A) → at + length vs ≤ length l → length (over_at at vs l) ≡ length l
  over_size vs l h = simp (length-append, length-drop) (omega (arith, length-take-le at l (omega arith)))

-- a list over one that is no longer
pub over_all : {A : Type 0} (vs l : List A) → length l ≤ length vs → over_at 0 vs l ≡ vs
over_all vs l h = rw (drop_of_length-le l {i = length vs} h) (append-nil vs)
