use mathlib.Core.Path.{◌≡◌, subst, sym, ◌∙◌}
use Prim.Native.Nat.{ℕ, ◌≤◌, ◌<◌, ◌+◌, ◌-◌}
use mathlib.Core.List.{List, ◌∷◌, ◌++◌, append_assoc}
use native.Mathlib.Omega.{arith}
use native.Mathlib.Numerals.{add-one}
use lib.ListN.{length, get_or, take, drop, set}
use lib.Seq.{paste, take-suc, set_at, length-take-le}
use Rattle.std.proofs.lemmas.List.{drop-take}
use Rattle.calls.specs.Found.{widened}
use Rattle.calls.proofs.sorted.put_in.Goals as goal

-- the items from a place on moved up by one, and one put in there
moved : {A : Type 0} (w : List A) (n at : ℕ) (x : A) → at ≤ n → n < length w → set (paste w (at + 1) (drop at w) (n - at)) at x ≡ widened w n at x
moved w n at x h l =
    let all : at + (n - at) ≡ n = omega arith in
    let up : drop at (take n w) ≡ take (n - at) (drop at w) = subst (λ k. drop at (take k w) ≡ take (n - at) (drop at w)) all (drop-take at (n - at) w) in
    let behind : at + 1 + (n - at) ≡ n + 1 = omega arith in
    let same = take (n - at) (drop at w) in
    rw (up, behind, add-one at, take-suc w at x (omega arith), append_assoc, append_assoc)
    (set_at (take at w) (get_or w at x) (same ++ drop (n + 1) w) x at (length-take-le at w (omega arith)) ∙ sym (append_assoc (take at w) (x ∷ same) (drop (n + 1) w)))

pub returns : goal.returns
returns g c = let a = c.args in rw c.copy_within.ensures.after (moved a.items.now a.n a.at a.item c.requires.0 c.requires.1)
