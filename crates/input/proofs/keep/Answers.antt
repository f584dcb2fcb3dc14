-- So many bytes go to the front as can matter; none of places that are not in the buffer.
use mathlib.Core.Path.{◌≡◌, refl, ◌∙◌}
use Prim.Native.Nat.{ℕ, ◌+◌, ◌-◌, ◌≤◌, min}
use mathlib.Core.List.{List}
use native.Mathlib.Omega.{arith}
use lib.ListN.{length, take, drop, length-drop}
use lib.Seq.{paste, length-take-le}
use Rattle.rules.specs.Lists.{over}
use Rattle.input.specs.Kept.{most_kept}
use Rattle.input.proofs.Kept.{kept_none, kept_beyond, kept_some, keeps_line}
use Rattle.input.proofs.keep.Goals as goal
use Rattle.input.proofs.keep.Goals.{then-buffer-to-via-then-buffer-to, then-buffer-to-via-else-buffer-to+then-to-from}

-- what was moved stands over the front
moved : (old : List ℕ) (from n : ℕ) {new : List ℕ} → from + n ≤ length old → new ≡ paste old 0 (drop from old) (from + n - from) → new ≡ over (take n (drop from old)) old
moved old from n h e =
    let few : from + n - from ≡ n = omega arith in
    let size : 0 + n ≡ length (take n (drop from old)) = omega (arith, length-take-le n (drop from old) (omega (arith, length-drop from old))) in
    e ∙ rw (few, size) refl

pub returns-then-buffer-to : goal.returns-then-buffer-to
returns-then-buffer-to c =
    let a = c.args in
    elim c.then-buffer-to.branch [
      | then-buffer-to-via-then-buffer-to w ↦ let is = kept_beyond a.from a.to a.buffer.now w.if-buffer-to.true in record { keeps = keeps_line _ _ _ is; is = is }
      | then-buffer-to-via-else-buffer-to+then-to-from w ↦ let is = kept_none a.from a.to a.buffer.now w.if-to-from.true in record { keeps = keeps_line _ _ _ is; is = is }
    ]

pub returns : goal.returns
returns c =
    let a = c.args in
    let ordered : a.from ≤ a.to = c.if-to-from.false in
    let there : a.to ≤ length a.buffer.now = c.if-buffer-to.false in
    let n : c.min-n.result ≡ min most_kept (a.to - a.from) = c.min-n.ensures in
    let few : a.from + c.min-n.result ≤ length a.buffer.now = omega (arith, n) in
    let is = kept_some a.from a.to a.buffer.now ordered there n (moved a.buffer.now a.from c.min-n.result few c.copy_within.ensures.after) in
    record { keeps = keeps_line _ _ _ is; is = is }
