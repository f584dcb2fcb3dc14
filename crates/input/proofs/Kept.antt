-- What is kept of a line is short, and stands at the front.
use mathlib.Core.Path.{◌≡◌, ap, ◌∙◌}
use Prim.Native.Nat.{ℕ, ◌-◌, ◌<◌, ◌≤◌, min}
use mathlib.Core.Bool.{Bool, true, false, cond, ◌&&◌, and-false}
use mathlib.Core.List.{List}
use native.Mathlib.Omega.{arith}
use borrow.Author.Tests.{le-leb, lt-leb}
use lib.Dec.{leb}
use lib.ListN.{length, take, drop, length-drop}
use lib.Seq.{length-take-le, take_at}
use Rattle.rules.specs.Lists.{over}
use Rattle.input.specs.Kept.{most_kept, Within, KeepsLine, kept}

module _ (from to : ℕ) (old : List ℕ) where
  -- places that are not in the buffer, and places that are
  pub kept_none : (to < from) → (0, old) ≡ kept from to old
  unfolding kept
  kept_none h = rw (lt-leb from to h)

  pub kept_beyond : length old < to → (0, old) ≡ kept from to old
  unfolding kept
  kept_beyond h = rw (lt-leb to (length old) h, and-false)

  module _ (ordered : from ≤ to) (there : to ≤ length old) where
    pub kept_some : {n : ℕ} {new : List ℕ} → n ≡ min most_kept (to - from) → new ≡ over (take n (drop from old)) old → (n, new) ≡ kept from to old
    unfolding kept
    kept_some e q = rw (le-leb from to ordered, le-leb to (length old) there, q, e)

    pub kept_count : {r : ℕ} {new : List ℕ} → (r, new) ≡ kept from to old → r ≡ min most_kept (to - from)
    unfolding kept
    kept_count e = ap (λ (p : ℕ × List ℕ). p.0) e ∙ rw (le-leb from to ordered, le-leb to (length old) there)

    -- the bytes stand at the front
    pub kept_front : {r : ℕ} {new : List ℕ} → (r, new) ≡ kept from to old → take r new ≡ take r (drop from old)
    unfolding kept
    kept_front {r} {new} e =
        let n = kept_count e in
        let is : new ≡ over (take r (drop from old)) old = ap (λ (p : ℕ × List ℕ). p.1) e ∙ rw (le-leb from to ordered, le-leb to (length old) there, n) in
        let size : length (take r (drop from old)) ≡ r = length-take-le r (drop from old) (omega (arith, n, length-drop from old)) in
        ap (take r) is ∙ take_at (take r (drop from old)) (drop (length (take r (drop from old))) old) r size

  -- of places that are in the buffer, what stands between them
  pub keeps_line : {r : ℕ} {new : List ℕ} → (r, new) ≡ kept from to old → Within from to old → KeepsLine from to old new r
  keeps_line e w = record { count = kept_count w.ordered w.there e; front = kept_front w.ordered w.there e }

  -- it is short, whatever the places are
  pub kept_few : {r : ℕ} {new : List ℕ} → (r, new) ≡ kept from to old → r ≤ most_kept
  unfolding kept
  kept_few {r} {new} e = by (leb from to && leb to (length old)) e
    where
      by : (b : Bool) → ◌≡◌ {A = ℕ × List ℕ} (r, new) (cond b (min most_kept (to - from), over (take (min most_kept (to - from)) (drop from old)) old) (0, old)) → r ≤ most_kept
      by true q = omega (arith, ap (λ (p : ℕ × List ℕ). p.0) q)
      by false q = omega (arith, ap (λ (p : ℕ × List ℕ). p.0) q)
