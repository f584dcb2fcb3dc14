-- 12, 13, or what the moments leave in the slots of the schedule.
use mathlib.Core.Path.{◌≡◌, refl, sym, ap, ◌∙◌}
use Prim.Native.Nat.{ℕ, ◌*◌, ◌≤◌}
use mathlib.Core.Bool.{Bool, true, false, ◌||◌}
use mathlib.Core.List.{List, []}
use lib.Dec.{ltb}
use native.Mathlib.Omega.{arith}
use lib.ListN.{length}
use Rattle.rules.specs.declared.Schedule.{Schedule}
use Rattle.rules.specs.Sound.{sound}
use Rattle.rules.specs.Records.{last_clock, most_rows}
use Rattle.rules.specs.Bytes.{row_size}
use Rattle.rules.specs.Calls.{count}
use Rattle.octets.proofs.Fits.{copy_inside, copy_size}
use Rattle.calls.specs.Advanced.{Advanced}
use Rattle.calls.proofs.Clocked.{out_of_range, in_range, few, fits, too_short}
use Rattle.calls.proofs.reading.set_clock.Goals as goal

pub returns-then-is_out_of_range : goal.returns-then-is_out_of_range
returns-then-is_out_of_range c =
    rw c.refused.ensures (out_of_range c.args.s.schedule c.args.s.good c.args.reading (sym c.is_out_of_range.ensures ∙ c.if-is_out_of_range.true) c.args.buffer.now)

pub advance-n-requires : goal.advance-n-requires
advance-n-requires c =
    let r = in_range c.args.s.schedule c.args.s.good c.args.reading (sym c.is_out_of_range.ensures ∙ c.if-is_out_of_range.false) in
    (r.0, r.1, refl)

-- no more rows than an agenda has room for
few_rows : (s : Schedule) → sound s ≡ true → (reading : ℕ) {outside : Bool} → outside ≡ (ltb reading s.clock || ltb last_clock reading) → outside ≡ false
    → {rows : List ℕ} {after : Schedule} {n : ℕ} → Advanced s reading rows after n → n ≤ most_rows
few_rows s good reading is out moved = few s good reading (sym is ∙ out) _ _ _ moved

pub overflow_mul-n : goal.overflow_mul-n
overflow_mul-n c =
    let moved = c.advance-n.ensures in
    omega (arith, few_rows c.args.s.schedule c.args.s.good c.args.reading c.is_out_of_range.ensures c.if-is_out_of_range.false moved)

pub returns-then-buffer-n : goal.returns-then-buffer-n
returns-then-buffer-n c =
    let in_time = sym c.is_out_of_range.ensures ∙ c.if-is_out_of_range.false in
    let moved = c.advance-n.ensures in
    rw c.refused-then-buffer-n.ensures (too_short c.args.s.schedule c.args.s.good c.args.reading in_time _ _ _ moved c.args.buffer.now c.if-buffer-n.true)

pub slice_bounds-copy-end : goal.slice_bounds-copy-end
slice_bounds-copy-end c = sym c.advance-n.ensures.size

pub overflow_mul-n-2 : goal.overflow_mul-n-2
overflow_mul-n-2 c =
    let moved = c.advance-n.ensures in
    omega (arith, few_rows c.args.s.schedule c.args.s.good c.args.reading c.is_out_of_range.ensures c.if-is_out_of_range.false moved)

pub shape_of-buffer : goal.shape_of-buffer
shape_of-buffer c = ap length c.copy.ensures ∙ copy_size _ _ _ _

pub returns : goal.returns
returns c =
    let a = c.args in
    let in_time = sym c.is_out_of_range.ensures ∙ c.if-is_out_of_range.false in
    let moved = c.advance-n.ensures in
    let at_most = few_rows a.s.schedule a.s.good a.reading c.is_out_of_range.ensures c.if-is_out_of_range.false moved in
    let n = c.advance-n.result in
    let room : row_size * n ≤ length a.buffer.now = omega (arith, c.if-buffer-n.false) in
    let bytes = c.copy.ensures ∙ copy_inside 0 (row_size * n) _ a.buffer.now (omega (arith, at_most, c.advance-n.ensures.size)) (omega arith) in
    (λ i. record { number = 0; value = count n; state = c.advance-n.new.s.schedule; bytes = bytes i; records = [] })
    ∙ fits a.s.schedule a.s.good a.reading in_time _ _ n moved a.buffer.now room
