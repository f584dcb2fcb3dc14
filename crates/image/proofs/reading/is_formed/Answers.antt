-- The tests are those of `formed`, in its order.
use mathlib.Core.Path.{◌≡◌, sym, ◌∙◌}
use mathlib.Core.Bool.{false, and-false}
use Prim.Native.Nat.{◌+◌}
use borrow.Author.Tests.{eq-eqb, ne_eqb}
use lib.ListN.{length}
use Rattle.rules.specs.Records.{most_programs, most_events}
use Rattle.rules.specs.Bytes.{entry_size, mark_at, choice_at}
use Rattle.rules.specs.Image.{program_size, programs_at, entries_at, image_size, marked, formed}
use Rattle.image.proofs.reading.is_formed.Goals as goal

pub returns-then-b-ne-SIZE : goal.returns-then-b-ne-SIZE
unfolding formed
returns-then-b-ne-SIZE c =
    let other : length c.args.b.now ≡ image_size → ⊥ = c.if-b-ne-SIZE.true in
    simp (ne_eqb _ image_size other)

pub returns-then-not-is_marked : goal.returns-then-not-is_marked
unfolding formed
returns-then-not-is_marked c =
    let above : marked 1 program_size most_programs programs_at c.args.b.now ≡ false = sym c.is_marked.ensures ∙ c.if-not-is_marked.true in
    simp (above, and-false)

pub returns-then-not-is_marked-2 : goal.returns-then-not-is_marked-2
unfolding formed
returns-then-not-is_marked-2 c =
    let above : marked 1 entry_size most_events (entries_at + mark_at) c.args.b.now ≡ false = sym c.is_marked-2.ensures ∙ c.if-not-is_marked-2.true in
    simp (above, and-false)

pub returns-then-not-is_marked-3 : goal.returns-then-not-is_marked-3
unfolding formed
returns-then-not-is_marked-3 c =
    let above : marked 7 entry_size most_events (entries_at + choice_at) c.args.b.now ≡ false = sym c.is_marked-3.ensures ∙ c.if-not-is_marked-3.true in
    simp (above, and-false)

pub returns : goal.returns
unfolding formed
returns c =
    rw (
      eq-eqb (length c.args.b.now) image_size c.if-b-ne-SIZE.false,
      sym c.is_marked.ensures ∙ c.if-not-is_marked.false,
      sym c.is_marked-2.ensures ∙ c.if-not-is_marked-2.false,
      sym c.is_marked-3.ensures ∙ c.if-not-is_marked-3.false,
    )
