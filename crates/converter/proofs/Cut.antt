-- A line that is longer than any frame's is none, so it does not count which it is.
use mathlib.Core.Path.{◌≡◌}
use Prim.Native.Nat.{ℕ, ◌<◌}
use mathlib.Core.List.{List, [], ◌++◌}
use native.Mathlib.Omega.{arith}
use lib.ListN.{length, take}
use Rattle.rules.specs.Bytes.{flat}
use Rattle.rules.specs.Printed.{refused_text}
use Rattle.rules.specs.Converted.{turned_text, converted}
use Rattle.frame.specs.declared.Width.{Width}
use Rattle.frame.specs.Decoded.{width_of, longest_line}
use Rattle.frame.specs.Ends.{ended_of}
use Rattle.frame.proofs.ByKind.{width_bound, long_line}
use Rattle.frame.proofs.Ends.{cut_lines}
use Rattle.input.specs.Kept.{most_kept}
use Rattle.convert.specs.Turns.{other_than, turned_to}
use Rattle.convert.proofs.Shapes.{turned_bad}
use Rattle.converter.specs.Pieces.{texts_of}

long_text : (to : Width) (l : List ℕ) → longest_line < length l → turned_text (turned_to to l) ≡ refused_text 1
long_text to l h = rw (turned_bad to l (long_line (width_of (other_than to)) l (omega (arith, width_bound (other_than to)))))

pub cut : (to : Width) (t after : List ℕ) → ended_of t ≡ [] → converted (turned_to to) (take most_kept t ++ after) ≡ converted (turned_to to) (t ++ after)
unfolding flat
cut to = cut_lines (texts_of to) longest_line (λ l m ls h k. rw (long_text to l h, long_text to m k))
