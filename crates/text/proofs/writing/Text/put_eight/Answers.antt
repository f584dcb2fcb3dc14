-- Four and four.
use native.Mathlib.Omega.{arith}
use Rattle.text.specs.Texts.{padded}
use Rattle.text.proofs.Digits.{padded_more, put_front}
use Rattle.text.proofs.writing.Text.put_eight.Goals as goal

pub put_four-requires-2 : goal.put_four-requires-2
unfolding padded
put_four-requires-2 c = record { below = omega arith; room = omega arith }

pub returns : goal.returns
returns c =
    put_front padded 0 padded_more 4 4 c.args.x (omega arith) (omega arith) c.put_four.ensures c.put_four-2.ensures
