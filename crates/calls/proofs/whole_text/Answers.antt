-- The promise is the theorem.
use mathlib.Core.List.{[]}
use Rattle.rules.specs.Records.{fresh, pad}
use Rattle.calls.proofs.Whole.{step, ended_step, accepted, moves, takes_all, in_turn, all_taken, at_once, gives_output, feed, cut, example}
use Rattle.calls.proofs.whole_text.Goals as goal

pub returns : goal.returns
returns c = record {
  step = step;
  ended_step = ended_step;
  accepted = accepted;
  moves = moves;
  takes_all = takes_all;
  in_turn = λ xs. in_turn xs (pad fresh) [];
  all_taken = all_taken;
  at_once = at_once;
  gives_output = gives_output;
  feed = feed;
  cut = cut;
  example = example;
}
