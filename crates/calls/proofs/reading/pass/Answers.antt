-- 12 with nothing changed, or what the moments leave; no buffer of `rows_size` bytes is too short for their rows.
use mathlib.Core.Path.{sym, ◌∙◌}
use Rattle.calls.proofs.Clocked.{in_range, reads_none, reads_rows}
use Rattle.calls.proofs.reading.pass.Goals as goal

pub returns-then-is_out_of_range : goal.returns-then-is_out_of_range
returns-then-is_out_of_range c =
    reads_none c.args.s.now.schedule c.args.s.now.good c.args.reading c.args.rows.now (sym c.is_out_of_range.ensures ∙ c.if-is_out_of_range.true) c.requires

pub advance-requires : goal.advance-requires
advance-requires c =
    let a = c.args in
    let r = in_range a.s.now.schedule a.s.now.good a.reading (sym c.is_out_of_range.ensures ∙ c.if-is_out_of_range.false) in
    (r.0, r.1, c.requires)

pub returns : goal.returns
returns c = reads_rows c.args.s.now.schedule c.args.s.now.good c.args.reading _ (sym c.is_out_of_range.ensures ∙ c.if-is_out_of_range.false) _ _ c.advance.ensures
