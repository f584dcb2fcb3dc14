-- Part by part.
use Rattle.std.proofs.Common.{rules, tests}
use native.Mathlib.Omega.{arith}
use Rattle.rules.specs.Records.{most_programs, most_events, no_program, no_entry}
use Rattle.rules.specs.Bytes.{entry_size, entry_at}
use Rattle.rules.specs.Image.{program_size, programs_at, entries_at, program_from, loaded}
use Rattle.octets.proofs.Fits.{numbered_inside}
use Rattle.image.proofs.InRows.{rows_read}
use Rattle.image.proofs.reading.schedule.Goals as goal

pub returns : goal.returns
unfolding loaded
returns c =
    let l = c.args.b.now in
    let p = rows_read program_from program_size programs_at l most_programs c.from_fn.result no_program c.from_fn.ensures.items (λ x y q k. search (rules, tests)) in
    let e = rows_read entry_at entry_size entries_at l most_events c.from_fn-2.result no_entry c.from_fn-2.ensures.items (λ x y q k. search (rules, tests)) in
    rw (numbered_inside _ _ _ c.read_at.ensures (omega arith), numbered_inside _ _ _ c.read_at-2.ensures (omega arith), p, e)
