-- The records stand over the front of the lent list.
use mathlib.Core.Path.{◌≡◌, sym, ap, ap₂, ◌∙◌}
use mathlib.Core.List.{◌++◌}
use native.Mathlib.Omega.{arith}
use lib.ListN.{take, drop}
use Rattle.std.specs.Prelude.{Ok}
use Rattle.rules.specs.declared.Reply.TheVariants.{Count}
use Rattle.listing.specs.Listed.{left_with}
use Rattle.listing.proofs.Recorded.{held, held_count, front, lists_all}
use Rattle.listing.proofs.records.write.Goals as goal

pub returns : goal.returns
returns c =
    let s = c.args.s in
    let old = c.args.records.now in
    let o = c.in_ok-count.ensures in
    let written : c.copy_from_slice.new.self ≡ held s = c.copy_from_slice.ensures.after ∙ ap₂ take o.all c.records_of-held.ensures ∙ front s o.unbroken in
    ap₂ (λ n r. left_with (Ok (Count n)) s (r ++ drop n old)) o.all written
    ∙ ap (λ n. left_with (Ok (Count s.count)) s (held s ++ drop n old)) (sym (held_count s o.unbroken))
    ∙ lists_all s o.unbroken old (omega (arith, o.all, o.fits))
