use mathlib.Core.Path.{◌≡◌}
use native.Mathlib.Omega.{arith}
use borrow.Author.Rules.{rules}
use borrow.Author.Tests.{leb-true}
use lib.Dec.{leb}
use lib.ListN.{length, take}
use lib.Seq.{get_or-take, length-take-le}
use Rattle.std.proofs.lemmas.Bool.{leb-false}
use Rattle.std.proofs.lemmas.List.Sorted.{IsNonDecreasingBy-from_default, IsPartitionedBy-leb, IsPartitionPoint-from_clause}
use Rattle.calls.proofs.Changes.{inserted}
use Rattle.calls.proofs.agenda.plan.Goals as goal

pub returns : goal.returns
returns c =
    let m = c.args.m in
    let x = c.args.x in
    let w = c.args.agenda.now in
    let f = c.requires.1 in
    let at = c.partition_point-at in
    let long : length (take m w) ≡ m = length-take-le m w (omega (arith, f.size)) in
    let rises = IsNonDecreasingBy-from_default (λ y. y) (take m w) 0
    (λ i j l r. rw (get_or-take m w i 0 (omega (arith, long)), get_or-take m w j 0 (omega (arith, long))) (f.ascends i j l (omega (arith, long, f.size)))) in
    let parts = IsPartitionPoint-from_clause (λ y. leb y x) (take m w) at.result at.ensures.partitioned (IsPartitionedBy-leb (λ y. y) (take m w) x rises) (λ y r q k. search rules) in
    rw c.put_in.ensures (inserted f c.requires.0 (omega arith) (omega (arith, at.ensures.bound, long))
    (λ k l. leb-true _ _ (rw (get_or-take m w k 0 (omega (arith, at.ensures.bound, long))) at (parts.0 k 0 (omega arith) l)))
    (λ k l r. omega (arith, leb-false _ _ (rw (get_or-take m w k 0 r) at (parts.1 k 0 l (omega (arith, long)))))))
