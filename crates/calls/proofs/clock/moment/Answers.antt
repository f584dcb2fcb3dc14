-- Ends, then starts, then the rows of who holds nothing any more and of who starts; then the second is counted.
use mathlib.Core.Path.{◌≡◌, ◌∙◌, subst}
use Prim.Native.Nat.{ℕ, ◌-◌, ◌<◌, ◌^◌}
use native.Mathlib.Omega.{arith}
use lib.Bits.{bit_and, bit_or}
use Rattle.std.proofs.lemmas.Nat.{or_lt}
use Rattle.rules.specs.Records.{cut, join}
use Rattle.calls.specs.Sets.{SecondCounted}
use Rattle.calls.proofs.Sets.{and_not}
use Rattle.calls.proofs.Moments.{ended_in, first_room, can_start, losing_in, starting_in, room, fresh_in, past}
use Rattle.calls.proofs.clock.moment.Goals as goal

-- who contends and holds nothing then
losing : (before starting held : ℕ) → before < 2 ^ 64 → starting < 2 ^ 64 → held < 2 ^ 64 → bit_and (bit_or before starting) (2 ^ 64 - 1 - held) ≡ cut (join before starting) held
unfolding join
losing before starting held b s h = and_not 64 (bit_or before starting) held (or_lt 64 before starting b s) h

pub report-ends-requires : goal.report-ends-requires
report-ends-requires c =
    let a = c.requires in
    (a.size, λ i e. omega (arith, ended_in a i e, a.held.used.few), first_room a)

pub release-before-requires : goal.release-before-requires
release-before-requires c = let a = c.requires in (a.held.used.size, λ i e. omega (arith, ended_in a i e, a.held.used.few))

pub start-holding-requires : goal.start-holding-requires
start-holding-requires c =
    can_start c.requires c.release-before.ensures

pub report-losses-requires : goal.report-losses-requires
report-losses-requires c =
    let a = c.requires in
    rw (losing c.release-before.result c.args.due.starting c.start-holding.result c.release-before.type_inv (omega arith) c.start-holding.type_inv) (
      c.report-ends.ensures.size ∙ a.size,
      λ i e. omega (arith, losing_in a c.release-before.ensures c.start-holding.ensures i e, a.held.used.few),
      omega (arith, room a c.release-before.ensures c.start-holding.ensures, c.report-ends.ensures.count),
    )

pub report-all-requires : goal.report-all-requires
report-all-requires c =
    let a = c.requires in
    let those = losing c.release-before.result c.args.due.starting c.start-holding.result c.release-before.type_inv (omega arith) c.start-holding.type_inv in (
      c.report-losses.ensures.size ∙ c.report-ends.ensures.size ∙ a.size,
      λ i e. omega (arith, starting_in a c.release-before.ensures c.start-holding.ensures i e, a.held.used.few),
      omega (arith, room a c.release-before.ensures c.start-holding.ensures, c.report-ends.ensures.count, (rw those at c.report-losses.ensures).count),
    )

pub count-requires : goal.count-requires
count-requires c =
    let a = c.requires in
    rw (and_not 64 c.start-holding.result c.args.s.counted c.start-holding.type_inv (omega arith))
    (c.start-holding.ensures.masks.size, λ i e. omega (arith, fresh_in a c.release-before.ensures c.start-holding.ensures i e, a.held.used.few))

pub returns : goal.returns
unfolding join
returns c =
    let those = losing c.release-before.result c.args.due.starting c.start-holding.result c.release-before.type_inv (omega arith) c.start-holding.type_inv in
    let fresh = and_not 64 c.start-holding.result c.args.s.counted c.start-holding.type_inv (omega arith) in
    past c.requires c.release-before.ensures c.start-holding.ensures (subst (λ set. SecondCounted set c.start-holding.new.slots c.count.new.slots) fresh c.count.ensures) c.report-ends.ensures
    (rw those at c.report-losses.ensures) c.report-all.ensures
