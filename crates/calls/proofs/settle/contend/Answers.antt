use mathlib.Core.Path.{◌≡◌, refl, sym, ap₂, ◌∙◌}
use Prim.Native.Nat.{◌<◌}
use native.Mathlib.Omega.{arith}
use lib.Bits.{bit_and}
use Rattle.rules.specs.Records.{cut, most_events}
use Rattle.rules.specs.Holding.{better}
use Rattle.calls.specs.Sets.{mask_at, rank_in}
use Rattle.calls.proofs.Turns.{same_event_lem, same_rank, none_met, met_below, met_mask, passes, yields, takes, contended}
use Rattle.calls.proofs.settle.contend.Goals as goal

pub loop-rival-init : goal.loop-rival-init
loop-rival-init c = rw (c.into_iter-rival-iterator.ensures.into_iter_gives, c.of-rival-items.ensures) (none_met c.requires)

pub rank_at-own-requires : goal.rank_at-own-requires
rank_at-own-requires c = let p = c.requires in (omega (arith, p.below, p.held.used.few), p.held.numbered _ p.below)

pub rank_at-requires : goal.rank_at-requires
rank_at-requires c =
    let v = c.loop-rival.invariant in (
      omega (arith, met_below v c.in-Some.ensures.steps, v.comes.held.used.few),
      rw (same_event_lem v.masks) (v.comes.held.numbered _ (met_below v c.in-Some.ensures.steps)),
    )

-- a better one keeps what it has
pub loop-rival-preserved-then-is_better : goal.loop-rival-preserved-then-is_better
loop-rival-preserved-then-is_better c =
    let mask : mask_at c.loop-rival.slots c.in-Some.rival ≡ mask_at c.args.slots.now c.in-Some.rival = met_mask c.loop-rival.invariant c.in-Some.ensures.steps in
    let ahead : let a = c.args in c.is_better.result ≡ better (rank_in a.d.programs a.slots.now c.in-Some.rival) (rank_in a.d.programs a.slots.now a.i) = let a = c.args in
    let v = c.loop-rival.invariant.masks in
    c.is_better.ensures ∙ ap₂ better (c.rank_at.ensures ∙ same_rank v a.d.programs c.in-Some.rival) c.rank_at-own.ensures in
    let l = c.loop-rival in
    rw (c.without-left.ensures, mask) (yields l.invariant c.in-Some.ensures.steps (sym ahead ∙ c.if-is_better.true))

-- any other loses what is claimed
pub loop-rival-preserved-else-is_better : goal.loop-rival-preserved-else-is_better
loop-rival-preserved-else-is_better c =
    let mask : mask_at c.loop-rival.slots c.in-Some.rival ≡ mask_at c.args.slots.now c.in-Some.rival = met_mask c.loop-rival.invariant c.in-Some.ensures.steps in
    let ahead : let a = c.args in c.is_better.result ≡ better (rank_in a.d.programs a.slots.now c.in-Some.rival) (rank_in a.d.programs a.slots.now a.i) = let a = c.args in
    let v = c.loop-rival.invariant.masks in
    c.is_better.ensures ∙ ap₂ better (c.rank_at.ensures ∙ same_rank v a.d.programs c.in-Some.rival) c.rank_at-own.ensures in
    let l = c.loop-rival in
    let lost = c.without.ensures ∙ ap₂ cut mask refl in
    takes l.invariant c.in-Some.ensures.steps (sym ahead ∙ c.if-is_better.false) (rw lost at c.hold-now.ensures.0) (rw lost at c.hold-now.ensures.1)

-- it has nothing that is claimed
pub loop-rival-preserved : goal.loop-rival-preserved
loop-rival-preserved c =
    let mask : mask_at c.loop-rival.slots c.in-Some.rival ≡ mask_at c.args.slots.now c.in-Some.rival = met_mask c.loop-rival.invariant c.in-Some.ensures.steps in
    let l = c.loop-rival in
    passes l.invariant c.in-Some.ensures.steps (sym (ap₂ bit_and refl mask) ∙ c.if-claim-mask-ne0.false)

pub returns : goal.returns
returns c = contended c.loop-rival.invariant c.in-None.ensures.steps.0 c.hold.ensures.0 c.hold.ensures.1

pub hold-now-requires : goal.hold-now-requires
hold-now-requires c =
    let there : c.in-Some.rival < most_events = let v = c.loop-rival.invariant in omega (arith, met_below v c.in-Some.ensures.steps, v.comes.held.used.few) in
    (there, c.loop-rival.invariant.masks.size)

pub hold-requires : goal.hold-requires
hold-requires c = let v = c.loop-rival.invariant in (omega (arith, v.comes.below, v.comes.held.used.few), v.masks.size)
