use mathlib.Core.Path.{◌≡◌, refl, sym, ap, ap₂, ◌∙◌}
use Prim.Native.Nat.{◌+◌, ◌*◌}
use mathlib.Core.Bool.{true}
use native.Mathlib.Omega.{arith}
use lib.ListN.{take}
use Rattle.rules.specs.Lists.{over, over_at}
use Rattle.rules.specs.Records.{view}
use Rattle.rules.specs.Bytes.{flat, record_size, record_bytes}
use Rattle.rules.specs.Sound.{sound}
use Rattle.rules.specs.Calls.{record_of}
use Rattle.rules.proofs.Numbers.{Bytes, flat_map}
use Rattle.rules.proofs.Entries.{record_size_lem}
use Rattle.rules.proofs.SoundState.{rules}
use Rattle.image.proofs.InRows.{wrote_more}
use Rattle.image.proofs.Listed.{record_inside}
use Rattle.hadulmir.proofs.Facing.{Formed, formed_as, is_imaged, unread, unimaged}
use Rattle.hadulmir.proofs.Unstored.{listed_short, listed_all}
use Rattle.hadulmir.proofs.hadulmir_list.Invariants.{recorded}
use Rattle.hadulmir.proofs.hadulmir_list.Goals as goal

pub returns-in_default : goal.returns-in_default
returns-in_default c =
    let a = c.args in
    unread a.image.now c.read.ensures c.in_default.is _ a.records.now c.negative.ensures

pub returns-then-not-is_sound : goal.returns-then-not-is_sound
returns-then-not-is_sound c =
    let known : Formed c.args.image.now c.in-Ok.s = formed_as _ c.read.ensures c.in-Ok.is in
    unimaged _ (is_imaged known c.is_sound.ensures ∙ c.if-not-is_sound.true) _ _ c.negative-then-not-is_sound.ensures

pub overflow_mul-n : goal.overflow_mul-n
overflow_mul-n c =
    let kept : sound c.in-Ok.s ≡ true = sym c.is_sound.ensures ∙ c.if-not-is_sound.false in
    omega (arith, (rules _ kept).count)

pub returns-then-records-n : goal.returns-then-records-n
returns-then-records-n c =
    let known : Formed c.args.image.now c.in-Ok.s = formed_as _ c.read.ensures c.in-Ok.is in
    let are_bytes : Bytes c.args.image.now = λ i. omega (arith, c.type_inv.image i) in
    let kept : sound c.in-Ok.s ≡ true = sym c.is_sound.ensures ∙ c.if-not-is_sound.false in
    listed_short known are_bytes _ kept c.if-records-n.true c.negative-then-records-n.ensures

pub loop-i-init : goal.loop-i-init
unfolding flat
loop-i-init c = (omega arith, refl, refl)

pub bounds-s-i : goal.bounds-s-i
bounds-s-i c =
    let kept : sound c.in-Ok.s ≡ true = sym c.is_sound.ensures ∙ c.if-not-is_sound.false in
    omega (arith, (rules _ kept).count)

pub loop-i-preserved : goal.loop-i-preserved
loop-i-preserved c =
    let kept : sound c.in-Ok.s ≡ true = sym c.is_sound.ensures ∙ c.if-not-is_sound.false in
    let l = c.loop-i in
    let hs = c.in-Ok.s.entries in
    let full = rules _ kept in
    let inside = record_inside (record_size * l.i) c.from.result l.records (omega (arith, c.if-records-n.false)) in
    let at : record_size * l.i ≡ 0 + record_size * l.i = omega arith in
    let one = c.put_record.ensures ∙ inside ∙ ap₂ (λ k x. over_at k (record_bytes x) l.records) at c.from.ensures in
    (omega arith, omega arith, wrote_more recorded record_size (λ h. record_size_lem (record_of h)) hs 0 c.args.records.now _ l.i (omega (arith, full.count, full.full)) (omega arith) l.invariant.2 one)

pub overflow_cast-result : goal.overflow_cast-result
overflow_cast-result c =
    let kept : sound c.in-Ok.s ≡ true = sym c.is_sound.ensures ∙ c.if-not-is_sound.false in
    omega (arith, (rules _ kept).count)

pub returns : goal.returns
returns c =
    let known : Formed c.args.image.now c.in-Ok.s = formed_as _ c.read.ensures c.in-Ok.is in
    let are_bytes : Bytes c.args.image.now = λ i. omega (arith, c.type_inv.image i) in
    let kept : sound c.in-Ok.s ≡ true = sym c.is_sound.ensures ∙ c.if-not-is_sound.false in
    let l = c.loop-i in
    let s = c.in-Ok.s in
    let lent = c.args.records.now in
    let done : l.i ≡ s.count = omega arith in
    let written = l.invariant.2 ∙ ap (λ k. over (flat recorded (take k s.entries)) lent) done ∙ ap (λ v. over v lent) (sym (flat_map record_bytes record_of (view s).entries)) in
    listed_all known are_bytes lent kept c.if-records-n.false written
