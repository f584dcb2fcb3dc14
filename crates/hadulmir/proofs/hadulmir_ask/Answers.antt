-- Loaded and asked: a holder's id is written if it fits; nothing is stored, since the image is that of its schedule.
use mathlib.Core.Path.{sym, ◌∙◌}
use native.Mathlib.Omega.{arith}
use Rattle.rules.proofs.Numbers.{Bytes}
use Rattle.hadulmir.proofs.Facing.{Formed, formed_as, unread, small}
use Rattle.hadulmir.proofs.Unstored.{named_by, asked_other, asked_long, asked_holder}
use Rattle.hadulmir.proofs.hadulmir_ask.Goals as goal

pub returns-in_default : goal.returns-in_default
returns-in_default c =
    let a = c.args in
    unread a.image.now c.read.ensures c.in_default.is _ a.id.now c.negative.ensures

pub returned-requires : goal.returned-requires
returned-requires c =
    let known : Formed c.args.image.now c.in-Ok.s = formed_as _ c.read.ensures c.in-Ok.is in
    (small known c.ask-answer.result _ c.ask-answer.ensures).few

pub returns-in_default-holder_of : goal.returns-in_default-holder_of
returns-in_default-holder_of c =
    let known : Formed c.args.image.now c.in-Ok.s = formed_as _ c.read.ensures c.in-Ok.is in
    let are_bytes : Bytes c.args.image.now = λ i. omega (arith, c.type_inv.image i) in
    asked_other known are_bytes _ _ c.ask-answer.result c.ask-answer.ensures (sym c.holder_of.ensures ∙ c.in_default-holder_of.is) c.returned.ensures

pub returns-then-id-lt-SIZE : goal.returns-then-id-lt-SIZE
returns-then-id-lt-SIZE c =
    let known : Formed c.args.image.now c.in-Ok.s = formed_as _ c.read.ensures c.in-Ok.is in
    asked_long known _ _ c.ask-answer.result c.ask-answer.ensures (named_by c.ask-answer.result.answer c.in-Some.holder (sym c.holder_of.ensures ∙ c.in-Some.is)) c.if-id-lt-SIZE.true c.negative-then-id-lt-SIZE.ensures

pub returns : goal.returns
returns c =
    let known : Formed c.args.image.now c.in-Ok.s = formed_as _ c.read.ensures c.in-Ok.is in
    let are_bytes : Bytes c.args.image.now = λ i. omega (arith, c.type_inv.image i) in
    asked_holder known _ _ c.ask-answer.result c.ask-answer.ensures (named_by c.ask-answer.result.answer c.in-Some.holder (sym c.holder_of.ensures ∙ c.in-Some.is)) are_bytes c.if-id-lt-SIZE.false c.put_id.ensures
