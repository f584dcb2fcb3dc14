-- Each return has the tests that led there; an accepted program is the schedule with one place set, and no slot changes.
use mathlib.Core.Path.{◌≡◌, refl, sym, ap, ◌∙◌}
use Rattle.rules.specs.Records.{view, last_program}
use borrow.Author.Tests.{lt-ltb, le-ltb}
use Rattle.rules.specs.Refusals.{first_of, program_checks}
use Rattle.rules.specs.Calls.{call, add_program, does, checks}
use Rattle.sound.proofs.Primacies.{arm}
use Rattle.rules.proofs.CallLaws.{done}
use Rattle.rules.specs.declared.Reply.{Reply}
use Rattle.rules.specs.declared.Reply.TheVariants.{Code}
use Rattle.rules.specs.declared.Refusal.TheVariants.{NoSuchProgram, AddedBefore, ReservedPrimacy}
use Rattle.std.specs.Prelude.{Ok}
use Rattle.rules.specs.declared.Schedule.{Schedule}
use Rattle.rules.specs.Sound.{sound}
use Prim.Native.Nat.{ℕ}
use mathlib.Core.Bool.{true}
use lib.ListN.{set}
use Rattle.calls.specs.Answered.{told}
use Rattle.calls.proofs.Slots.{unused, says}
use Rattle.calls.proofs.Acting.{kept, refuses}
use Rattle.calls.proofs.programs.add_program.Goals as goal

pub returns-in_default : goal.returns-in_default
unfolding checks program_checks
returns-in_default c =
    let a = c.args in
    let tested = arm _ _ _ c.in_default.is c.from.ensures in
    refuses a.s.now.schedule a.s.now.good (add_program a.number a.primacy a.defaults) ReservedPrimacy refl refl (rw (le-ltb last_program _ c.if-number-gt-LAST.false, c.if-s-at.false, tested))

-- a program in its place
put : (s : Schedule) → sound s ≡ true → (n p m : ℕ) → first_of (checks (view s) (add_program n p m)) ≡ 0 → {r : Reply} → r ≡ Code 0
    → told (Ok r) (record { clock = s.clock; count = s.count; programs = set s.programs n (record { added = true; primacy = p; defaults = m }); entries = s.entries }) ≡ call s (add_program n p m)
unfolding does
put s e n p m z q =
    let u = unused s e in
    let with : Schedule = record { clock = s.clock; count = s.count; programs = set s.programs n (record { added = true; primacy = p; defaults = m }); entries = s.entries } in
    ap (λ r. told (Ok r) with) q ∙ ap (told (Ok (Code 0))) (says _ (record { used = u.used; none = u.none })) ∙ sym (done s e (add_program n p m) z)

pub invariant_of-s : goal.invariant_of-s
unfolding checks program_checks
invariant_of-s c =
    let a = c.args in
    let s = a.s.now in
    let tested = arm _ _ _ c.in-Usable.is c.from.ensures in
    record {
      good = kept s.schedule s.good (add_program a.number a.primacy a.defaults)
          (put s.schedule s.good a.number a.primacy a.defaults (rw (le-ltb last_program _ c.if-number-gt-LAST.false, c.if-s-at.false, tested)) refl);
    }

pub returns : goal.returns
unfolding checks program_checks
returns c =
    let a = c.args in
    let s = a.s.now in
    let tested = arm _ _ _ c.in-Usable.is c.from.ensures in
    put s.schedule s.good a.number a.primacy a.defaults (rw (le-ltb last_program _ c.if-number-gt-LAST.false, c.if-s-at.false, tested)) c.from-2.ensures

pub returns-then-number-gt-LAST : goal.returns-then-number-gt-LAST
unfolding checks program_checks
returns-then-number-gt-LAST c =
    let a = c.args in
    refuses a.s.now.schedule a.s.now.good (add_program a.number a.primacy a.defaults) NoSuchProgram refl refl (rw (lt-ltb last_program _ c.if-number-gt-LAST.true))

pub returns-then-s-at : goal.returns-then-s-at
unfolding checks program_checks
returns-then-s-at c =
    let a = c.args in
    refuses a.s.now.schedule a.s.now.good (add_program a.number a.primacy a.defaults) AddedBefore refl refl (rw (le-ltb last_program _ c.if-number-gt-LAST.false, c.if-s-at.true))
