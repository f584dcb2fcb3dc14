-- Kind by kind, its fields, for which there is room.
use mathlib.Core.Path.{◌≡◌, ◌∙◌}
use mathlib.Core.Logic.{⊎_elim}
use native.Mathlib.Omega.{arith}
use Rattle.rules.specs.Records.{id_size, id_number}
use Rattle.rules.specs.Bytes.{big}
use Rattle.octets.proofs.Fits.{put_inside, put_event_inside}
use Rattle.frame.specs.Encoded.{field_bytes}
use Rattle.frame.proofs.fields.put.Goals as goal

pub returns-in-Event : goal.returns-in-Event
unfolding field_bytes
returns-in-Event c =
    rw c.in-Event.is (c.put_event.ensures ∙ put_event_inside _ _ _ (omega arith))

pub returns-in-Clock : goal.returns-in-Clock
unfolding field_bytes
returns-in-Clock c =
    rw c.in-Clock.is (c.put8.ensures ∙ put_inside _ _ _ _ (omega arith))

pub returns-in-Program : goal.returns-in-Program
unfolding field_bytes
returns-in-Program c =
    rw c.in-Program.is c.put_program.ensures

pub returns-in-Ask : goal.returns-in-Ask
unfolding field_bytes
returns-in-Ask c =
    rw c.in-Ask.is (c.put.ensures ∙ put_inside _ _ _ _ (omega arith))

pub returns-in-Cancel : goal.returns-in-Cancel
unfolding field_bytes
returns-in-Cancel c =
    let id_alone : field_bytes c.args.f ≡ big id_size (id_number c.in-Cancel.id) = ⊎_elim (λ w. rw w) (⊎_elim (λ w. rw w) (λ w. rw w)) c.in-Cancel.is in
    rw id_alone (c.put_id.ensures ∙ put_inside _ _ _ _ (omega arith))
