-- The text of a line: what a frame's call gives, and how many rows there are in it at the most.
use mathlib.Core.Path.{◌≡◌, refl, sym, ap, ap₂, ◌∙◌}
use Prim.Native.Nat.{ℕ, zero, suc, ◌+◌, ◌*◌, ◌<◌, ◌≤◌}
use mathlib.Core.Bool.{Bool, true, false, cond, not, ◌&&◌}
use mathlib.Core.List.{List, [], ◌∷◌, ◌++◌}
use mathlib.Core.Option.{Option, none, some}
use native.Mathlib.Omega.{arith}
use borrow.Author.Tests.{not-false, eq-eqb, le-leb}
use borrow.Table.Steps.{cases}
use lib.Dec.{leb, eqb}
use lib.ListN.{length, take, get_or}
use lib.Seq.{get_or-take}
use Rattle.rules.specs.declared.Entry.{Entry}
use Rattle.std.specs.Prelude.{Result}
use Rattle.rules.specs.declared.Refusal.{Refusal}
use Rattle.rules.specs.declared.Reply.{Reply}
use Rattle.rules.specs.declared.Schedule.{Schedule}
use Rattle.rules.specs.declared.Frame.{Frame}
use Rattle.rules.specs.declared.Frame.TheVariants as frame
use Rattle.rules.specs.Records.{id_size, id_of, differ, view, most_rows}
use Rattle.rules.specs.Bytes.{read, row_size, rows_size}
use Rattle.rules.specs.Sound.{sound}
use Rattle.rules.specs.Refusals.{find}
use Rattle.rules.specs.Calls.{Bare, program, event, cancellation, decision, question, Value, code, Ranked, Call, bare, add_program, deliver, cancel, choose, set_clock, ask, list, cancel_code, choice_code, received, best_default, default_for, governs, holder_in, answer_for, counted, number_of, value_of, does, refusal, accepts, Outcome, call}
use Rattle.rules.specs.declared.Line.TheVariants.{Good, Bad}
use Rattle.rules.specs.Frames.{frame_call}
use Rattle.rules.specs.Printed.{refused_text, three_text, rows_text, frame_text, room, tell_frame}
use Rattle.rules.proofs.Tests.{first_not}
use Rattle.rules.proofs.SoundState.{sound_view}
use Rattle.rules.proofs.Bound.{few_rows}
use Rattle.calls.specs.Answered.{told}
use Rattle.calls.specs.Advanced.{Reads}
use Rattle.calls.specs.Says.{ActsOn, Says}
use Rattle.text.specs.Texts.{Stands, most_text, number_told, if_room}

-- Rows are read off the front of a buffer alone.

module _ (a b : List ℕ) where
  -- the same numbers below a place
  abbrev AlikeUpTo : ℕ → Type 0
  AlikeUpTo m = (j : ℕ) → j < m → get_or a j 0 ≡ get_or b j 0

  read_same : (n at : ℕ) → AlikeUpTo (at + n) → read n at a ≡ read n at b
  unfolding read
  read_same zero at s = refl
  read_same (suc n) at s = ap₂ (λ x y. x * 256 + y) (read_same n at (λ j l. s j (omega arith))) (s (at + n) (omega arith))

  rows_same : (n at : ℕ) → AlikeUpTo (at + row_size * n) → rows_text n at a ≡ rows_text n at b
  unfolding rows_text
  rows_same zero at s = refl
  rows_same (suc n) at s =
      let time = read_same 8 at (λ j l. s j (omega arith)) in
      let id = read_same id_size (at + 8) (λ j l. s j (omega arith)) in
      let code = read_same 1 (at + (8 + id_size)) (λ j l. s j (omega arith)) in
      ap₂ ◌++◌ (λ i. three_text (time i) (id i) (code i)) (rows_same n (at + row_size) (λ j l. s j (omega arith)))

  pub rows_front : (n : ℕ) → take (row_size * n) a ≡ take (row_size * n) b → rows_text n 0 a ≡ rows_text n 0 b
  rows_front n e = rows_same n 0 (λ j l. let m : j < row_size * n = omega arith in sym (get_or-take (row_size * n) a j 0 m) ∙ ap (λ z. get_or z j 0) e ∙ get_or-take (row_size * n) b j 0 m)

-- A frame's call.

-- the text of a call that is lent nothing hangs on its value alone
value_text : (clock : ℕ) (f : Frame) {c : Bare} → frame_call f room ≡ bare c → (o p : Outcome) → o.value ≡ p.value → frame_text clock f o ≡ frame_text clock f p
value_text clock (frame.Event e) is o p q = rw q
value_text clock (frame.Cancel i) is o p q = rw q
value_text clock (frame.Clock t) is o p q = let z : ◌≡◌ {A = ℕ} 0 1 = cc in absurd (omega arith)
value_text clock (frame.Program n i d) is o p q = refl
value_text clock (frame.Ask c) is o p q = rw q
value_text clock (frame.OptOut i) is o p q = rw q
value_text clock (frame.OptIn i) is o p q = rw q

module _ {s : Schedule} {a : Result Reply Refusal} {next : Schedule} {rows : List ℕ} where
  pub on_bare : {f : Frame} {c : Bare} → frame_call f room ≡ bare c → length rows ≡ rows_size → told a next ≡ call s (frame_call f room) → ActsOn s f a next rows
  on_bare {f} is long e =
      let v = ap (λ (o : Outcome). o.value) e in
      record {
        long = long;
        number = ap (λ (o : Outcome). o.number) e;
        value = v;
        state = ap (λ (o : Outcome). o.state) e;
        text = λ clock o p q. value_text clock f is o (call s (frame_call f room)) (p ∙ v);
      }

  pub on_clock : (t : ℕ) → Reads s t a next rows → ActsOn s (frame.Clock t) a next rows
  on_clock t r = record {
    long = r.long;
    number = r.number room refl;
    value = r.value room refl;
    state = r.state room refl;
    text = λ clock o p q.
        let v : counted o.value ≡ counted (call s (set_clock t room)).value = ap counted (p ∙ r.value room refl) in
        ap₂ (λ n b. rows_text n 0 b) v q ∙ rows_front rows (call s (set_clock t room)).bytes (counted (call s (set_clock t room)).value) (r.written room refl);
  }

-- the count of a call that was accepted, on a schedule that is sound then, or of none
from_done : (s : Schedule) (c : Call) → (sound s ≡ true → counted (does (view s) c).value ≤ most_rows) → counted (call s c).value ≤ most_rows
unfolding call refusal
from_done s c h = cases (accepts s c) (λ e. rw e (h (not-false (sound s) (first_not 2 (not (sound s)) _ refl e).0))) (λ e. rw e (omega arith))

none_counted : (o : Option Entry) → counted (received o) ≤ most_rows
none_counted none = omega arith
none_counted (some h) = omega arith

cancel_counted : (o : Option Entry) → counted (cancel_code o) ≤ most_rows
cancel_counted none = omega arith
cancel_counted (some h) = cases h.cancelled (λ e. rw e (omega arith)) (λ e. rw e (omega arith))

choice_counted : (out : Bool) (o : Option Entry) → counted (choice_code out o) ≤ most_rows
choice_counted out none = omega arith
choice_counted out (some h) = go (differ h.choice.out out) out
  where
    go : (d out : Bool) → counted (cond d (cond out (code 4) (code 5)) (code 0)) ≤ most_rows
    go true true = omega arith
    go true false = omega arith
    go false out = omega arith

default_counted : (q : Option Ranked) → counted (default_for q) ≤ most_rows
default_counted none = omega arith
default_counted (some q) = omega arith

holder_counted : (c : ℕ) (hs : List Entry) (v : Value) → counted v ≤ most_rows → counted (holder_in c hs v) ≤ most_rows
unfolding holder_in
holder_counted c [] v h = h
holder_counted c (x ∷ hs) v h = cases (governs c x) (λ e. rw e (omega arith)) (λ e. rw e (holder_counted c hs v h))

-- no call counts more than there can be rows: held events are fewer
pub call_counted : (s : Schedule) (c : Call) → counted (call s c).value ≤ most_rows
unfolding does answer_for
call_counted s (bare (program n p d)) = from_done s (add_program n p d) (λ e. omega arith)
call_counted s (bare (event v)) = from_done s (deliver v) (λ e. none_counted (find (id_of v) (view s).entries))
call_counted s (bare (cancellation i)) = from_done s (cancel i) (λ e. cancel_counted (find i (view s).entries))
call_counted s (bare (decision i out)) = from_done s (choose i out) (λ e. choice_counted out (find i (view s).entries))
call_counted s (bare (question c)) = from_done s (ask c) (λ e. holder_counted c (view s).entries _ (default_counted (best_default c 0 s.programs)))
call_counted s (set_clock t b) = from_done s (set_clock t b) (λ e. few_rows s e t)
call_counted s (list r) = from_done s (list r) (λ e. omega (arith, (sound_view s e).room))

-- A line.

module _ (s : Schedule) {old new : List ℕ} {at : ℕ} {rows : List ℕ} (fits : at + most_text ≤ length old) where
  pub says_bad : (behind : ℕ) → length rows ≡ rows_size → Stands old at (if_room 29 at old (refused_text 1)) new behind → Says s Bad old at behind s rows new
  says_bad behind long p = record {
    long = long;
    state = refl;
    text = rw (le-leb (at + 29) (length old) (omega arith)) at p;
  }

  pub says_good : (f : Frame) {a : Result Reply Refusal} {next : Schedule} → ActsOn s f a next rows → (n : Result Reply ℕ) → number_told n ≡ number_of a → value_of n ≡ value_of a → (behind : ℕ)
      → ((o : Outcome) → o.number ≡ number_told n → o.value ≡ value_of n → o.bytes ≡ rows
      → Stands old at (cond (eqb (length rows) rows_size && leb (counted o.value) most_rows) (if_room most_text at old (cond (eqb o.number 0) (frame_text s.clock f o) (refused_text o.number))) []) new behind)
      → Says s (Good f) old at behind next rows new
  unfolding tell_frame
  says_good f {a} t n p q behind said =
      let o : Outcome = record { number = number_of a; value = value_of a; state = s; bytes = rows; records = [] } in
      let few : counted (value_of a) ≤ most_rows = rw t.value (call_counted s (frame_call f room)) in
      record {
        long = t.long;
        state = t.state;
        text = rw (eq-eqb (length rows) rows_size t.long, le-leb (counted (value_of a)) most_rows few, le-leb (at + most_text) (length old) fits, t.text s.clock o refl refl, t.number) at (said o (sym p) (sym q) refl);
      }
