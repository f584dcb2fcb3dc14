-- Texts one behind the other in a buffer, and how long they are.
use mathlib.Core.Path.{◌≡◌, refl, sym, ap, ◌∙◌}
use Prim.Native.Nat.{ℕ, zero, suc, ◌+◌, ◌*◌, ◌/◌, ◌%◌, ◌<◌, ◌≤◌}
use mathlib.Core.Bool.{Bool, true, false, cond}
use mathlib.Core.List.{List, [], ◌∷◌, ◌++◌, append_assoc, append-nil}
use native.Mathlib.Numerals.{add-one}
use native.Mathlib.Omega.{arith}
use lib.Dec.{ltb}
use lib.ListN.{length, get_or, set, length-append}
use lib.Seq.{sets-eq, drop-drop}
use Rattle.std.specs.Prelude.{Result, Ok, Err}
use Rattle.rules.specs.declared.Frame.{Frame}
use Rattle.rules.specs.declared.Frame.TheVariants.{Event, Cancel, Clock, Program, Ask, OptOut, OptIn}
use Rattle.rules.specs.declared.Id.{Id}
use Rattle.rules.specs.declared.Refusal.{Refusal}
use Rattle.rules.specs.declared.Reply.{Reply}
use Rattle.rules.specs.declared.Reply.TheVariants.{Code, Count, Holder, Default, Nobody}
use Rattle.rules.specs.Calls.{Outcome, nothing, value_of}
use Rattle.rules.specs.Records.{id_size}
use Rattle.rules.specs.Bytes.{read, row_size}
use Rattle.rules.specs.Printed.{decimal, most_digits, digits, most_id_digits, id_digits, three_text, rows_text, row_text, code_text, ask_text, frame_text}
use Rattle.text.specs.declared.writing.Text.{Text}
use Rattle.rules.proofs.Over.{over_then, over_none}
use Rattle.text.specs.Texts.{Adds, Stands, most_row}

-- no text, and one text and then another
pub put_none : {t : Text} → Adds t [] t
put_none {t} = record { stands = record { end = omega arith; is = sym (over_none t.at t.out.now) }; buffer = refl; size = refl }

pub put_then : {t u v : Text} {x y : List ℕ} → t.at ≤ length t.out.now → Adds t x u → Adds u y v → Adds t (x ++ y) v
put_then {t = t} {x = x} {y = y} h p q =
    record {
      stands = record {
        end = omega (arith, p.stands.end, q.stands.end, length-append x y);
        is = q.stands.is ∙ rw (p.stands.is, p.stands.end) (over_then t.at x y t.out.now h);
      };
      buffer = q.buffer ∙ p.buffer;
      size = q.size ∙ p.size;
    }

-- one byte
pub put_one : {l : List ℕ} {at : ℕ} (b : ℕ) → at < length l → Stands l at (b ∷ []) (set l at b) (at + 1)
put_one {l} {at} b h = record { end = refl; is = rw drop-drop (rw append_assoc at (sets-eq (b ∷ []) l at (omega arith))) }

-- The digits of a number.

pub decimal_length : (n x : ℕ) → length (decimal n x) ≤ n
unfolding decimal
decimal_length zero x = omega arith
decimal_length (suc n) x = go (ltb x 10) (decimal_length n (x / 10))
  where
    go : (b : Bool) → length (decimal n (x / 10)) ≤ n → length (cond b ((48 + x) ∷ []) (decimal n (x / 10) ++ ((48 + x % 10) ∷ []))) ≤ suc n
    go true h = omega arith
    go false h = simp length-append (omega arith)

-- where a number ends, and what follows it
pub decimal_within : (n x : ℕ) {t u : Text} → Adds t (decimal n x) u → u.at ≤ t.at + n
decimal_within n x p = omega (arith, p.stands.end, decimal_length n x)

pub number_within : (x : ℕ) (w : List ℕ) {t u : Text} → Adds t (digits x ++ w) u → u.at ≤ t.at + (most_digits + length w)
number_within x w p = omega (arith, p.stands.end, length-append (digits x) w, decimal_length most_digits x)

pub id_within : (i : ℕ) (w : List ℕ) {t u : Text} → Adds t (id_digits i ++ w) u → u.at ≤ t.at + (most_id_digits + length w)
id_within i w p = omega (arith, p.stands.end, length-append (id_digits i) w, decimal_length most_id_digits i)

-- A reply without a value has no text.

pub nothing_told : (t : ℕ) (f : Frame) (o : Outcome) → o.value ≡ nothing → frame_text t f o ≡ []
unfolding rows_text
nothing_told t (Event e) o v = rw v
nothing_told t (Cancel i) o v = rw v
nothing_told t (Clock c) o v = rw v
nothing_told t (Program n p d) o v = refl
nothing_told t (Ask c) o v = rw v
nothing_told t (OptOut i) o v = rw v
nothing_told t (OptIn i) o v = rw v

-- Answers that give no text.

pub no_code : (t i : ℕ) (a : Result Reply Refusal) → ((k : ℕ) → a ≡ Ok (Code k) → ⊥) → code_text t i (value_of a) ≡ []
no_code t i (Err e) h = refl
no_code t i (Ok (Code k)) h = absurd (h k refl)
no_code t i (Ok (Count n)) h = refl
no_code t i (Ok (Holder j)) h = refl
no_code t i (Ok (Default p)) h = refl
no_code t i (Ok Nobody) h = refl

pub no_question : (c : ℕ) (a : Result Reply Refusal) → ((j : Id) → a ≡ Ok (Holder j) → ⊥) → ((p : ℕ) → a ≡ Ok (Default p) → ⊥) → (a ≡ Ok Nobody → ⊥)
    → ask_text c (value_of a) ≡ []
no_question c (Err e) h d n = refl
no_question c (Ok (Code k)) h d n = refl
no_question c (Ok (Count k)) h d n = refl
no_question c (Ok (Holder j)) h d n = absurd (h j refl)
no_question c (Ok (Default p)) h d n = absurd (d p refl)
no_question c (Ok Nobody) h d n = absurd (n refl)

-- Rows one behind the other.

pub read_one : (at : ℕ) (l : List ℕ) → read 1 at l ≡ get_or l at 0
unfolding read
read_one at l = let z : at + 0 ≡ at = omega arith in rw z (omega arith)

pub three_length : (t i k : ℕ) → length (three_text t i k) ≤ most_row
three_length t i k = simp length-append (omega (arith, decimal_length most_digits t, decimal_length most_id_digits i, decimal_length most_digits k))

module _ (b : List ℕ) where
  pub rows_length : (n at : ℕ) → length (rows_text n at b) ≤ most_row * n
  unfolding rows_text
  rows_length zero at = omega arith
  rows_length (suc n) at =
      let three = three_length (read 8 at b) (read id_size (at + 8) b) (read 1 (at + (8 + id_size)) b) in
      omega (arith, length-append (row_text at b) (rows_text n (at + row_size) b), three, rows_length n (at + row_size))

  rows_last : (n at : ℕ) → rows_text (suc n) at b ≡ rows_text n at b ++ row_text (at + row_size * n) b
  unfolding rows_text
  rows_last zero at = let e : at + row_size * 0 ≡ at = omega arith in rw (e, append-nil)
  rows_last (suc n) at =
      let e : at + row_size * suc n ≡ at + row_size + row_size * n = omega arith in
      rw e (ap (λ r. row_text at b ++ r) (rows_last n (at + row_size)) ∙ sym (append_assoc (row_text at b) (rows_text n (at + row_size) b) (row_text (at + row_size + row_size * n) b)))

  pub rows_next : {t u v : Text} (i : ℕ) → t.at ≤ length t.out.now → Adds t (rows_text i 0 b) u → Adds u (row_text (row_size * i) b) v → Adds t (rows_text (i + 1) 0 b) v
  rows_next i h p q = let e : 0 + row_size * i ≡ row_size * i = omega arith in rw (add-one i, rows_last i 0, e) (put_then h p q)
