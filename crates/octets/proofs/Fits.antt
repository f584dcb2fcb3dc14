-- A number, an id or an event whose bytes are all there is read and written, and bytes that are all there are copied; any others are not. What is read fits.
use mathlib.Core.Path.{◌≡◌, refl, sym, ◌∙◌}
use Prim.Native.Nat.{ℕ, ◌+◌, ◌-◌, ◌^◌, ◌<◌, ◌≤◌}
use mathlib.Core.Bool.{Bool, true, false, cond, ◌&&◌, and-false}
use mathlib.Core.List.{List}
use native.Mathlib.Omega.{arith}
use native.Mathlib.Nat.{pow-le-pow_right}
use borrow.Author.Tests.{le-leb, lt-leb, leb-true, leb-false}
use lib.Dec.{leb}
use lib.ListN.{length, take, drop, get_or, length-drop}
use lib.Seq.{length-take-le, get_or-drop}
use Rattle.std.proofs.lemmas.List.{get_or-take}
use Rattle.rules.specs.declared.Event.{Event}
use Rattle.rules.specs.Lists.{over_at}
use Rattle.rules.specs.Records.{id_size, id_from, no_event}
use Rattle.rules.specs.Bytes.{big, read, id_at, event_size, event_at, event_bytes}
use Rattle.rules.proofs.Numbers.{Bytes, read_below}
use Rattle.rules.proofs.Over.{over_size}
use Rattle.octets.specs.Octets.{number_at, get_at, put_at, get_id, get_event, put_event, copied}

-- what the test for room says
module _ (n at : ℕ) (l : List ℕ) {b : Bool} (e : b ≡ leb (at + n) (length l)) where
  pub room : b ≡ true → at + n ≤ length l
  room t = leb-true (at + n) (length l) (sym e ∙ t)

  pub no_room : b ≡ false → length l < at + n
  no_room f = leb-false (at + n) (length l) (sym e ∙ f)

module _ (n at : ℕ) (l : List ℕ) where
  pub number_inside : at + n ≤ length l → number_at n at l ≡ read n at l
  unfolding number_at
  number_inside h = rw (le-leb (at + n) (length l) h)

  pub numbered_inside : {x : ℕ} → x ≡ number_at n at l → at + n ≤ length l → x ≡ read n at l
  numbered_inside e h = e ∙ number_inside h

  pub number_outside : length l < at + n → number_at n at l ≡ 0
  unfolding number_at
  number_outside h = rw (lt-leb (at + n) (length l) h)

  -- of at most 8 bytes it is what `get` reads
  pub number_got : {x : ℕ} → x ≡ number_at n at l → n ≤ 8 → x ≡ get_at n at l
  unfolding number_at get_at
  number_got e g = e ∙ rw (le-leb n 8 g)

  pub get_inside : n ≤ 8 → at + n ≤ length l → get_at n at l ≡ read n at l
  unfolding get_at
  get_inside g h = rw (le-leb n 8 g, le-leb (at + n) (length l) h)

  pub got_inside : {x : ℕ} → x ≡ get_at n at l → n ≤ 8 → at + n ≤ length l → x ≡ read n at l
  got_inside e g h = e ∙ get_inside g h

  pub get_outside : length l < at + n → get_at n at l ≡ 0
  unfolding get_at
  get_outside h = rw (lt-leb (at + n) (length l) h, and-false)

  pub put_inside : (x : ℕ) → at + n ≤ length l → put_at n at x l ≡ over_at at (big n x) l
  unfolding put_at
  put_inside x h = rw (le-leb (at + n) (length l) h)

  pub put_outside : (x : ℕ) → length l < at + n → put_at n at x l ≡ l
  unfolding put_at
  put_outside x h = rw (lt-leb (at + n) (length l) h)

module _ (at : ℕ) (l : List ℕ) where
  pub id_inside : at + id_size ≤ length l → get_id at l ≡ id_at at l
  unfolding get_id
  id_inside h = rw (le-leb (at + id_size) (length l) h)

  pub id_outside : length l < at + id_size → get_id at l ≡ id_from 0
  unfolding get_id
  id_outside h = rw (lt-leb (at + id_size) (length l) h)

  pub event_inside : at + event_size ≤ length l → get_event at l ≡ event_at at l
  unfolding get_event
  event_inside h = rw (le-leb (at + event_size) (length l) h)

  pub event_outside : length l < at + event_size → get_event at l ≡ no_event
  unfolding get_event
  event_outside h = rw (lt-leb (at + event_size) (length l) h)

  pub put_event_inside : (e : Event) → at + event_size ≤ length l → put_event at e l ≡ over_at at (event_bytes e) l
  unfolding put_event
  put_event_inside e h = rw (le-leb (at + event_size) (length l) h)

  pub put_event_outside : (e : Event) → length l < at + event_size → put_event at e l ≡ l
  unfolding put_event
  put_event_outside e h = rw (lt-leb (at + event_size) (length l) h)

module _ (at n : ℕ) (from to : List ℕ) where
  pub copy_inside : n ≤ length from → at + n ≤ length to → copied at n from to ≡ over_at at (take n from) to
  unfolding copied
  copy_inside g h = rw (le-leb n (length from) g, le-leb (at + n) (length to) h)

  pub copy_short : length from < n → copied at n from to ≡ to
  unfolding copied
  copy_short h = rw (lt-leb n (length from) h)

  pub copy_outside : length to < at + n → copied at n from to ≡ to
  unfolding copied
  copy_outside h = rw (lt-leb (at + n) (length to) h, and-false)

  pub copy_size : length (copied at n from to) ≡ length to
  unfolding copied
  copy_size = by (leb n (length from)) (leb (at + n) (length to)) refl refl
    where
      by : (s t : Bool) → leb n (length from) ≡ s → leb (at + n) (length to) ≡ t → length (cond (s && t) (over_at at (take n from) to) to) ≡ length to
      by true true g h = over_size at (take n from) to (omega (arith, leb-true (at + n) (length to) h, length-take-le n from (leb-true n (length from) g)))
      by true false g h = refl
      by false t g h = refl

-- the part from `at` to `at + n` and its bytes, as a slice has them
module _ (n at : ℕ) (l : List ℕ) where
  part : at + n - at ≡ n
  part = omega arith

  pub part_size : at + n ≤ length l → length (take (at + n - at) (drop at l)) ≡ n
  part_size h = rw part (length-take-le n (drop at l) (simp length-drop (omega arith)))

  pub part_byte : (i : ℕ) → i < n → get_or (take (at + n - at) (drop at l)) i 0 ≡ get_or l (at + i) 0
  part_byte i h = rw (part, get_or-take n (drop at l) i 0 h, get_or-drop)

module _ (l : List ℕ) (b : Bytes l) where
  -- a number of fewer than 8 bytes has room for one more
  pub read_room : (n at : ℕ) → n < 8 → read n at l < 256 ^ 7
  read_room n at h = omega (arith, read_below l b n at, pow-le-pow_right {n = 256} (omega arith) {i = n} {j = 7} (omega arith))

  pub get_fits : (n at : ℕ) → n ≤ 8 → at + n ≤ length l → {x : ℕ} → x ≡ get_at n at l → x < 256 ^ n
  get_fits n at g h e = rw (e, get_inside n at l g h) (read_below l b n at)
