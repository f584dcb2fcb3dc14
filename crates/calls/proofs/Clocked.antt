-- A clock call on a sound schedule: 12, 13, or what the moments leave.
use mathlib.Core.Path.{◌≡◌, refl, sym, ap, ◌∙◌, subst}
use Prim.Native.Nat.{ℕ, ◌*◌, ◌<◌, ◌≤◌}
use mathlib.Core.Bool.{true, false, ◌||◌}
use mathlib.Core.List.{List, []}
use native.Mathlib.Omega.{arith}
use borrow.Author.Tests.{ltb-false, lt-ltb, le-ltb}
use lib.Dec.{ltb}
use lib.ListN.{length, take, drop}
use lib.Seq.{take_at, length-take-le}
use Rattle.rules.specs.declared.Refusal.{Refusal}
use Rattle.rules.specs.declared.Reply.{Reply}
use Rattle.rules.specs.declared.Schedule.{Schedule}
use Rattle.rules.specs.Lists.{over}
use Rattle.rules.specs.Records.{last_clock, view, most_rows}
use Rattle.rules.specs.Moments.{passed}
use Rattle.rules.specs.Sound.{sound}
use Rattle.rules.specs.Refusals.{clock_checks}
use Rattle.rules.specs.Calls.{Outcome, set_clock, nothing, count, counted, number_of, value_of, does, checks, call}
use Rattle.rules.specs.declared.Reply.TheVariants.{Count}
use Rattle.rules.specs.declared.Refusal.TheVariants.{ClockOutOfRange}
use Rattle.std.specs.Prelude.{Result, Ok, Err}
use Rattle.rules.specs.Bytes.{row_size, rows_size}
use Rattle.rules.proofs.Tests.{either_false}
use Rattle.rules.proofs.Bound.{few_rows}
use Rattle.rules.proofs.CallLaws.{done}
use Rattle.calls.specs.Advanced.{Advanced, Reads}
use Rattle.calls.proofs.Acting.{given}

module _ (s : Schedule) (e : sound s ≡ true) (t : ℕ) where
  pub out_of_range : (ltb t s.clock || ltb last_clock t) ≡ true → (b : List ℕ) → record { number = 12; value = nothing; state = s; bytes = b; records = [] } ≡ call s (set_clock t b)
  unfolding checks clock_checks
  out_of_range q b = given s e (set_clock t b) 12 refl (rw q)

  pub in_range : (ltb t s.clock || ltb last_clock t) ≡ false → (s.clock ≤ t) × (t ≤ last_clock)
  in_range q =
      let n = either_false (ltb t s.clock) (ltb last_clock t) q in
      (ltb-false t s.clock n.0, ltb-false last_clock t n.1)

  module _ (q : (ltb t s.clock || ltb last_clock t) ≡ false) (rows : List ℕ) (next : Schedule) (n : ℕ) (w : Advanced s t rows next n) where
    -- there are at most `most_rows` rows
    pub few : n ≤ most_rows
    few = omega (arith, few_rows s e t, w.rows)

    pub fits : (b : List ℕ) → row_size * n ≤ length b → record { number = 0; value = count n; state = next; bytes = over (take (row_size * n) rows) b; records = [] } ≡ call s (set_clock t b)
    unfolding checks clock_checks does
    fits b h =
        (λ i. record { number = 0; value = count (w.rows i); state = w.schedule i; bytes = over (w.written i) b; records = [] })
        ∙ sym (done s e (set_clock t b) (rw (q, le-ltb (length b) (row_size * length (passed (view s) t).rows) (omega (arith, w.rows)))))

    pub too_short : (b : List ℕ) → length b < row_size * n → record { number = 13; value = nothing; state = s; bytes = b; records = [] } ≡ call s (set_clock t b)
    unfolding checks clock_checks
    too_short b h = given s e (set_clock t b) 13 refl (rw (q, lt-ltb (length b) (row_size * length (passed (view s) t).rows) (omega (arith, w.rows))))

    -- the rows at the front of a buffer that they were written over
    pub front : (b : List ℕ) → take (row_size * n) rows ≡ take (row_size * n) (over (take (row_size * n) rows) b)
    front b =
        let f = take (row_size * n) rows in
        sym (take_at f (drop (length f) b) (row_size * n) (length-take-le (row_size * n) rows (omega (arith, few, w.size))))

-- In place.

-- the call gives the same with every buffer that all rows fit, and these rows at its front
reads : {s : Schedule} {t : ℕ} {rows : List ℕ} {a : Result Reply Refusal} {next : Schedule} → length rows ≡ rows_size → (out : List ℕ → List ℕ)
    → ((b : List ℕ) → length b ≡ rows_size → record { number = number_of a; value = value_of a; state = next; bytes = out b; records = [] } ≡ call s (set_clock t b))
    → ((b : List ℕ) → let n = row_size * counted (value_of a) in take n rows ≡ take n (out b)) → Reads s t a next rows
reads {rows = rows} long out is front = record {
  long = long;
  number = λ b m. ap (λ (o : Outcome). o.number) (is b m);
  value = λ b m. ap (λ (o : Outcome). o.value) (is b m);
  state = λ b m. ap (λ (o : Outcome). o.state) (is b m);
  written = λ b m. subst (λ (o : Outcome). let n = row_size * counted o.value in take n rows ≡ take n o.bytes) (is b m) (front b);
}

module _ (s : Schedule) (e : sound s ≡ true) (t : ℕ) (rows : List ℕ) where
  pub reads_none : (ltb t s.clock || ltb last_clock t) ≡ true → length rows ≡ rows_size → Reads s t (Err ClockOutOfRange) s rows
  reads_none q l = reads l (λ b. b) (λ b m. out_of_range s e t q b) (λ b. refl)

  pub reads_rows : (ltb t s.clock || ltb last_clock t) ≡ false → (next : Schedule) (n : ℕ) → Advanced s t rows next n → Reads s t (Ok (Count n)) next rows
  reads_rows q next n v =
      reads v.size (over (take (row_size * n) rows)) (λ b m. fits s e t q rows next n v b (omega (arith, few s e t q rows next n v))) (front s e t q rows next n v)
