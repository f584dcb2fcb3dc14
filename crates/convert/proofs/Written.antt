-- A line over what stands in a buffer, and one that does not fit.
use mathlib.Core.Path.{◌≡◌, refl, sym, ap, ◌∙◌}
use Prim.Native.Nat.{ℕ, zero, suc, ◌+◌, ◌-◌, ◌≤◌}
use mathlib.Core.Bool.{Bool, true, false}
use mathlib.Core.List.{List, [], ◌∷◌}
use borrow.Author.Tests.{leb-true, leb-false, le-ltb, lt-ltb, eqb-true, eqb-false, eq-eqb, ne_eqb}
use borrow.Table.Steps.{cases}
use lib.Dec.{leb, eqb}
use native.Mathlib.Omega.{arith}
use lib.ListN.{length, take, replicate, length-append, length-drop}
use lib.Pointwise.{pointwise}
use lib.Seq.{length-take-le}
use Rattle.rules.specs.Converted.{kind_digits, half_digits, widened, narrowed, Turned, turned_into}
use Rattle.rules.specs.Lists.{each, over_at}
use Rattle.rules.specs.Calls.{count}
use Rattle.convert.specs.Turns.{refused_line, written_at, turned_at}

-- n is the line's length, and `room` says whether there is room for so many
module _ (l : List ℕ) (at : ℕ) (out : List ℕ) (n : ℕ) (is : n ≡ length l) {room : Bool} (tells : room ≡ leb (at + n) (length out)) where
  pub too_long : room ≡ false → refused_line 13 out ≡ written_at l at out
  unfolding written_at
  too_long h = rw (← is, ← tells, h)

  pub fits : room ≡ true → at + n ≤ length out
  fits h = leb-true (at + n) (length out) (sym tells ∙ h)

  pub all_written : room ≡ true → {new : List ℕ} → new ≡ over_at at l out → record { number = 0; value = count n; bytes = new } ≡ written_at l at out
  unfolding written_at
  all_written h {new} e =
      let long : leb (at + length l) (length out) ≡ true = ap (λ k. leb (at + k) (length out)) (sym is) ∙ sym tells ∙ h in
      rw (long, e, is)

-- how long a turned line is
pub widened_length : (l : List ℕ) → kind_digits ≤ length l → length (widened l) ≡ length l + half_digits
unfolding widened
widened_length l h = simp (length-append, length-drop) (omega (arith, length-take-le kind_digits l h))

pub narrowed_length : (l : List ℕ) → kind_digits + half_digits ≤ length l → length (narrowed l) ≡ length l - half_digits
unfolding narrowed
narrowed_length l h = simp (length-append, length-drop) (omega (arith, length-take-le kind_digits l (omega arith)))

-- whether digits begin with zeros
zero_first : (x : ℕ) → eqb 48 x ≡ eqb x 48
zero_first x = cases (eqb x 48) (λ e. eq-eqb 48 x (sym (eqb-true x 48 e)) ∙ sym e) (λ e. ne_eqb 48 x (λ q. eqb-false x 48 e (sym q)) ∙ sym e)

pub begins : (n : ℕ) (l : List ℕ) → n ≤ length l → pointwise eqb (replicate n 48) (take n l) ≡ each (λ c. eqb c 48) (take n l)
begins zero l h = refl
begins (suc n) [] h = absurd (omega arith)
begins (suc n) (x ∷ l) h = rw (begins n l (omega arith), zero_first x) refl

-- from the front of a buffer on
pub from_front : (t : Turned) (out : List ℕ) → turned_at t 0 out ≡ turned_into t out
unfolding turned_at written_at turned_into
from_front t out = by (eqb t.number 0) refl (leb (length t.line) (length out)) refl
  where
    none : 0 + length t.line ≡ length t.line
    none = omega arith

    by : (a : Bool) → eqb t.number 0 ≡ a → (b : Bool) → leb (length t.line) (length out) ≡ b → turned_at t 0 out ≡ turned_into t out
    by true e true d = rw (e, none, d, le-ltb (length out) (length t.line) (leb-true _ _ d))
    by true e false d = rw (e, none, d, lt-ltb (length out) (length t.line) (leb-false _ _ d))
    by false e b d = rw e (rw e)
