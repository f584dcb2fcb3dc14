-- What the members of a history's lists say: the program places and the cancellations.
use mathlib.Core.Path.{◌≡◌, refl, sym, ap, ◌∙◌}
use mathlib.Core.Logic.{◌⊎◌, inl, inr}
use Prim.Native.Nat.{ℕ}
use mathlib.Core.Bool.{Bool, true, false}
use mathlib.Core.List.{List, [], ◌∷◌}
use mathlib.Core.Option.{Option, none, some}
use native.Mathlib.Omega.{arith}
use lib.Dec.{ltb, eqb}
use lib.ListN.{length, length-set, get_or-replicate, get_or-eq_default}
use lib.Seq.{get_or-set_same, get_or-set_other, ext_get_or}
use borrow.Author.Tests.{ltb-true, ltb-false, eqb-true, eqb-false}
use Rattle.rules.specs.Lists.{In, Same}
use Rattle.rules.specs.Records.{no_program, program_at, fresh}
use Rattle.rules.specs.Calls.{program_of}
use Rattle.rules.specs.History.{Added, Brought}
use Rattle.rules.specs.Schedules.{programs_of}
use Rattle.rules.specs.Arrival.{Cancellation, cancellation, cancellations_in}
use Rattle.rules.proofs.Tests.{both}
use Rattle.rules.proofs.Scheduled.{OnceEach}

-- Programs.

programs_length : (xs : List Added) → length (programs_of xs) ≡ 8
programs_length [] = refl
programs_length (a ∷ xs) = length-set (programs_of xs) a.number (program_of a.primacy a.defaults) ∙ programs_length xs

lookup : (xs : List Added) → OnceEach xs → (a : Added) → In a xs → program_at (programs_of xs) a.number ≡ program_of a.primacy a.defaults
lookup [] h a m = elim m [ ]
lookup (x ∷ xs) h a (inl q) = rw q (get_or-set_same (programs_of xs) x.number (program_of x.primacy x.defaults) no_program (omega (arith, programs_length xs, h.0)))
lookup (x ∷ xs) h a (inr m) =
    let e = lookup xs h.2 a m in
    get_or-set_other (programs_of xs) x.number a.number (program_of x.primacy x.defaults) no_program
    (λ q. both (program_at (programs_of xs) x.number).added (rw q at (ap (λ p. p.added) e)) h.1)
    ∙ e

absent : (xs : List Added) (n : ℕ) → (program_at (programs_of xs) n ≡ no_program) ⊎ ((a : Added) × In a xs × (a.number ≡ n))
absent [] n = inl (go (ltb n 8) refl)
  where
    go : (b : Bool) → ltb n 8 ≡ b → program_at fresh.programs n ≡ no_program
    go true e = get_or-replicate 8 n no_program no_program (ltb-true n 8 e)
    go false e = get_or-eq_default fresh.programs no_program (ltb-false n 8 e)
absent (x ∷ xs) n = go (eqb x.number n) refl (absent xs n)
  where
    go : (b : Bool) → eqb x.number n ≡ b → (program_at (programs_of xs) n ≡ no_program) ⊎ ((a : Added) × In a xs × (a.number ≡ n))
        → (program_at (programs_of (x ∷ xs)) n ≡ no_program) ⊎ ((a : Added) × In a (x ∷ xs) × (a.number ≡ n))
    go true e ih = inr (x, inl refl, eqb-true x.number n e)
    go false e (inl z) = inl (get_or-set_other (programs_of xs) x.number n (program_of x.primacy x.defaults) no_program (λ q. eqb-false x.number n e (sym q)) ∙ z)
    go false e (inr r) = inr (r.0, inr r.1, r.2)

pub programs_same : (xs ys : List Added) → OnceEach xs → OnceEach ys → Same xs ys → programs_of xs ≡ programs_of ys
programs_same xs ys h k s = ext_get_or no_program (programs_of xs) (programs_of ys) (programs_length xs ∙ sym (programs_length ys)) (λ i l. at i (absent xs i) (absent ys i))
  where
    there : (a : Added) (i : ℕ) → a.number ≡ i → In a xs → In a ys → program_at (programs_of xs) i ≡ program_at (programs_of ys) i
    there a i q m n = rw (← q) (lookup xs h a m ∙ sym (lookup ys k a n))

    at : (i : ℕ) → (program_at (programs_of xs) i ≡ no_program) ⊎ ((a : Added) × In a xs × (a.number ≡ i))
        → (program_at (programs_of ys) i ≡ no_program) ⊎ ((a : Added) × In a ys × (a.number ≡ i))
        → program_at (programs_of xs) i ≡ program_at (programs_of ys) i
    at i (inr r) o = there r.0 i r.2 r.1 ((s r.0).0 r.1)
    at i (inl z) (inr r) = there r.0 i r.2 ((s r.0).1 r.1) r.1
    at i (inl z) (inl w) = z ∙ sym w

-- Cancellations.

pub in_cancellations : (bs : List Brought) (x : Cancellation) → In x (cancellations_in bs) → (b : Brought) × In b bs × (b.event ≡ x.event) × (b.cancelled ≡ some x.clock)
in_cancellations [] x m = absurd m
in_cancellations (b ∷ bs) x m = go b.cancelled refl (in_cancellations bs x) m
  where
    go : (o : Option ℕ) → b.cancelled ≡ o → (In x (cancellations_in bs) → (c : Brought) × In c bs × (c.event ≡ x.event) × (c.cancelled ≡ some x.clock))
        → In x (cancellation b.event o (cancellations_in bs)) → (c : Brought) × In c (b ∷ bs) × (c.event ≡ x.event) × (c.cancelled ≡ some x.clock)
    go none e ih m = let r = ih m in (r.0, inr r.1, r.2, r.3)
    go (some k) e ih (inl q) = (b, inl refl, sym (ap (λ c. c.event) q), e ∙ ap {B = Option ℕ} (λ c. some c.clock) (sym q))
    go (some k) e ih (inr m) = let r = ih m in (r.0, inr r.1, r.2, r.3)

pub cancellations_in_lem : (bs : List Brought) (b : Brought) → In b bs → (k : ℕ) → b.cancelled ≡ some k → In (record { event = b.event; clock = k }) (cancellations_in bs)
cancellations_in_lem [] b m k e = elim m [ ]
cancellations_in_lem (x ∷ bs) b (inl q) k e =
    let d : x.cancelled ≡ some k = ap {B = Option ℕ} (λ c. c.cancelled) (sym q) ∙ e in
    rw (d, q) (inl refl)
cancellations_in_lem (x ∷ bs) b (inr m) k e = go x.cancelled (cancellations_in_lem bs b m k e)
  where
    go : (o : Option ℕ) → In (record { event = b.event; clock = k }) (cancellations_in bs) → In (record { event = b.event; clock = k }) (cancellation x.event o (cancellations_in bs))
    go none n = n
    go (some j) n = inr n
