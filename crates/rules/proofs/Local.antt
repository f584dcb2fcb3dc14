-- Who holds what up to a moment: what comes later, what has ended and what is added changes nothing.
use mathlib.Core.Path.{◌≡◌, refl, sym, ap, ap₂, ◌∙◌, fun_ext}
use mathlib.Core.Logic.{inl, inr}
use Prim.Native.Nat.{ℕ, zero, suc, ◌<◌, ◌≤◌}
use mathlib.Core.Bool.{Bool, true, false, cond, ◌&&◌}
use mathlib.Core.List.{List, [], ◌∷◌, map, map-map, ◌++◌}
use mathlib.Core.Option.{Option, none, some}
use native.Mathlib.Omega.{arith}
use borrow.Author.Tests.{lt-leb}
use Rattle.rules.specs.declared.Entry.{Entry}
use Rattle.rules.specs.declared.Program.{Program}
use Rattle.rules.specs.Lists.{keep, insert, In, All}
use Rattle.rules.specs.Records.{id_of, cut, differ, program_at}
use Rattle.rules.specs.Period.{effective_end}
use Rattle.rules.specs.Holding.{claim, taken, held_at, Holding, no_holding, carry, holding_at}
use Rattle.rules.specs.Rows.{code_at, rows_from, rows_at}
use Rattle.rules.specs.History.{Chosen, cancelled_at, held_under, standing, chosen_at}
use Rattle.rules.specs.Schedules.{Timed, gone_by, out_by, as_entry, holding, seen, rows_to}
use Rattle.rules.proofs.ListLaws.{keep_map, keep_insert_not, map_cong, all_map}
use Rattle.rules.proofs.Claims.{claim_ended, claim_early, code_early, taken_insert, Kind, rows_eq, rows_cong, gives_none, nothing_held}

-- Before it starts.

pub holding_early : (ps : List Program) (ts : List Timed) (t : ℕ) (x : Timed) → t < x.begins → holding ps ts t x ≡ no_holding
unfolding holding holding_at
holding_early ps ts zero x l = refl
holding_early ps ts (suc t) x l =
    ap (carry (seen ps ts t x)) (nothing_held ps (suc t) (map (seen ps ts t) ts) (seen ps ts t x) (claim_early (suc t) (seen ps ts t x) l))
    ∙ ap (λ k. carry (as_entry t x k) 0) (holding_early ps ts t x (omega arith))

-- From its end on.

pub holding_ended : (ps : List Program) (ts : List Timed) (t : ℕ) (x : Timed) → effective_end x.event ≤ t → (holding ps ts t x).held ≡ 0
unfolding holding holding_at
holding_ended ps ts zero x l = refl
holding_ended ps ts (suc t) x l = nothing_held ps (suc t) (map (seen ps ts t) ts) (seen ps ts t x) (claim_ended (suc t) (seen ps ts t x) l)

abbrev pub timed_id : Timed → ℕ
timed_id x = id_of x.event

-- A delivery changes nothing up to its clock.

module _ (ps : List Program) (a : Timed) (c : ℕ) (later : c < a.begins) (ts : List Timed) where
  abbrev more : List Timed
  more = insert timed_id a ts

  held_deliver : (t : ℕ) → suc t ≤ c → ((x : Timed) → holding ps more t x ≡ holding ps ts t x)
      → holding_at ps (suc t) (map (seen ps more t) more) ≡ holding_at ps (suc t) (map (seen ps ts t) ts)
  unfolding holding_at held_at
  held_deliver t l ih = fun_ext (λ h. ap (λ m. carry h (cut (claim (suc t) h) m))
      (taken_insert ps (suc t) h (seen ps more t) timed_id a (claim_early (suc t) (seen ps more t a) (omega arith)) ts
      ∙ ap (λ hs. taken ps (suc t) hs h) (map_cong (seen ps more t) (seen ps ts t) ts (λ x m. ap (as_entry t x) (ih x)))))

  pub holding_deliver : (t : ℕ) → t ≤ c → (x : Timed) → holding ps more t x ≡ holding ps ts t x
  unfolding holding
  holding_deliver zero l x = refl
  holding_deliver (suc t) l x = λ i. held_deliver t l (holding_deliver t (omega arith)) i (as_entry t x (holding_deliver t (omega arith) x i))

  pub rows_deliver : (t : ℕ) → t ≤ c → rows_to ps more t ≡ rows_to ps ts t
  unfolding rows_to rows_at
  rows_deliver zero l = refl
  rows_deliver (suc t) l = ap₂ ◌++◌ (rows_deliver t (omega arith))
      (ap (λ is. rows_from (suc t) is (map (seen ps more t) more)) (held_deliver t l (holding_deliver t (omega arith)))
      ∙ rows_eq (suc t) is (map (seen ps more t) more) (map (seen ps more t) ts) fewer
      ∙ ap (rows_from (suc t) is) (map_cong (seen ps more t) (seen ps ts t) ts (λ x m. ap (as_entry t x) (holding_deliver t (omega arith) x))))
    where
      is : Entry → Holding
      is = holding_at ps (suc t) (map (seen ps ts t) ts)

      fewer : (kind : ℕ → Bool) → Kind kind → keep (λ h. kind (code_at (suc t) h (is h))) (map (seen ps more t) more) ≡ keep (λ h. kind (code_at (suc t) h (is h))) (map (seen ps more t) ts)
      fewer kind e =
          keep_map (λ h. kind (code_at (suc t) h (is h))) (seen ps more t) more
          ∙ ap (map (seen ps more t)) (keep_insert_not timed_id a (λ x. kind (code_at (suc t) (seen ps more t x) (is (seen ps more t x)))) ts
          (gives_none (suc t) is kind (seen ps more t a) e (code_early (suc t) (seen ps more t a) (is (seen ps more t a)) (omega arith))))
          ∙ sym (keep_map (λ h. kind (code_at (suc t) h (is h))) (seen ps more t) ts)

-- A cancellation and a choice change nothing up to their clock.

abbrev pub cancel_timed : ℕ → ℕ → Timed → Timed
cancel_timed i t x =
    record { event = x.event; begins = x.begins; cancelled = cancelled_at (held_under i t x.event) t x.cancelled; choices = x.choices }

gone_before : (b : Bool) (c t : ℕ) (o : Option ℕ) → t < c → gone_by t (cancelled_at b c o) ≡ gone_by t o
gone_before false c t o l = refl
gone_before true c t none l = lt-leb c t l
gone_before true c t (some k) l = refl

pub cancel_before : (i c t : ℕ) → t < c → (x : Timed) (m : Holding) → as_entry t (cancel_timed i c x) m ≡ as_entry t x m
cancel_before i c t l x m = rw (gone_before (held_under i c x.event) c t x.cancelled l)

abbrev pub choose_timed : ℕ → Bool → ℕ → Timed → Timed
choose_timed i out t x =
    record { event = x.event; begins = x.begins; cancelled = x.cancelled; choices = chosen_at (held_under i t x.event) t out x.choices }

out_before : (b : Bool) (c t : ℕ) (out : Bool) (cs : List Chosen) → t < c → out_by t (chosen_at b c out cs) ≡ out_by t cs
out_before b c t out cs l = go (b && differ (standing cs) out)
  where
    go : (d : Bool) → out_by t (cond d (record { clock = c; out = out } ∷ cs) cs) ≡ out_by t cs
    go true = rw (lt-leb c t l)
    go false = refl

pub choose_before : (i : ℕ) (out : Bool) (c t : ℕ) → t < c → (x : Timed) (m : Holding) → as_entry t (choose_timed i out c x) m ≡ as_entry t x m
choose_before i out c t l x m = rw (out_before (held_under i c x.event) c t out x.choices l)

-- events that are seen as before until clock c
module _ (ps : List Program) (f : Timed → Timed) (c : ℕ) (before : (t : ℕ) → t < c → (x : Timed) (m : Holding) → as_entry t (f x) m ≡ as_entry t x m)
    (ts : List Timed) where
  abbrev less : List Timed
  less = map f ts

  module _ (t : ℕ) (l : t < c) (ih : (x : Timed) → holding ps less t (f x) ≡ holding ps ts t x) where
    seen_change : (x : Timed) → seen ps less t (f x) ≡ seen ps ts t x
    seen_change x = ap (as_entry t (f x)) (ih x) ∙ before t l x (holding ps ts t x)

    all_change : map (seen ps less t) less ≡ map (seen ps ts t) ts
    all_change = map-map (seen ps less t) f ts ∙ map_cong (λ x. seen ps less t (f x)) (seen ps ts t) ts (λ x m. seen_change x)

  pub holding_change : (t : ℕ) → t ≤ c → (x : Timed) → holding ps less t (f x) ≡ holding ps ts t x
  unfolding holding
  holding_change zero l x = refl
  holding_change (suc t) l x =
      ap₂ (holding_at ps (suc t)) (all_change t l (holding_change t (omega arith))) (seen_change t l (holding_change t (omega arith)) x)

  pub rows_change : (t : ℕ) → t ≤ c → rows_to ps less t ≡ rows_to ps ts t
  unfolding rows_to
  rows_change zero l = refl
  rows_change (suc t) l = ap₂ ◌++◌ (rows_change t (omega arith)) (ap (rows_at ps (suc t)) (all_change t l (holding_change t (omega arith))))

-- A program that ranks none of the events changes nothing.

module _ (ps qs : List Program) where
  abbrev pub RankedAlike : Timed → Type 0
  RankedAlike x = (program_at qs x.event.program).primacy ≡ (program_at ps x.event.program).primacy

  taken_program : (t s : ℕ) (m : Timed → Holding) (x : Timed) → RankedAlike x → (n : Holding) (ts : List Timed) → All RankedAlike ts
      → taken qs s (map (λ o. as_entry t o (m o)) ts) (as_entry t x n) ≡ taken ps s (map (λ o. as_entry t o (m o)) ts) (as_entry t x n)
  unfolding taken
  taken_program t s m x r n [] h = refl
  taken_program t s m x r n (o ∷ os) h = rw (r, h o (inl refl), taken_program t s m x r n os (λ y k. h y (inr k)))

  module _ (ts : List Timed) (ranked : All RankedAlike ts) where
    pub holding_program : (t : ℕ) (x : Timed) → In x ts → holding qs ts t x ≡ holding ps ts t x
    unfolding holding holding_at held_at
    holding_program zero x m = refl
    holding_program (suc t) x m =
        ap₂ (holding_at qs (suc t)) (map_cong (seen qs ts t) (seen ps ts t) ts (λ o k. ap (as_entry t o) (holding_program t o k))) (ap (as_entry t x) (holding_program t x m))
        ∙ ap (λ m. carry (seen ps ts t x) (cut (claim (suc t) (seen ps ts t x)) m)) (taken_program t (suc t) (holding ps ts t) x (ranked x m) (holding ps ts t x) ts ranked)

    pub rows_program : (t : ℕ) → rows_to qs ts t ≡ rows_to ps ts t
    unfolding rows_to rows_at holding_at held_at
    rows_program zero = refl
    rows_program (suc t) = ap₂ ◌++◌ (rows_program t)
        (ap (rows_at qs (suc t)) (map_cong (seen qs ts t) (seen ps ts t) ts (λ o k. ap (as_entry t o) (holding_program t o k)))
        ∙ rows_cong (suc t) (holding_at qs (suc t) hs) (holding_at ps (suc t) hs) hs
        (all_map (λ h. holding_at qs (suc t) hs h ≡ holding_at ps (suc t) hs h) (seen ps ts t) ts
        (λ x m. ap (λ m. carry (seen ps ts t x) (cut (claim (suc t) (seen ps ts t x)) m)) (taken_program t (suc t) (holding ps ts t) x (ranked x m) (holding ps ts t x) ts ranked))))
      where
        hs : List Entry
        hs = map (seen ps ts t) ts
