-- A second on the state of a history leads to the state of the same history a second later, and gives that moment's rows.
use mathlib.Core.Path.{◌≡◌, refl, sym, ap, ◌∙◌, fun_ext}
use Prim.Native.Nat.{ℕ, zero, suc, ◌+◌, ◌≤◌}
use native.Mathlib.Nat.{add-zero}
use mathlib.Core.Bool.{Bool, true, false, cond}
use mathlib.Core.List.{List, [], ◌∷◌, ◌++◌, map, map-map, append_assoc, append-nil}
use mathlib.Core.Option.{Option, none, some}
use native.Mathlib.Omega.{arith}
use borrow.Author.Tests.{ltb-false, le-ltb, le-leb}
use Rattle.rules.specs.declared.Entry.{Entry}
use Rattle.rules.specs.declared.Program.{Program}
use Rattle.rules.specs.Lists.{keep, All}
use Rattle.rules.specs.Records.{cut}
use Rattle.rules.specs.Period.{effective_end}
use Rattle.rules.specs.Holding.{claim, held_at, Holding, carry, holding_at, with_holding}
use Rattle.rules.specs.Rows.{code_at, rows_from, rows_at}
use Rattle.rules.specs.Moments.{entries_from, lasts, second, advance}
use Rattle.rules.specs.History.{Chosen, standing}
use Rattle.rules.specs.Schedules.{Timed, gone_by, out_by, holding, seen, rows_to, living, held_events, state_at}
use Rattle.rules.proofs.ListLaws.{in_keep, keep_map, keep_keep, map_cong}
use Rattle.rules.proofs.Claims.{claim_cancelled, claim_ended, code_ended, taken_keep, Kind, rows_eq, gives_none, nothing_held}

-- cancelled at the clock or before, if at all
abbrev pub Past : ℕ → Option ℕ → Type 0
Past t none = Unit {0}
Past t (some k) = k ≤ t

pub past_on : (t u : ℕ) → t ≤ u → (o : Option ℕ) → Past t o → Past u o
past_on t u l none p = p
past_on t u l (some k) p = omega arith

gone_next : (t : ℕ) (o : Option ℕ) → Past t o → gone_by (suc t) o ≡ gone_by t o
gone_next t none p = refl
gone_next t (some k) p = rw (le-leb k t p, le-leb k (suc t) (omega arith))

-- chosen at the clock or before: the last choice, which comes first
abbrev pub PastChoice : ℕ → List Chosen → Type 0
PastChoice t [] = Unit {0}
PastChoice t (c ∷ cs) = c.clock ≤ t

past_choice_on : (t u : ℕ) → t ≤ u → (cs : List Chosen) → PastChoice t cs → PastChoice u cs
past_choice_on t u l [] p = p
past_choice_on t u l (c ∷ cs) p = omega arith

-- then the last choice stands
pub out_standing : (t : ℕ) (cs : List Chosen) → PastChoice t cs → out_by t cs ≡ standing cs
out_standing t [] p = refl
out_standing t (c ∷ cs) p = rw (le-leb c.clock t p)

-- what was called of an event, was called at the clock or before
pub record Heard (t : ℕ) (x : Timed) : Type 0 where
  pub cancelled : Past t x.cancelled
  pub chosen : PastChoice t x.choices

pub heard_on : (t u : ℕ) → t ≤ u → (x : Timed) → Heard t x → Heard u x
heard_on t u l x p = record { cancelled = past_on t u l x.cancelled p.cancelled; chosen = past_choice_on t u l x.choices p.chosen }

out_next : (t : ℕ) (cs : List Chosen) → PastChoice t cs → out_by (suc t) cs ≡ out_by t cs
out_next t cs p = out_standing (suc t) cs (past_choice_on t (suc t) (omega arith) cs p) ∙ sym (out_standing t cs p)

module _ (ps : List Program) (ts : List Timed) where
  module _ (t : ℕ) where
    abbrev hs : List Entry
    hs = map (seen ps ts t) (keep (living t) ts)

    held_second : holding_at ps (suc t) hs ≡ holding_at ps (suc t) (map (seen ps ts t) ts)
    unfolding holding_at held_at
    held_second = fun_ext (λ h. ap (λ m. carry h (cut (claim (suc t) h) m)) (taken_keep ps (suc t) h (seen ps ts t) (living t) ts
        (λ x m e. claim_ended (suc t) (seen ps ts t x) (omega (arith, ltb-false t (effective_end x.event) e)))))

    rows_second : rows_at ps (suc t) hs ≡ rows_at ps (suc t) (map (seen ps ts t) ts)
    unfolding rows_at
    rows_second = ap (λ is. rows_from (suc t) is hs) held_second ∙ rows_eq (suc t) is hs (map (seen ps ts t) ts) fewer
      where
        is : Entry → Holding
        is = holding_at ps (suc t) (map (seen ps ts t) ts)

        fewer : (kind : ℕ → Bool) → Kind kind → keep (λ h. kind (code_at (suc t) h (is h))) hs ≡ keep (λ h. kind (code_at (suc t) h (is h))) (map (seen ps ts t) ts)
        fewer kind e =
            keep_map (λ h. kind (code_at (suc t) h (is h))) (seen ps ts t) (keep (living t) ts)
            ∙ ap (map (seen ps ts t)) (keep_keep (λ x. kind (code_at (suc t) (seen ps ts t x) (is (seen ps ts t x)))) (living t) ts
            (λ x m d. gives_none (suc t) is kind (seen ps ts t x) e (code_ended (suc t) (seen ps ts t x) (is (seen ps ts t x)) (omega (arith, ltb-false t (effective_end x.event) d)))))
            ∙ sym (keep_map (λ h. kind (code_at (suc t) h (is h))) (seen ps ts t) ts)

    entry_second : (x : Timed) → Heard t x
        → with_holding (seen ps ts t x) (holding_at ps (suc t) (map (seen ps ts t) ts) (seen ps ts t x)) ≡ seen ps ts (suc t) x
    unfolding holding holding_at
    entry_second x p = rw (gone_next t x.cancelled p.cancelled, out_next t x.choices p.chosen)
        (ap (λ m. record { event = x.event; begins = x.begins; held = m; cancelled = gone_by t x.cancelled; choice = (with_holding (seen ps ts t x) (carry (seen ps ts t x) is)).choice })
        (go (gone_by t x.cancelled) refl))
      where
        is : ℕ
        is = held_at ps (suc t) (map (seen ps ts t) ts) (seen ps ts t x)

        go : (b : Bool) → gone_by t x.cancelled ≡ b → is ≡ cond b 0 is
        go true e = rw (nothing_held ps (suc t) (map (seen ps ts t) ts) (seen ps ts t x) (claim_cancelled (suc t) (seen ps ts t x) e))
        go false e = refl

    module _ (past : All (Heard t) ts) where
      entries_second : entries_from (suc t) (holding_at ps (suc t) hs) hs ≡ held_events ps ts (suc t)
      unfolding entries_from held_events
      entries_second =
          ap (λ is. map (λ h. with_holding h (is h)) (keep (lasts (suc t)) hs)) held_second
          ∙ ap (map after) (keep_map (lasts (suc t)) (seen ps ts t) (keep (living t) ts))
          ∙ ap (λ l. map after (map (seen ps ts t) l)) (keep_keep (living (suc t)) (living t) ts
          (λ x m e. le-ltb (suc t) (effective_end x.event) (omega (arith, ltb-false t (effective_end x.event) e))))
          ∙ map-map after (seen ps ts t) (keep (living (suc t)) ts)
          ∙ map_cong (λ x. after (seen ps ts t x)) (seen ps ts (suc t)) (keep (living (suc t)) ts)
          (λ x m. entry_second x (past x (in_keep (living (suc t)) x ts m).0))
        where
          after : Entry → Entry
          after h = with_holding h (holding_at ps (suc t) (map (seen ps ts t) ts) h)

      pub second_is : second (state_at ps ts t) ≡ record { state = state_at ps ts (suc t); rows = rows_at ps (suc t) (map (seen ps ts t) ts) }
      unfolding second held_events
      second_is = λ i. record { state = record { clock = suc t; programs = ps; entries = entries_second i }; rows = rows_second i }

  pub advance_state : (n t : ℕ) → All (Heard t) ts → (advance n (state_at ps ts t)).state ≡ state_at ps ts (t + n)
  unfolding advance
  advance_state zero t p = ap (state_at ps ts) (omega arith)
  advance_state (suc n) t p =
      ap (λ m. (advance n m.state).state) (second_is t p)
      ∙ advance_state n (suc t) (λ x m. heard_on t (suc t) (omega arith) x (p x m))
      ∙ ap (state_at ps ts) (omega arith)

  pub advance_rows : (n t : ℕ) → All (Heard t) ts → rows_to ps ts (t + n) ≡ rows_to ps ts t ++ (advance n (state_at ps ts t)).rows
  unfolding advance rows_to
  advance_rows zero t p = rw (add-zero, append-nil)
  advance_rows (suc n) t p =
      let e : t + suc n ≡ suc t + n = omega arith in
      ap (rows_to ps ts) e
      ∙ advance_rows n (suc t) (λ x m. heard_on t (suc t) (omega arith) x (p x m))
      ∙ append_assoc (rows_to ps ts t) (rows_at ps (suc t) (map (seen ps ts t) ts)) (advance n (state_at ps ts (suc t))).rows
      ∙ ap (λ m. rows_to ps ts t ++ (m.rows ++ (advance n m.state).rows)) (sym (second_is t p))
