-- The records of the held events: what a listing writes, and what the call then leaves.
use mathlib.Core.Path.{◌≡◌, refl, sym, ap, ap₂, ◌∙◌}
use Prim.Native.Nat.{ℕ, ◌+◌, ◌<◌, ◌≤◌}
use mathlib.Core.Bool.{true, false}
use mathlib.Core.List.{List, [], map, ◌++◌}
use native.Mathlib.Omega.{arith}
use lib.ListN.{length, take, drop, get_or, set, length-map, get_or-map}
use lib.Seq.{get_or-take, take_at, take_all}
use borrow.Author.Tests.{lt-ltb, le-ltb}
use Rattle.rules.specs.declared.Entry.{Entry}
use Rattle.rules.specs.declared.Record.{Record}
use Rattle.rules.specs.declared.Schedule.{Schedule}
use Rattle.std.specs.Prelude.{Ok}
use Rattle.rules.specs.declared.Refusal.TheVariants.{BrokenRule, NoRoom}
use Rattle.rules.specs.declared.Reply.TheVariants.{Count}
use Rattle.rules.specs.Lists.{over}
use Rattle.rules.specs.Records.{view}
use Rattle.rules.specs.Sound.{sound}
use Rattle.rules.specs.Refusals.{list_checks}
use Rattle.rules.specs.Calls.{Outcome, record_of, list, count, does, checks, call}
use Rattle.rules.proofs.SoundState.{rules, pad_view, in_count}
use Rattle.rules.proofs.CallLaws.{done}
use Rattle.listing.specs.Listed.{no_records, left_with, Refuses}
use Rattle.calls.proofs.Acting.{given, broken}
use Rattle.rules.proofs.Copying.{copied_more, copied_all}

module _ (s : Schedule) where
  abbrev pub held : List Record
  held = map record_of (view s).entries

  -- a schedule that breaks a rule
  pub lists_broken : (room : ℕ) → sound s ≡ false → Refuses s room BrokenRule
  lists_broken room e old l = broken s e (list old)

  module _ (e : sound s ≡ true) where
    pub held_count : length held ≡ s.count
    held_count = length-map (view s).entries record_of ∙ in_count s e

    -- one record more
    pub recorded_more : (i : ℕ) (d : Entry) → i < s.count → {b : List Record} → b ≡ take i held ++ drop i no_records
        → {r : Record} → r ≡ record_of (get_or s.entries i d) → set b i r ≡ take (i + 1) held ++ drop (i + 1) no_records
    recorded_more i d l q p =
        ap₂ (λ b r. set b i r) q (p ∙ sym (get_or-map record_of (view s).entries i d ∙ ap record_of (get_or-take s.count s.entries i d l)))
        ∙ copied_more (record_of d) no_records held i (omega (arith, (rules s e).count)) (omega (arith, held_count))

    pub recorded_all : take s.count held ++ drop s.count no_records ≡ over held no_records
    recorded_all = copied_all no_records held s.count (omega (arith, held_count)) ∙ ap (λ r. over r no_records) (take_all s.count held (omega (arith, held_count)))

    -- a list that is too short
    pub lists_short : (room : ℕ) → room < s.count → Refuses s room NoRoom
    unfolding checks list_checks
    lists_short room l old m = given s e (list old) 13 refl (rw (lt-ltb (length old) (length (view s).entries) (omega (arith, in_count s e))))

    -- and one with room for all
    pub lists_all : (old : List Record) → s.count ≤ length old → left_with (Ok (Count s.count)) s (over held old) ≡ call s (list old)
    unfolding checks list_checks does
    lists_all old l =
        ap₂ (λ n z. left n z (over held old)) (sym (in_count s e)) (sym (pad_view s e))
        ∙ sym (done s e (list old) (rw (le-ltb (length old) (length (view s).entries) (omega (arith, in_count s e)))))
      where
        left : ℕ → Schedule → List Record → Outcome
        left n z r = record { number = 0; value = count n; state = z; bytes = []; records = r }

    -- the first of the records over empty ones
    pub front : take s.count (over held no_records) ≡ held
    front = take_at held (drop (length held) no_records) s.count held_count
