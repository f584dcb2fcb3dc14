-- A question, place by place: the first event that holds the control with its user in, and the best default from the back.
use mathlib.Core.Path.{◌≡◌, sym, ap, ◌∙◌}
use Prim.Native.Nat.{ℕ, suc, ◌+◌, ◌<◌, ◌≤◌}
use mathlib.Core.Bool.{true, false}
use mathlib.Core.List.{List, ◌∷◌}
use native.Mathlib.Numerals.{add-one}
use native.Mathlib.Omega.{arith}
use lib.ListN.{length, drop, get_or, drop_of_length-le}
use lib.Seq.{drop-cons}
use Rattle.std.specs.Prelude.{Option, None}
use Rattle.rules.specs.declared.Entry.{Entry}
use Rattle.rules.specs.declared.Program.{Program}
use Rattle.rules.specs.Records.{no_program}
use Rattle.rules.specs.Calls.{Value, entry_id, holder, governs, holder_in, best_of, best_default}
use Rattle.calls.specs.declared.programs.Best.{Best}
use Rattle.calls.specs.Best.{ranked, carrying}
use Rattle.calls.specs.Sets.{blank, event_at}

-- Defaults.

-- one more from the back
pub default_next : (c i j : ℕ) (ps : List Program) (b r : Option Best) → i ≡ suc j → i ≤ length ps → ranked b ≡ best_default c i (drop i ps)
    → ranked r ≡ best_of (carrying c j (get_or ps j no_program)) (ranked b) → ranked r ≡ best_default c j (drop j ps)
unfolding best_default
default_next c i j ps b r e l h q =
    q ∙ ap (best_of (carrying c j (get_or ps j no_program))) (h ∙ ap (λ k. best_default c k (drop k ps)) e)
    ∙ ap (best_default c j) (sym (drop-cons ps j no_program (omega arith)))

pub default_none : (c : ℕ) (ps : List Program) → length ps ≡ 8 → ranked None ≡ best_default c 8 (drop 8 ps)
unfolding best_default
default_none c ps l = rw (drop_of_length-le ps {i = 8} (omega arith))

-- Holders.

module _ (c : ℕ) (hs : List Entry) (v : Value) where
  here : (i : ℕ) → i < length hs → drop i hs ≡ event_at hs i ∷ drop (suc i) hs
  here i l = drop-cons hs i blank l

  -- the first that holds it, its user in, is the answer
  pub held_here : (i : ℕ) → i < length hs → governs c (event_at hs i) ≡ true → holder (entry_id (event_at hs i)) ≡ holder_in c (drop i hs) v
  unfolding holder_in
  held_here i l e = rw (here i l, e)

  -- one that does not is passed over
  pub not_here : (i : ℕ) → i < length hs → governs c (event_at hs i) ≡ false → holder_in c (drop i hs) v ≡ holder_in c (drop (i + 1) hs) v
  unfolding holder_in
  not_here i l e = rw (add-one i, here i l, e)

  pub none_holds : (i : ℕ) → length hs ≤ i → v ≡ holder_in c (drop i hs) v
  unfolding holder_in
  none_holds i l = rw (drop_of_length-le hs {i = i} l)
