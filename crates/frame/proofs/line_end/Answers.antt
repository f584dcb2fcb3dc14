-- The first line feed's place, or the length.
use mathlib.Core.Path.{◌≡◌, refl, ap, ◌∙◌}
use mathlib.Core.List.{List}
use mathlib.Core.Bool.{cond}
use Prim.Native.Nat.{ℕ}
use native.Mathlib.Omega.{arith}
use borrow.Author.Tests.{tests, ltb-false}
use borrow.Table.Steps.{cases}
use lib.Dec.{eqb, ltb}
use lib.ListN.{length}
use Rattle.std.proofs.Common.{rules, Some, None}
use Rattle.std.specs.List.{position_or_len}
use Rattle.std.specs.Option.{unwrap_or}
use Rattle.std.proofs.lemmas.Iterator.{YieldsList-from_slice}
use Rattle.std.proofs.lemmas.Iterator.Search.{position_from_yields_List}
use Rattle.std.proofs.lemmas.List.Recursion.{is_position_or_len}
use Rattle.frame.specs.Ends.{up_to}
use Rattle.frame.proofs.Ends.{up_to_within}
use Rattle.frame.proofs.line_end.Goals as goal

is-up_to : (l : List ℕ) → up_to l ≡ position_or_len (λ b. eqb b 10) l
unfolding up_to
is-up_to l = is_position_or_len up_to (λ b. eqb b 10) refl (λ b bs. ap (λ n. cond (eqb b 10) 0 n) (omega arith)) l

found : (l : List ℕ) → unwrap_or (cond (ltb (up_to l) (length l)) (Some (up_to l)) None) (length l) ≡ up_to l
found l =
    cases (ltb (up_to l) (length l))
    (λ q. rw q)
    (λ q. rw q (omega (arith, up_to_within l, ltb-false (up_to l) (length l) q)))

pub returns : goal.returns
returns c =
    let text = c.args.text.now in
    let place : c.position.result ≡ cond (ltb (position_or_len (λ b. eqb b 10) text) (length text)) (Some (position_or_len (λ b. eqb b 10) text)) None =
    position_from_yields_List (λ b. eqb b 10) _ _ c.position.result c.position.ensures.ran (YieldsList-from_slice text cc) (λ x b q k. search (rules, tests)) in
    c.unwrap_or.ensures ∙ rw (place, ← is-up_to text) (found text)
