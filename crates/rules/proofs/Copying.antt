-- What is copied one by one over the front of a list.
use mathlib.Core.Path.{◌≡◌, sym, ap, ap₂, ◌∙◌}
use Prim.Native.Nat.{ℕ, suc, ◌+◌, ◌<◌, ◌≤◌}
use mathlib.Core.List.{List, [], ◌∷◌, ◌++◌, append_assoc}
use native.Mathlib.Numerals.{add-one}
use native.Mathlib.Omega.{arith}
use lib.ListN.{length, take, drop, get_or, set, length-append, length-drop}
use lib.Seq.{drop-cons, take-suc, length-take-le, set_at}
use Rattle.rules.specs.Lists.{over}

module _ {A : Type 0} where
  pub copied_more : (d : A) (old rows : List A) (i : ℕ) → i < length old → i < length rows
      → set (take i rows ++ drop i old) i (get_or rows i d) ≡ take (i + 1) rows ++ drop (i + 1) old
  copied_more d old rows i l m =
      ap (λ z. set (take i rows ++ z) i (get_or rows i d)) (drop-cons old i d l)
      ∙ set_at (take i rows) (get_or old i d) (drop (suc i) old) (get_or rows i d) i (length-take-le i rows (omega arith))
      ∙ sym (append_assoc (take i rows) (get_or rows i d ∷ []) (drop (suc i) old))
      ∙ ap₂ (λ f k. f ++ drop k old) (sym (take-suc rows i d m)) (sym (add-one i))
      ∙ ap (λ k. take k rows ++ drop (i + 1) old) (sym (add-one i))

  pub copied_all : (old rows : List A) (n : ℕ) → n ≤ length rows → take n rows ++ drop n old ≡ over (take n rows) old
  copied_all old rows n l = ap (λ k. take n rows ++ drop k old) (sym (length-take-le n rows l))

  pub copied_length : (old rows : List A) (i : ℕ) → i ≤ length old → i ≤ length rows → length (take i rows ++ drop i old) ≡ length old
  copied_length old rows i l m = length-append (take i rows) (drop i old) ∙ omega (arith, length-take-le i rows m, length-drop i old)

  pub over_length : (old rows : List A) (n : ℕ) → n ≤ length old → n ≤ length rows → length (over (take n rows) old) ≡ length old
  over_length old rows n l m = ap length (sym (copied_all old rows n m)) ∙ copied_length old rows n l m
