-- The tables are those of the definition.
use mathlib.Core.Path.{◌≡◌, refl, sym, ap, ◌∙◌}
use Prim.Native.Nat.{ℕ, zero, suc, ◌+◌, ◌*◌, ◌≤◌}
use mathlib.Core.List.{List, [], ◌∷◌}
use native.Mathlib.Omega.{arith}
use lib.ListN.{get_or}
use Rattle.frame.specs.declared.Width.{Width}
use Rattle.frame.specs.declared.Width.TheVariants.{Short, Long}
use Rattle.frame.specs.Decoded.{width_of, size_in}
use Rattle.frame.proofs.ByKind.{above}
use Rattle.frame.proofs.size_of.Goals.{in-Short, in-Long}
use Rattle.frame.proofs.size_of.Goals as goal

-- how many bytes each kind has without its ids, and how many ids
abbrev fields : List ℕ
fields = 0 ∷ 26 ∷ 1 ∷ 9 ∷ 7 ∷ 2 ∷ 1 ∷ 1 ∷ []

abbrev ids : List ℕ
ids = 0 ∷ 1 ∷ 1 ∷ 0 ∷ 0 ∷ 0 ∷ 1 ∷ 1 ∷ []

-- what holds of each number up to 7
up-to-7 : (P : ℕ → Type 0) → P 0 → P 1 → P 2 → P 3 → P 4 → P 5 → P 6 → P 7 → (k : ℕ) → k ≤ 7 → P k
up-to-7 P a b c d e f g i zero h = a
up-to-7 P a b c d e f g i (suc zero) h = b
up-to-7 P a b c d e f g i (suc (suc zero)) h = c
up-to-7 P a b c d e f g i (suc (suc (suc zero))) h = d
up-to-7 P a b c d e f g i (suc (suc (suc (suc zero)))) h = e
up-to-7 P a b c d e f g i (suc (suc (suc (suc (suc zero))))) h = f
up-to-7 P a b c d e f g i (suc (suc (suc (suc (suc (suc zero)))))) h = g
up-to-7 P a b c d e f g i (suc (suc (suc (suc (suc (suc (suc zero))))))) h = i
up-to-7 P a b c d e f g i (suc (suc (suc (suc (suc (suc (suc (suc k)))))))) h = absurd (omega arith)

abbrev Entry : Width → ℕ → Type 0
Entry w k = get_or fields k 0 + get_or ids k 0 * width_of w ≡ size_in (width_of w) k

entry : (w : Width) (k : ℕ) → k ≤ 7 → Entry w k
unfolding size_in
entry Short = up-to-7 (Entry Short) refl refl refl refl refl refl refl refl
entry Long = up-to-7 (Entry Long) refl refl refl refl refl refl refl refl

pub returns : goal.returns
returns c =
    let a = c.args in
    let is : c.match-width.id ≡ width_of a.width =
    elim c.match-width.branch [ in-Short w ↦ w.id-is ∙ ap width_of (sym w.in-Short.is) | in-Long w ↦ w.id-is ∙ ap width_of (sym w.in-Long.is) ] in
    rw is (entry a.width a.kind c.if-kind-gt7.false)

pub returns-then-kind-gt7 : goal.returns-then-kind-gt7
returns-then-kind-gt7 c = sym ((above _ c.if-kind-gt7.true).size _)
