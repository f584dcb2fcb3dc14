-- Decimal digits: those of a number are those of its front and then those of its rest, zeros too.
use mathlib.Core.Path.{◌≡◌, refl}
use Prim.Native.Nat.{ℕ, zero, suc, ◌+◌, ◌*◌, ◌/◌, ◌%◌, ◌^◌, ◌<◌, ◌≤◌}
use mathlib.Core.Bool.{Bool, true, false}
use mathlib.Core.List.{List, [], ◌∷◌, ◌++◌, append_assoc, append-nil}
use native.Mathlib.Nat.{add-zero, pow-suc, one-le-pow, mul-le-mul_left, div-add-mod', mod-lt}
use native.Mathlib.Omega.{arith}
use borrow.Author.Tests.{lt-ltb, le-ltb}
use lib.Dec.{ltb}
use lib.ListN.{length}
use Rattle.rules.specs.Printed.{decimal}
use Rattle.text.specs.declared.writing.Text.{Text}
use Rattle.text.specs.Texts.{Adds, padded}
use Rattle.text.proofs.Printing.{put_then}

-- one digit, and one behind the others
pub decimal_one : (n x : ℕ) → x < 10 → decimal (suc n) x ≡ (48 + x) ∷ []
unfolding decimal
decimal_one n x h = rw (lt-ltb x 10 h)

pub decimal_more : (n x : ℕ) → 10 ≤ x → decimal (suc n) x ≡ decimal n (x / 10) ++ ((48 + x % 10) ∷ [])
unfolding decimal
decimal_more n x h = rw (le-ltb x 10 h)

pub padded_more : (n x : ℕ) → 0 ≤ x → padded (suc n) x ≡ padded n (x / 10) ++ ((48 + x % 10) ∷ [])
unfolding padded
padded_more n x h = refl

-- more than enough digits need not be allowed for
pub enough : (n m x : ℕ) → x < 10 ^ suc n → decimal (suc (n + m)) x ≡ decimal (suc n) x
unfolding decimal
enough zero m x h = rw (lt-ltb x 10 h)
enough (suc n) m x h = go (ltb x 10) refl (enough n m (x / 10) (omega (arith, pow-suc 10 (suc n))))
  where
    go : (b : Bool) → ltb x 10 ≡ b → decimal (suc (n + m)) (x / 10) ≡ decimal (suc n) (x / 10) → decimal (suc (suc n + m)) x ≡ decimal (suc (suc n)) x
    go true p f = rw p
    go false p f = let e : suc n + m ≡ suc (n + m) = omega arith in rw (p, e, f)

-- digits of which the last stands behind the others, for a number that is large enough
module _ (f : ℕ → ℕ → List ℕ) (least : ℕ) (last : (n x : ℕ) → least ≤ x → f (suc n) x ≡ f n (x / 10) ++ ((48 + x % 10) ∷ [])) where
  join : (m k a b : ℕ) → least ≤ 10 * a → b < 10 ^ k → f (m + k) (a * 10 ^ k + b) ≡ f m a ++ padded k b
  unfolding padded
  join m zero a b l h = let e : a * 10 ^ 0 + b ≡ a = omega arith in rw (e, add-zero, append-nil)
  join m (suc k) a b l h =
      let n : m + suc k ≡ suc (m + k) = omega arith in
      let q : (a * (10 ^ k * 10) + b) / 10 ≡ a * 10 ^ k + b / 10 = omega arith in
      let r : (a * (10 ^ k * 10) + b) % 10 ≡ b % 10 = omega arith in
      let s : least ≤ a * (10 ^ k * 10) + b = omega (arith, mul-le-mul_left a (one-le-pow k 10 (omega arith))) in
      rw (n, pow-suc 10 k, last (m + k) (a * (10 ^ k * 10) + b) s, q, r, join m k a (b / 10) l (omega (arith, pow-suc 10 k)))
      (append_assoc (f m a) (padded k (b / 10)) ((48 + b % 10) ∷ []))

  -- the digits of the front and then k of the rest
  pub put_front : (m k x : ℕ) {t u v : Text} → least ≤ 10 * (x / 10 ^ k) → t.at ≤ length t.out.now → Adds t (f m (x / 10 ^ k)) u → Adds u (padded k (x % 10 ^ k)) v
      → Adds t (f (m + k) x) v
  put_front m k x s h p q =
      let e = join m k (x / 10 ^ k) (x % 10 ^ k) s (mod-lt x (one-le-pow k 10 (omega arith))) in
      rw (rw (div-add-mod' x (10 ^ k)) at e) (put_then h p q)
