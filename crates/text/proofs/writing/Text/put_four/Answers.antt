-- Ten times 103 is a little more than 1024, so that of a number below 100 the tens are its product with 103 over 1024. Of two such numbers in one, the tens
-- of the first are the lowest four bits, and those of the second stand from bit 16 on.
use mathlib.Core.Path.{◌≡◌, ◌∙◌}
use Prim.Native.Nat.{ℕ, ◌+◌, ◌-◌, ◌*◌, ◌/◌, ◌%◌, ◌<◌}
use native.Mathlib.Omega.{arith}
use Rattle.std.specs.Int.{to_le_bytes}
use Rattle.std.proofs.Common.{w32}
use mathlib.Core.List.{List}
use Rattle.text.specs.Texts.{padded}
use Rattle.text.proofs.writing.Text.put_four.Goals as goal

-- the tens of two numbers in one, and the number whose bytes are the digits
abbrev tens : ℕ → ℕ
tens p = p * 103 / 1024 / 65536 * 65536 + p * 103 / 1024 % 16

abbrev spread : ℕ → ℕ → ℕ
spread p t = t + 256 * (p - 10 * t) + 808464432

-- digits a, b, c, d, from a number p of two pairs, its tens t and the number n of four bytes
record Four (a b c d p t n : ℕ) : Type 0 where
  first : n % 256 ≡ 48 + a
  second : n / 256 % 256 ≡ 48 + b
  third : n / 65536 % 256 ≡ 48 + c
  fourth : n / 16777216 ≡ 48 + d

module _ {a b c d h l : ℕ} (i : a < 10) (j : b < 10) (k : c < 10) (m : d < 10) (n : h ≡ 10 * a + b) (o : l ≡ 10 * c + d) where
  tens-are : tens (h + 65536 * l) ≡ 65536 * c + a
  tens-are =
      let e : (h + 65536 * l) * 103 / 1024 ≡ 6592 * l + a = omega arith in
      let f : (6592 * l + a) % 16 ≡ a = omega arith in
      rw (e, f) (omega arith)

  spread-is : spread (h + 65536 * l) (65536 * c + a) ≡ 48 + a + 256 * (48 + b) + 65536 * (48 + c) + 16777216 * (48 + d)
  spread-is = omega arith

  four_are : let p = h + 65536 * l in Four a b c d p (tens p) (spread p (tens p))
  four_are = rw (tens-are, spread-is) (omega arith)

four-of : (x : ℕ) → x < 10000
    → let p = x / 100 + 65536 * (x % 100) in Four (x / 10 / 10 / 10 % 10) (x / 10 / 10 % 10) (x / 10 % 10) (x % 10) p (tens p) (spread p (tens p))
four-of x k = four_are (omega arith) (omega arith) (omega arith) (omega arith) (omega arith) (omega arith)

-- the bytes of that number
bytes_are : (x n : ℕ) {bytes : List ℕ} → bytes ≡ to_le_bytes w32 n → n % 256 ≡ 48 + x / 10 / 10 / 10 % 10 → n / 256 % 256 ≡ 48 + x / 10 / 10 % 10 → n / 65536 % 256 ≡ 48 + x / 10 % 10
    → n / 16777216 ≡ 48 + x % 10 → bytes ≡ padded 4 x
unfolding padded
bytes_are x n e f g h i =
    let last : (48 + x % 10) % 256 ≡ 48 + x % 10 = omega arith in
    e ∙ rw (f, g, h, i, last)

pub returns : goal.returns
returns c =
    let d = four-of c.args.x c.requires.below in
    let digits : c.to_le_bytes.result ≡ padded 4 c.args.x = bytes_are c.args.x _ c.to_le_bytes.ensures d.first d.second d.third d.fourth in
    rw digits at c.put.ensures
