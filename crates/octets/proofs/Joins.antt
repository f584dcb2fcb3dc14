-- A number read from bytes in two parts, and its bytes from the front: by induction over the width; and an id, read and written by its halves.
use mathlib.Core.Path.{◌≡◌, refl, sym, ap, ◌∙◌}
use Prim.Native.Nat.{ℕ, zero, suc, ◌+◌, ◌*◌, ◌/◌, ◌%◌, ◌^◌}
use mathlib.Core.List.{List, ◌∷◌, ◌++◌}
use native.Mathlib.Nat.{add-zero, add-suc, pow-suc, pow-succ', mul_assoc, div-div-eq-div-mul, mod-lt, div-add-mod'}
use native.Mathlib.Omega.{arith}
use Rattle.std.specs.Int.{byte_at, bytes_high_first}
use Rattle.rules.specs.Records.{id_from, half_size, half_limit, id_size, halves}
use Rattle.rules.specs.Bytes.{big, read, id_at}
use Rattle.rules.proofs.Numbers.{big_join}

-- a number is the number of its first bytes, moved up, and that of the others
pub read_join : (m n at : ℕ) (l : List ℕ) → read (m + n) at l ≡ read m at l * 256 ^ n + read n (at + m) l
unfolding read
read_join m zero at l = rw (add-zero m) (omega arith)
read_join m (suc n) at l =
    let e : at + (m + n) ≡ at + m + n = omega arith in
    rw (add-suc, read_join m n at l, e, pow-suc, ← mul_assoc (read m at l) (256 ^ n) 256) (omega arith)

-- byte n + 1 of a number is byte n of what its last byte leaves
byte_up : (n x : ℕ) → byte_at n (x / 256) ≡ byte_at (suc n) x
byte_up zero x = refl
byte_up (suc n) x = rw (div-div-eq-div-mul x 256 (256 ^ suc n), pow-succ' 256 (suc n))

-- one byte more at the front
big_first : (n x : ℕ) → big (suc n) x ≡ byte_at n x ∷ big n x
unfolding big
big_first zero x = refl
big_first (suc n) x = rw (big_first n (x / 256), byte_up n x)

pub high_first : (n x : ℕ) → bytes_high_first n x ≡ big n x
unfolding big
high_first zero x = refl
high_first (suc n) x = ap (◌∷◌ (byte_at n x)) (high_first n x) ∙ sym (big_first n x)

-- an id of its halves, from bytes and as bytes
pub id_read : (at : ℕ) (l : List ℕ) → id_from (halves (read half_size at l) (read half_size (at + half_size) l)) ≡ id_at at l
id_read at l = ap id_from (sym (read_join half_size half_size at l))

pub id_bytes : (n : ℕ) → big half_size (n / half_limit) ++ big half_size (n % half_limit) ≡ big id_size n
id_bytes n = sym (big_join half_size half_size (n / half_limit) (n % half_limit) (mod-lt n (omega arith))) ∙ ap (big id_size) (div-add-mod' n half_limit)
