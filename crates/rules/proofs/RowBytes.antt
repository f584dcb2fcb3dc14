-- The bytes of rows: as many for each, so that what was written over a buffer is read again.
use mathlib.Core.Path.{◌≡◌, refl}
use Prim.Native.Nat.{ℕ, ◌*◌}
use mathlib.Core.List.{List, [], ◌∷◌, ◌++◌, append_assoc}
use lib.ListN.{length, take, drop, length-append}
use lib.Seq.{take_at}
use Rattle.rules.specs.Lists.{over}
use Rattle.rules.specs.Rows.{Row}
use Rattle.rules.specs.Bytes.{flat, row_bytes, bytes, row_size}
use Rattle.rules.proofs.Numbers.{big_length, flat_length}

row_length : (r : Row) → length (row_bytes r) ≡ row_size
unfolding row_bytes
row_length r = simp (length-append, big_length)

pub bytes_append : (rs qs : List Row) → bytes (rs ++ qs) ≡ bytes rs ++ bytes qs
unfolding flat
bytes_append [] qs = refl
bytes_append (r ∷ rs) qs = rw (bytes_append rs qs, append_assoc)

pub bytes_length : (rs : List Row) → length (bytes rs) ≡ row_size * length rs
bytes_length rs = flat_length row_bytes row_size row_length rs

-- the bytes written over a buffer, read again
pub bytes_read : (rs : List Row) (b : List ℕ) → take (row_size * length rs) (over (bytes rs) b) ≡ bytes rs
bytes_read rs b = take_at (bytes rs) (drop (length (bytes rs)) b) (row_size * length rs) (bytes_length rs)
