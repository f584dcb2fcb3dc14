-- Bytes written one after the other, and rows.
use mathlib.Core.Path.{◌≡◌, refl, sym, ap, ◌∙◌, subst}
use Prim.Native.Nat.{ℕ, suc, ◌+◌, ◌*◌, ◌/◌, ◌%◌, ◌<◌, ◌≤◌}
use mathlib.Core.List.{List, [], ◌∷◌, ◌++◌, append_assoc, append-nil}
use native.Mathlib.Nat.{mod-eq_of_lt}
use native.Mathlib.Omega.{arith}
use lib.ListN.{length, take, drop, set, length-set, length-append}
use lib.Seq.{take-suc-set, take_at, length-take-le}
use Rattle.rules.specs.Records.{id_size}
use Rattle.rules.specs.Rows.{Row}
use Rattle.rules.specs.Bytes.{big, flat, row_bytes, bytes, row_size}
use Rattle.rules.proofs.Numbers.{big_length}
use Rattle.rules.proofs.Over.{over_size}
use Rattle.rules.proofs.RowBytes.{bytes_append}
use Rattle.octets.specs.Octets.{put_at}
use Rattle.octets.proofs.Fits.{put_inside}
use Rattle.calls.specs.Written.{Put, Written}

module _ {l : List ℕ} {at : ℕ} where
  pub none : Put l at [] l
  none = let z : at + 0 ≡ at = omega arith in record { size = refl; front = rw z (sym (append-nil (take at l))) }

  -- one byte more of a number
  pub more : (n x i : ℕ) → i ≡ at + n → i < length l → {m : List ℕ} → Put l at (big n (x / 256)) m → Put l at (big (suc n) x) (set m i (x % 256))
  unfolding big
  more n x i e h {m} p =
      let k : at + length (big n (x / 256)) ≡ i = omega (arith, big_length n (x / 256)) in
      let s : at + length (big n (x / 256) ++ (x % 256 ∷ [])) ≡ suc i = omega (arith, big_length n (x / 256), length-append (big n (x / 256)) (x % 256 ∷ [])) in
      let f : take i m ≡ take at l ++ big n (x / 256) = rw k at p.front in
      record {
        size = length-set m i (x % 256) ∙ p.size;
        front = rw (s, take-suc-set m i (x % 256) (omega (arith, p.size)), f) (append_assoc (take at l) (big n (x / 256)) (x % 256 ∷ []));
      }

  -- a number, written at once
  pub number_put : (n x : ℕ) → at + n ≤ length l → {m : List ℕ} → m ≡ put_at n at x l → Put l at (big n x) m
  number_put n x h e =
      let k = big_length n x in
      let fits : at + length (big n x) ≤ length l = omega arith in
      rw (e, put_inside n at l x h)
      (record {
        size = over_size at (big n x) l fits;
        front = rw (← append_assoc (take at l) (big n x) (drop (length (big n x)) (drop at l)))
            (take_at (take at l ++ big n x) (drop (length (big n x)) (drop at l)) (at + length (big n x)) (length-append (take at l) (big n x) ∙ ap (λ m. m + length (big n x)) (length-take-le at l (omega arith))));
      })

  -- bytes and then bytes
  pub then : {vs ws m n : List ℕ} {i : ℕ} → Put l at vs m → i ≡ at + length vs → Put m i ws n → Put l at (vs ++ ws) n
  then {vs} {ws} {m} {n} {i} p e q =
      let k : at + length (vs ++ ws) ≡ i + length ws = omega (arith, length-append vs ws) in
      record {
        size = q.size ∙ p.size;
        front = rw k (q.front ∙ rw (e, p.front) (append_assoc (take at l) vs ws));
      }

-- no row
pub no_row : (l : List ℕ) (at : ℕ) → Written l at l at []
unfolding flat
no_row l at = record { size = refl; count = omega arith; front = sym (append-nil (take (row_size * at) l)) }

-- a row is its bytes
pub one_row : (l m : List ℕ) (at : ℕ) (r : Row) → length (row_bytes r) ≡ row_size → Put l (at * row_size) (row_bytes r) m → Written l at m (at + 1) (r ∷ [])
unfolding flat
one_row l m at r n p =
    let e : at * row_size + length (row_bytes r) ≡ row_size * (at + 1) = omega arith in
    let f : at * row_size ≡ row_size * at = omega arith in
    record { size = p.size; count = omega arith; front = rw (append-nil, ← e, ← f) p.front }

-- rows and then rows
pub rows_then : {l m n : List ℕ} {at i j : ℕ} {rs qs : List Row} → Written l at m i rs → Written m i n j qs → Written l at n j (rs ++ qs)
rows_then {l} {m} {n} {at} {i} {j} {rs} {qs} p q = record {
  size = q.size ∙ p.size;
  count = q.count ∙ omega (arith, p.count, length-append rs qs);
  front = q.front ∙ rw (p.front, bytes_append rs qs) (append_assoc (take (row_size * at) l) (bytes rs) (bytes qs));
}

-- the three parts of a row
pub row_put : {l m n : List ℕ} (b t i k : ℕ) → k < 256 → b + row_size ≤ length l → Put l b (big 8 t) m → Put m (b + 8) (big id_size i) n
    → Put l b (row_bytes (record { time = t; id = i; code = k })) (set n (b + (8 + id_size)) k)
unfolding row_bytes big
row_put {l} {m} {n} b t i k s h p q =
    let end = b + (8 + id_size) in
    let last : Put n end (big 1 k) (set n end k) =
    subst (λ v. Put n end (big 1 k) (set n end v)) (mod-eq_of_lt s) (more 0 k end (omega arith) (omega (arith, p.size, q.size)) none) in
    then p (omega (arith, big_length 8 t)) (then q (omega (arith, big_length id_size i)) last)

pub row_size_lem : (t i k : ℕ) → length (row_bytes (record { time = t; id = i; code = k })) ≡ row_size
unfolding row_bytes
row_size_lem t i k = simp (length-append, big_length)
