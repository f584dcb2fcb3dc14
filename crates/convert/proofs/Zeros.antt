-- The id of a frame's line as a number, and the digits of its upper half.
use mathlib.Core.Path.{◌≡◌, refl, sym, ap, ◌∙◌}
use Prim.Native.Nat.{ℕ, zero, suc, ◌+◌, ◌*◌, ◌^◌, ◌<◌, ◌≤◌}
use mathlib.Core.Bool.{Bool, true, false, not, ◌&&◌}
use mathlib.Core.List.{List, [], ◌∷◌}
use mathlib.Core.Option.{some}
use native.Mathlib.Nat.{pow-le-pow_right, mul-pos}
use native.Mathlib.Omega.{arith}
use borrow.Author.Tests.{le-leb, lt-leb, ne_eqb, eqb-true, eqb-false}
use lib.Dec.{leb, eqb}
use lib.ListN.{length, get_or, take}
use Rattle.rules.specs.declared.Frame.{Frame}
use Rattle.rules.specs.declared.Line.TheVariants.{Good}
use Rattle.rules.specs.Lists.{each}
use Rattle.rules.specs.Records.{half_size, id_size, half_limit, id_number, id_from}
use Rattle.rules.specs.Bytes.{read, event_in}
use Rattle.rules.specs.Frames.{event_frame_in, digit, paired, unhex, line_in}
use Rattle.rules.specs.Converted.{frame_id, line_id}
use Rattle.rules.proofs.IdLaws.{number_id}
use Rattle.rules.proofs.Numbers.{read_drop, read_below}
use Rattle.octets.proofs.Joins.{read_join}
use Rattle.frame.specs.Decoded.{size_in, frame_as_in}
use Rattle.frame.specs.Encoded.{hex}
use Rattle.frame.proofs.Fronts.{read_one}
use Rattle.frame.proofs.Pairs.{hex_digit, paired_more, bytes_unhex}
use Rattle.frame.proofs.ByKind.{by_kind, size_bound, frame_none}
use Rattle.frame.proofs.Ends.{frame_line}
use Rattle.convert.specs.Turns.{upper_zero}

-- none of these, so nothing
nothing_said : {P : Type 0} → ◌≡◌ {A = ℕ} 0 1 → P
nothing_said z = absurd (omega arith)

-- a frame's id stands behind its kind
module _ (w : ℕ) (b : List ℕ) (i : ℕ) where
  said : {n : ℕ} → n ≡ id_number (id_from (read w 1 b)) → some n ≡ some i → i ≡ read w 1 b
  said e h = let q : id_number (id_from (read w 1 b)) ≡ i = cc in sym q ∙ number_id (read w 1 b)

  id_by_kind : (k : ℕ) → line_id (frame_as_in w k b) ≡ some i → i ≡ read w 1 b
  unfolding frame_as_in event_in
  id_by_kind =
      by_kind (λ k. line_id (frame_as_in w k b) ≡ some i → i ≡ read w 1 b)
      (λ h. said refl h)
      (λ h. said refl h)
      (λ h. nothing_said cc)
      (λ h. nothing_said cc)
      (λ h. nothing_said cc)
      (λ h. said refl h)
      (λ h. said refl h)
      (λ k n h. let e = frame_none w k n b in nothing_said cc)

  -- and is all there
  id_size_lem : (k : ℕ) → line_id (frame_as_in w k b) ≡ some i → 1 + w ≤ size_in w k
  unfolding frame_as_in size_in
  id_size_lem =
      by_kind (λ k. line_id (frame_as_in w k b) ≡ some i → 1 + w ≤ size_in w k)
      (λ h. omega arith)
      (λ h. omega arith)
      (λ h. nothing_said cc)
      (λ h. nothing_said cc)
      (λ h. nothing_said cc)
      (λ h. omega arith)
      (λ h. omega arith)
      (λ k n h. let e = frame_none w k n b in nothing_said cc)

-- what is known of a frame with an id
pub record IdLine (w : ℕ) (l : List ℕ) (i : ℕ) : Type 0 where
  pub digits : paired l ≡ true
  pub is : i ≡ read w 1 (unhex l)
  pub long : 2 * (1 + w) ≤ length l
  pub short : length l ≤ 2 * event_frame_in w

pub id_line : (w : ℕ) (l : List ℕ) (f : Frame) (i : ℕ) → line_in w l ≡ Good f → frame_id f ≡ some i → IdLine w l i
id_line w l f i g h =
    let line = frame_line w l f g in
    let k = get_or (unhex l) 0 0 in
    let e = ap line_id line.is ∙ h in
    record {
      digits = line.digits;
      is = id_by_kind w (unhex l) i k e;
      long = omega (arith, line.size, id_size_lem w (unhex l) i k e);
      short = omega (arith, line.size, size_bound w k);
    }

-- a digit that stands for 0 is 0
zero_digit : (c : ℕ) → digit c < 16 → (c ≡ 48 → ⊥) → 0 < digit c
unfolding hex
zero_digit c h n = by (eqb (digit c) 0) refl
  where
    by : (t : Bool) → eqb (digit c) 0 ≡ t → 0 < digit c
    by true e = absurd (n (sym (hex_digit c h) ∙ rw (eqb-true (digit c) 0 e)))
    by false e = let d = eqb-false (digit c) 0 e in omega arith

stands_for_zero : (c : ℕ) → c ≡ 48 → digit c ≡ 0
unfolding digit
stands_for_zero c e = rw e

-- a number of n bytes and one more
read_more : (n b : ℕ) (u : List ℕ) → read (suc n) 0 (b ∷ u) ≡ b * 256 ^ n + read n 0 u
read_more n b u =
    let e : suc n ≡ 1 + n = omega arith in
    rw (e, read_join 1 n 0 (b ∷ u), read_one 0 (b ∷ u), ← read_drop n 0 1 (b ∷ u))

-- a number of n bytes is 0 if all their digits are
zeros : (n : ℕ) (l : List ℕ) → paired l ≡ true → 2 * n ≤ length l → eqb (read n 0 (unhex l)) 0 ≡ each (λ c. eqb c 48) (take (2 * n) l)
unfolding read unhex
zeros zero l p h = refl
zeros (suc n) [] p h = absurd (omega arith)
zeros (suc n) (x ∷ []) p h = absurd (omega arith)
zeros (suc n) (x ∷ y ∷ l) p h = rw (twice, read_more n b (unhex l)) (by (zeros n l m.2 (omega arith)) (eqb x 48) (eqb y 48) refl refl)
  where
    m : (digit x < 16) × (digit y < 16) × (paired l ≡ true)
    m = paired_more x y l p

    b : ℕ
    b = 16 * digit x + digit y

    twice : 2 * suc n ≡ suc (suc (2 * n))
    twice = omega arith

    some_digit : 0 < b → eqb (b * 256 ^ n + read n 0 (unhex l)) 0 ≡ false
    some_digit g =
        let pos : 0 < b * 256 ^ n = mul-pos g (omega (arith, pow-le-pow_right {n = 256} (omega arith) {i = 0} {j = n} (omega arith))) in
        ne_eqb (b * 256 ^ n + read n 0 (unhex l)) 0 (λ e. absurd (omega arith))

    by : eqb (read n 0 (unhex l)) 0 ≡ each (λ c. eqb c 48) (take (2 * n) l) → (s t : Bool) → eqb x 48 ≡ s → eqb y 48 ≡ t → eqb (b * 256 ^ n + read n 0 (unhex l)) 0 ≡ (s && (t && each (λ c. eqb c 48) (take (2 * n) l)))
    by others true true e d =
        let none : b ≡ 0 = omega (arith, stands_for_zero x (eqb-true x 48 e), stands_for_zero y (eqb-true y 48 d)) in
        let rest : b * 256 ^ n + read n 0 (unhex l) ≡ read n 0 (unhex l) = rw none (omega arith) in
        rw rest others
    by others true false e d = some_digit (omega (arith, zero_digit y m.1 (eqb-false y 48 d)))
    by others false t e d = some_digit (omega (arith, zero_digit x m.0 (eqb-false x 48 e)))

-- the upper 64 bits of an id are all zero if all their digits are
wide_line : (l : List ℕ) (i : ℕ) → IdLine id_size l i → leb half_limit i ≡ not (upper_zero l)
unfolding upper_zero unhex
wide_line [] i d = absurd (omega (arith, d.long))
wide_line (x ∷ []) i d = absurd (omega (arith, d.long))
wide_line (x ∷ y ∷ l) i d = rw (← zeros half_size l m.2 (omega (arith, d.long))) (by (eqb upper 0) refl)
  where
    m : (digit x < 16) × (digit y < 16) × (paired l ≡ true)
    m = paired_more x y l d.digits

    b : List ℕ
    b = unhex (x ∷ y ∷ l)

    upper : ℕ
    upper = read half_size 0 (unhex l)

    is : i ≡ upper * half_limit + read half_size (1 + half_size) b
    is = d.is ∙ read_join half_size half_size 1 b ∙ ap (λ n. n * half_limit + read half_size (1 + half_size) b) (sym (read_drop half_size 0 1 b))

    below : read half_size (1 + half_size) b < half_limit
    below = read_below b (bytes_unhex (x ∷ y ∷ l) d.digits) half_size (1 + half_size)

    by : (t : Bool) → eqb upper 0 ≡ t → leb half_limit i ≡ not t
    by true e = lt-leb half_limit i (omega (arith, is, below, eqb-true upper 0 e))
    by false e = le-leb half_limit i (omega (arith, is, eqb-false upper 0 e))

pub wide_digits : (l : List ℕ) (f : Frame) (i : ℕ) → line_in id_size l ≡ Good f → frame_id f ≡ some i → leb half_limit i ≡ not (upper_zero l)
wide_digits l f i g h = wide_line l i (id_line id_size l f i g h)
