-- A number written from its back to its front, and one number after the other.
use mathlib.Core.Path.{◌≡◌, refl, sym, ap, ◌∙◌}
use Prim.Native.Nat.{ℕ, zero, suc, ◌+◌, ◌-◌, ◌/◌, ◌%◌, ◌<◌, ◌≤◌}
use mathlib.Core.List.{List, [], ◌∷◌, ◌++◌, append_assoc}
use native.Mathlib.Omega.{arith}
use borrow.Rule.Slice.PartMut.{put_mid}
use native.Mathlib.Numerals.{add-one}
use lib.ListN.{get_or, length, take, drop, set, length-set, length-append, take-append-drop}
use lib.Seq.{take-suc, set_split, drop-drop, take-set-le, length-take-le, drop_at}
use Rattle.std.specs.Int.{bytes_high_first}
use Rattle.rules.specs.declared.Event.{Event}
use Rattle.rules.specs.Lists.{over_at}
use Rattle.rules.specs.Bytes.{big, event_size, event_bytes}
use Rattle.rules.proofs.Numbers.{big_length}
use Rattle.octets.proofs.Joins.{high_first}
use Rattle.rules.proofs.Over.{over_none, over_then, over_size}
use Rattle.octets.specs.Octets.{put_at, put_event, copied}
use Rattle.octets.proofs.Fits.{put_inside, put_event_inside, copy_inside}

stored : (l : List ℕ) (k a : ℕ) → k < length l → drop k (set l k a) ≡ a ∷ drop (suc k) l
stored l k a h = rw (set_split l k a h) (drop_at (take k l) (a ∷ drop (suc k) l) k (length-take-le k l (omega arith)))

-- one element is written over what stands there, and so is a part
pub set_over : (l : List ℕ) (at x : ℕ) → at < length l → set l at x ≡ over_at at (x ∷ []) l
set_over l at x h = let behind : suc at ≡ at + 1 = omega arith in set_split l at x h ∙ rw (drop-drop, behind)

pub part_over : (at k : ℕ) (l : List ℕ) {vs ws : List ℕ} → vs ≡ ws → k ≡ length ws → put_mid at k l vs ≡ over_at at ws l
part_over at k l q e = rw (q, e)

pub written : (at k n x : ℕ) (l : List ℕ) {vs : List ℕ} → k ≡ n → vs ≡ bytes_high_first n x → put_mid at k l vs ≡ over_at at (big n x) l
written at k n x l e q = part_over at k l (q ∙ high_first n x) (e ∙ sym (big_length n x))

-- of the n bytes of x the last ones stand in the slice, and those of `rest`, i of them, are still to be written
pub record NumberLeft (old : List ℕ) (at n x : ℕ) (new : List ℕ) (rest i : ℕ) : Type 0 where
  pub size : length new ≡ length old
  pub front : take at new ≡ take at old
  pub back : big i rest ++ drop (at + i) new ≡ big n x ++ drop (at + n) old

pub left_all : (l : List ℕ) (at n x : ℕ) → NumberLeft l at n x l x n
left_all l at n x = record { size = refl; front = refl; back = refl }

module _ {old : List ℕ} {at n x : ℕ} {new : List ℕ} {rest : ℕ} where
  pub left_less : (i : ℕ) → 0 < i → at + i ≤ length old → NumberLeft old at n x new rest i → NumberLeft old at n x (set new (at + (i - 1)) (rest % 256)) (rest / 256) (i - 1)
  unfolding big
  left_less zero p h l = absurd (omega arith)
  left_less (suc i) p h l =
      let d : suc i - 1 ≡ i = omega arith in
      let f : at + suc i ≡ suc (at + i) = omega arith in
      rw d
      (record {
        size = length-set new (at + i) (rest % 256) ∙ l.size;
        front = take-set-le at new (at + i) (rest % 256) (omega arith) ∙ l.front;
        back = rw (stored new (at + i) (rest % 256) (omega (arith, l.size))) (rw (f, append_assoc) at l.back);
      })

  pub left_none : at + n ≤ length old → NumberLeft old at n x new rest 0 → new ≡ over_at at (big n x) old
  unfolding big
  left_none h l =
      let z : at + 0 ≡ at = omega arith in
      let back : drop at new ≡ big n x ++ drop (at + n) old = rw z at l.back in
      let e : at + length (big n x) ≡ at + n = omega (arith, big_length n x) in
      sym (take-append-drop at new) ∙ rw (l.front, back, drop-drop, e)

event_size_lem : (e : Event) → length (event_bytes e) ≡ event_size
unfolding event_bytes big
event_size_lem e = refl

-- vs stand in a slice from `at` on
pub record Wrote (old : List ℕ) (at : ℕ) (vs new : List ℕ) : Type 0 where
  pub room : at + length vs ≤ length old
  pub is : new ≡ over_at at vs old

pub wrote_none : (l : List ℕ) (at : ℕ) → at ≤ length l → Wrote l at [] l
wrote_none l at h = record { room = omega arith; is = sym (over_none at l) }

pub same_size : {old : List ℕ} {at : ℕ} {vs new : List ℕ} → Wrote old at vs new → length new ≡ length old
same_size {old} {at} {vs} w = ap length w.is ∙ over_size at vs old w.room

-- and one list more, or the bytes of one number or one event more
module _ {old : List ℕ} {at : ℕ} {vs new : List ℕ} (w : Wrote old at vs new) (next : ℕ) (e : next ≡ at + length vs) {m : List ℕ} where
  pub also : (ws : List ℕ) → next + length ws ≤ length old → m ≡ over_at next ws new → Wrote old at (vs ++ ws) m
  also ws h q = record {
    room = simp length-append (omega arith);
    is = q ∙ rw (w.is, e) (over_then at vs ws old (omega (arith, w.room)));
  }

  pub then : (n x : ℕ) → next + n ≤ length old → m ≡ put_at n next x new → Wrote old at (vs ++ big n x) m
  then n x h q = also (big n x) (omega (arith, big_length n x)) (q ∙ put_inside n next new x (omega (arith, same_size w)))

  pub then_copy : (n : ℕ) (from : List ℕ) → n ≤ length from → next + n ≤ length old → m ≡ copied next n from new → Wrote old at (vs ++ take n from) m
  then_copy n from g h q = also (take n from) (omega (arith, length-take-le n from g)) (q ∙ copy_inside next n from new g (omega (arith, same_size w)))

  pub then_event : (v : Event) → next + event_size ≤ length old → m ≡ put_event next v new → Wrote old at (vs ++ event_bytes v) m
  then_event v h q = also (event_bytes v) (omega (arith, event_size_lem v)) (q ∙ put_event_inside next new v (omega (arith, same_size w)))

-- the first i bytes of another list, and one more
pub copied_one : {old new : List ℕ} {at : ℕ} (from : List ℕ) (i : ℕ) → i < length from → at + i < length old → Wrote old at (take i from) new
    → Wrote old at (take (i + 1) from) (set new (at + i) (get_or from i 0))
copied_one {old} {new} {at} from i l h w =
    let x = get_or from i 0 in
    let n : length (take i from) ≡ i = length-take-le i from (omega arith) in
    rw (add-one i, take-suc from i 0 l) (also w (at + i) (omega (arith, n)) (x ∷ []) (omega arith) (set_over new (at + i) x (omega (arith, same_size w))))
