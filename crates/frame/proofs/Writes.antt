-- Pairs written into a buffer one after the other, and a frame's bytes in an array.
use mathlib.Core.Path.{◌≡◌, refl, sym, ap}
use Prim.Native.Nat.{ℕ, ◌+◌, ◌*◌, ◌/◌, ◌%◌, ◌<◌, ◌≤◌}
use mathlib.Core.List.{List, [], ◌∷◌, append_assoc}
use native.Mathlib.Numerals.{add-one}
use native.Mathlib.Omega.{arith}
use borrow.Author.Tests.{le-leb, lt-leb}
use lib.ListN.{length, take, get_or, set}
use lib.Seq.{take-suc, take_at, drop-drop, length-take-le, sets-eq}
use Rattle.rules.specs.declared.Frame.{Frame}
use Rattle.rules.specs.declared.Frame.TheVariants as frame
use Rattle.rules.specs.Lists.{over, over_at}
use Rattle.rules.specs.Records.{id_size}
use Rattle.rules.specs.Bytes.{big, event_bytes}
use Rattle.rules.specs.Frames.{event_frame}
use Rattle.octets.specs.Octets.{put_at}
use Rattle.octets.proofs.Writes.{Wrote, wrote_none, same_size, also, then}
use Rattle.frame.specs.Decoded.{size_of, size_in}
use Rattle.frame.specs.Encoded.{hex, hexed, kind_of, field_bytes, frame_bytes, encoded, encoded_into}
use Rattle.frame.proofs.Pairs.{hexed_append, length_hexed}
use Rattle.frame.proofs.ByKind.{size_bound}

-- the pair of one more byte behind those of the first i
pub one_pair : {old new : List ℕ} (b : List ℕ) (i : ℕ) → i < length b → 2 * i + 2 ≤ length old → Wrote old 0 (hexed (take i b)) new
    → Wrote old 0 (hexed (take (i + 1) b)) (set (set new (2 * i) (hex (get_or b i 0 / 16))) (2 * i + 1) (hex (get_or b i 0 % 16)))
unfolding hexed
one_pair {old} {new} b i h k w =
    let x = get_or b i 0 in
    let behind : 2 * i ≡ 0 + length (hexed (take i b)) = omega (arith, length_hexed (take i b), length-take-le i b (omega arith)) in
    let size : length new ≡ length old = same_size w in
    let stored = rw append_assoc at (sets-eq (hexed (x ∷ [])) new (2 * i) (omega arith)) in
    rw (add-one i, take-suc b i 0 h, hexed_append, add-one (2 * i)) (also w (2 * i) behind (hexed (x ∷ [])) (omega arith) (rw drop-drop stored))

-- a frame's size, and its line in a buffer
size_of_frame : (f : Frame) → length (frame_bytes f) ≡ size_of (kind_of f)
unfolding frame_bytes field_bytes event_bytes big size_in
size_of_frame (frame.Event e) = refl
size_of_frame (frame.Cancel i) = refl
size_of_frame (frame.Clock t) = refl
size_of_frame (frame.Program n p d) = refl
size_of_frame (frame.Ask c) = refl
size_of_frame (frame.OptOut i) = refl
size_of_frame (frame.OptIn i) = refl

kind_byte : (f : Frame) → big 1 (kind_of f) ≡ kind_of f ∷ []
unfolding big
kind_byte (frame.Event e) = refl
kind_byte (frame.Cancel i) = refl
kind_byte (frame.Clock t) = refl
kind_byte (frame.Program n p d) = refl
kind_byte (frame.Ask c) = refl
kind_byte (frame.OptOut i) = refl
kind_byte (frame.OptIn i) = refl

-- in an array of the longest frame the bytes of a frame stand at the front
pub frame_stands : (f : Frame) (l : List ℕ) → length l ≡ event_frame → {m n : List ℕ} → m ≡ put_at 1 0 (kind_of f) l → n ≡ over_at 1 (field_bytes f) m
    → take (size_of (kind_of f)) n ≡ frame_bytes f
unfolding frame_bytes
frame_stands f l h {m} {n} p q =
    let size = size_of_frame f in
    let bound = size_bound id_size (kind_of f) in
    let kind : Wrote l 0 (kind_of f ∷ []) m = rw kind_byte at (then (wrote_none l 0 (omega arith)) 0 refl 1 (kind_of f) (omega arith) p) in
    let all = also kind 1 refl (field_bytes f) (omega arith) q in
    rw all.is (take_at (frame_bytes f) _ (size_of (kind_of f)) size)

module _ (f : Frame) (l : List ℕ) (length' : ℕ) (is_length : length' ≡ 2 * size_of (kind_of f)) where
  line_length : length (encoded f) ≡ length'
  unfolding encoded
  line_length = omega (arith, length_hexed (frame_bytes f), size_of_frame f)

  pub encoded_short : length l < length' → (0, l) ≡ encoded_into f l
  unfolding encoded_into
  encoded_short h = rw (line_length, lt-leb length' (length l) h)

  pub encoded_whole : length' ≤ length l → {n : List ℕ} → n ≡ over (encoded f) l → (length', n) ≡ encoded_into f l
  unfolding encoded_into
  encoded_whole h e = rw (e, le-leb (length (encoded f)) (length l) (omega (arith, line_length))) (ap (λ k. (k, over (encoded f) l)) (sym line_length))
