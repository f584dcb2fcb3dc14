-- A frame and its line are inverse: the line's pairs are the frame's bytes, which are its fields.
use mathlib.Core.Path.{◌≡◌, refl, sym, ap, ◌∙◌}
use Prim.Native.Nat.{ℕ, zero, suc, ◌+◌, ◌/◌, ◌%◌, ◌^◌, ◌<◌, ◌≤◌}
use mathlib.Core.Bool.{Bool, true, false, cond}
use mathlib.Core.List.{List, [], ◌∷◌, ◌++◌, append_assoc, append-nil}
use native.Mathlib.Omega.{arith}
use borrow.Author.Rules.{rules}
use borrow.Author.Tests.{eqb-true}
use lib.Dec.{eqb}
use lib.ListN.{length, get_or, drop, length-drop, drop_of_length-le}
use lib.Seq.{drop-cons, drop-drop, get_or-drop}
use mir.Val.{Val}
use Rattle.rules.specs.declared.Id.{Id}
use Rattle.rules.specs.declared.Event.{Event}
use Rattle.rules.specs.declared.Frame.{Frame}
use Rattle.rules.specs.declared.Frame.TheVariants as frame
use Rattle.rules.specs.declared.Line.TheVariants.{Good, Bad}
use Rattle.rules.specs.Records.{id_size, id_number, id_of, IdFits}
use Rattle.rules.specs.Bytes.{big, read, id_at, event_size, event_at, event_bytes}
use Rattle.rules.specs.Frames.{event_frame, id_frame, program_frame, paired, unhex, is_frame, frame_of, frame_in, line_of, line_in}
use Rattle.rules.proofs.IdLaws.{number_id, id_number_lem, id_below}
use Rattle.rules.proofs.Numbers.{Bytes, read_big, piece}
use Rattle.rules.proofs.Entries.{FitsEvent, event_of_bytes, event_drop, event_piece}
use Rattle.rules.proofs.Ranges.{Owned}
use Rattle.rules.specs.contracts.Frame as frames
use Rattle.frame.specs.Decoded.{size_of, size_in, frame_as, frame_as_in}
use Rattle.frame.specs.Encoded.{hexed, program_fields, field_bytes, frame_bytes, encoded}
use Rattle.frame.proofs.Pairs.{Small, paired_hexed, unhex_hexed, hexed_unhex, bytes_unhex}
use Rattle.frame.proofs.ByKind.{by_kind, frame_none, frame_by_kind}

-- each field fits its width
abbrev FitsFrame : Frame → Type 0
FitsFrame (frame.Event e) = FitsEvent e
FitsFrame (frame.Cancel i) = IdFits i
FitsFrame (frame.Clock t) = t < 256 ^ 8
FitsFrame (frame.Program n p d) = (n < 256 ^ 1) × (p < 256 ^ 1) × (d < 256 ^ 4)
FitsFrame (frame.Ask c) = c < 256 ^ 1
FitsFrame (frame.OptOut i) = IdFits i
FitsFrame (frame.OptIn i) = IdFits i

pub frame_fits : (f : Frame) (vs : List Val) → Owned frames.the_row f vs → FitsFrame f
frame_fits (frame.Event e) vs s = search rules
frame_fits (frame.Cancel i) vs s = search rules
frame_fits (frame.Clock t) vs s = search rules
frame_fits (frame.Program n p d) vs s = search rules
frame_fits (frame.Ask c) vs s = search rules
frame_fits (frame.OptOut i) vs s = search rules
frame_fits (frame.OptIn i) vs s = search rules

-- the bytes of a number, and those of one thing and then another
small_append : (a b : List ℕ) → Small a → Small b → Small (a ++ b)
small_append [] b s t = t
small_append (x ∷ a) b s t = (s.0, small_append a b s.1 t)

small_big : (n x : ℕ) → Small (big n x)
unfolding big
small_big zero x = tt
small_big (suc n) x = small_append (big n (x / 256)) (x % 256 ∷ []) (small_big n (x / 256)) (omega arith, tt)

small_event : (e : Event) → Small (event_bytes e)
unfolding event_bytes
small_event e =
    let then : (n x : ℕ) (rest : List ℕ) → Small rest → Small (big n x ++ rest) = λ n x rest s. small_append (big n x) rest (small_big n x) s in
    then id_size (id_of e) _ (then 1 e.program _ (then 4 e.controls _ (then 4 e.created _ (then 4 e.start _ (then 4 e.duration _
    (then 2 e.randomize_start _ (then 2 e.randomize_duration _ (then 2 e.start_draw _ (small_big 2 e.duration_draw)))))))))

small_bytes : (f : Frame) → Small (frame_bytes f)
unfolding frame_bytes field_bytes
small_bytes (frame.Event e) = (omega arith, small_event e)
small_bytes (frame.Cancel i) = (omega arith, small_big id_size (id_number i))
small_bytes (frame.Clock t) = (omega arith, small_big 8 t)
small_bytes (frame.Program n p d) = (omega arith, small_append (big 1 n) _ (small_big 1 n) (small_append (big 1 p) (big 4 d) (small_big 1 p) (small_big 4 d)))
small_bytes (frame.Ask c) = (omega arith, small_big 1 c)
small_bytes (frame.OptOut i) = (omega arith, small_big id_size (id_number i))
small_bytes (frame.OptIn i) = (omega arith, small_big id_size (id_number i))

-- the id behind a kind
id_of_bytes : (k : ℕ) (i : Id) → IdFits i → id_at 1 (k ∷ big id_size (id_number i)) ≡ i
unfolding big read
id_of_bytes k i h = rw (read_big id_size (id_number i) (id_below i h), id_number_lem i h)

frame_of_bytes : (f : Frame) → FitsFrame f → frame_of (frame_bytes f) ≡ Good f
unfolding frame_in is_frame frame_bytes field_bytes event_bytes big read
frame_of_bytes (frame.Event e) h = ap (λ x. Good (frame.Event x)) (sym (event_drop 1 (1 ∷ event_bytes e)) ∙ event_of_bytes e h [])
frame_of_bytes (frame.Cancel i) h = rw (id_of_bytes 2 i h)
frame_of_bytes (frame.Clock t) h = rw (read_big 8 t h)
frame_of_bytes (frame.Program n p d) h = rw (read_big 1 n h.0, read_big 1 p h.1, read_big 4 d h.2)
frame_of_bytes (frame.Ask c) h = rw (read_big 1 c h)
frame_of_bytes (frame.OptOut i) h = rw (id_of_bytes 6 i h)
frame_of_bytes (frame.OptIn i) h = rw (id_of_bytes 7 i h)

pub line_of_encoded : (f : Frame) → FitsFrame f → line_of (encoded f) ≡ Good f
unfolding line_in encoded
line_of_encoded f h = let s = small_bytes f in rw (paired_hexed (frame_bytes f) s, unhex_hexed (frame_bytes f) s) (frame_of_bytes f h)

-- bytes that are a frame are its kind and its fields
module _ (b : List ℕ) (bytes : Bytes b) where
  -- those that are behind the first, up to the end
  behind : (k n : ℕ) (fields : List ℕ) → get_or b 0 0 ≡ k → length b ≡ 1 + n → fields ++ drop (1 + n) b ≡ drop 1 b → k ∷ fields ≡ b
  behind k n fields i h e =
      let end : drop (1 + n) b ≡ [] = drop_of_length-le b {i = 1 + n} (omega arith) in
      let all : fields ≡ drop 1 b = sym (append-nil fields) ∙ rw end at e in
      rw (all, ← i) (sym (drop-cons b 0 0 (omega arith)))

  of_event : length b ≡ event_frame → event_bytes (event_at 1 b) ++ drop event_frame b ≡ drop 1 b
  of_event h =
      let room : event_size ≤ length (drop 1 b) = simp length-drop (omega arith) in
      rw (event_drop, drop-drop) at (event_piece (drop 1 b) (λ i. rw get_or-drop (bytes (1 + i))) room)

  -- the kinds that have an id alone
  of_id : (k : ℕ) → get_or b 0 0 ≡ k → length b ≡ id_frame → k ∷ big id_size (id_number (id_at 1 b)) ≡ b
  of_id k i h = behind k id_size _ i h (rw (number_id (read id_size 1 b)) (piece b bytes id_size 1 (omega arith)))

  of_program_lem : length b ≡ program_frame → program_fields (read 1 1 b) (read 1 2 b) (read 4 3 b) ++ drop program_frame b ≡ drop 1 b
  of_program_lem h = simp append_assoc (rw (piece b bytes 4 3 (omega arith), piece b bytes 1 2 (omega arith), piece b bytes 1 1 (omega arith)))

  module _ (f : Frame) where
    IsBytes : ℕ → Type 0
    IsBytes k = get_or b 0 0 ≡ k → length b ≡ size_of k → frame_as k b ≡ Good f → frame_bytes f ≡ b

    by_fields : (k : ℕ) → IsBytes k
    unfolding IsBytes frame_as_in size_in frame_bytes field_bytes
    by_fields =
        by_kind IsBytes
        (λ i n q. let g : f ≡ frame.Event (event_at 1 b) = cc in rw g (behind 1 event_size _ i n (of_event n)))
        (λ i n q. let g : f ≡ frame.Cancel (id_at 1 b) = cc in rw g (of_id 2 i n))
        (λ i n q. let g : f ≡ frame.Clock (read 8 1 b) = cc in rw g (behind 3 8 _ i n (piece b bytes 8 1 (omega arith))))
        (λ i n q. let g : f ≡ frame.Program (read 1 1 b) (read 1 2 b) (read 4 3 b) = cc in rw g (behind 4 6 _ i n (of_program_lem n)))
        (λ i n q. let g : f ≡ frame.Ask (read 1 1 b) = cc in rw g (behind 5 1 _ i n (piece b bytes 1 1 (omega arith))))
        (λ i n q. let g : f ≡ frame.OptOut (id_at 1 b) = cc in rw g (of_id 6 i n))
        (λ i n q. let g : f ≡ frame.OptIn (id_at 1 b) = cc in rw g (of_id 7 i n))
        (λ k none i n q. let e = frame_none id_size k none b in let z : ◌≡◌ {A = ℕ} 0 1 = cc in absurd (omega arith))

    bytes_of_frame : frame_of b ≡ Good f → frame_bytes f ≡ b
    unfolding IsBytes
    bytes_of_frame e = go (eqb (length b) (size_of (get_or b 0 0))) refl (sym (frame_by_kind id_size b) ∙ e)
      where
        go : (t : Bool) → eqb (length b) (size_of (get_or b 0 0)) ≡ t → cond t (frame_as (get_or b 0 0) b) Bad ≡ Good f → frame_bytes f ≡ b
        go true p q = by_fields (get_or b 0 0) refl (eqb-true (length b) (size_of (get_or b 0 0)) p) q
        go false p q = let z : ◌≡◌ {A = ℕ} 0 1 = cc in absurd (omega arith)

pub encoded_line : (l : List ℕ) (f : Frame) → line_of l ≡ Good f → encoded f ≡ l
unfolding line_in encoded
encoded_line l f e = go (paired l) refl e
  where
    go : (t : Bool) → paired l ≡ t → cond t (frame_of (unhex l)) Bad ≡ Good f → hexed (frame_bytes f) ≡ l
    go true p q = rw (bytes_of_frame (unhex l) (bytes_unhex l p) f q) (hexed_unhex l p)
    go false p q = let z : ◌≡◌ {A = ℕ} 0 1 = cc in absurd (omega arith)
