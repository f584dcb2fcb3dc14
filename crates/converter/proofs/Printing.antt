-- Lines one after the other: what is known before each, and what a line adds.
use mathlib.Core.Path.{◌≡◌, refl, sym, ap, ◌∙◌}
use Prim.Native.Nat.{ℕ, suc, ◌+◌, ◌<◌, ◌≤◌}
use mathlib.Core.List.{List, [], ◌∷◌, ◌++◌, append_assoc, append-nil}
use native.Mathlib.Omega.{arith}
use borrow.Author.Tests.{eqb-true, eqb-false}
use borrow.Table.Steps.{cases}
use lib.Dec.{eqb}
use lib.ListN.{length, take, drop, length-append, length-drop}
use lib.Seq.{drop-drop, length-take-le, take_at, take-add}
use Rattle.rules.specs.Lists.{over_at}
use Rattle.rules.specs.Bytes.{flat}
use Rattle.rules.specs.Printed.{lines_of}
use Rattle.rules.specs.Converted.{turned_text, converted}
use Rattle.rules.proofs.Numbers.{flat_append}
use Rattle.rules.proofs.Over.{over_then, over_none, over_size}
use Rattle.frame.specs.declared.Width.{Width}
use Rattle.frame.specs.Ends.{ended_of, up_to}
use Rattle.frame.proofs.Ends.{ended_first, ended_none, lines_first, up_to_within}
use Rattle.convert.specs.Turns.{turned_to}
use Rattle.input.specs.Kept.{kept}
use Rattle.input.proofs.Kept.{kept_count, kept_front}
use Rattle.text.specs.Texts.{Stands}
use Rattle.converter.specs.declared.Told.{Told}
use Rattle.converter.specs.declared.Printed.{Printed}
use Rattle.converter.proofs.Telling.{text_short}
use Rattle.converter.specs.Pieces.{most_turned, texts_of, Tells, Unended, Takes, block_size, CanPrint, PrintsSome}

-- one line more is done
module _ {piece : List ℕ} {from : ℕ} {done : List (List ℕ)} (t : Takes piece from done) (end : ℕ) (is_end_lem : end ≡ up_to (drop from piece)) (h : end < length (drop from piece)) where
  long : up_to (drop from piece) < length (drop from piece)
  long = omega arith

  size : up_to (drop from piece) ≡ end
  size = omega arith

  next : from + suc (up_to (drop from piece)) ≡ from + (end + 1)
  next = omega arith

  pub takes_more : Takes piece (from + (end + 1)) (done ++ (take end (drop from piece) ∷ []))
  takes_more = record {
    within = omega (arith, length-drop from piece);
    ended = t.ended ∙ rw (ended_first (drop from piece) long, drop-drop, next, size, append_assoc);
    lines = λ after. t.lines after ∙ rw (lines_first (drop from piece) after long, drop-drop, next, size, append_assoc);
  }

pub takes_none : (piece : List ℕ) → Takes piece 0 []
takes_none piece = record { within = omega arith; ended = refl; lines = λ after. refl }

module _ {piece : List ℕ} {from : ℕ} {done : List (List ℕ)} (t : Takes piece from done) where
  -- some lines of what is left
  pub takes_then : {rest : List ℕ} {read : ℕ} {more : List (List ℕ)} → rest ≡ drop from piece → Takes rest read more → Takes piece (from + read) (done ++ more)
  takes_then {rest} {read} {more} e u = record {
    within = omega (arith, t.within, u.within, ap length e, length-drop from piece);
    ended = t.ended ∙ rw (rw (e, drop-drop) at u.ended, append_assoc);
    lines = λ after. t.lines after ∙ rw (rw (e, drop-drop) at (u.lines after), append_assoc);
  }

  -- and none is left
  pub takes_all : (to : Width) → ended_of (drop from piece) ≡ [] → (after : List ℕ)
      → converted (turned_to to) (piece ++ after) ≡ texts_of to (ended_of piece) ++ converted (turned_to to) (drop from piece ++ after)
  takes_all to none after =
      let all : ended_of piece ≡ done = t.ended ∙ rw none (append-nil done) in
      rw (t.lines after, all) (flat_append (λ l. turned_text (turned_to to l)) done (lines_of (drop from piece ++ after)))

-- n bytes are written, and the r bytes behind them go to the front
behind_block : (blocks : List ℕ) (n r at : ℕ) (new newer : List ℕ) → n + r ≡ at → take r newer ≡ take r (drop n new) → (blocks ++ take n new) ++ take r newer ≡ blocks ++ take at new
behind_block blocks n r at new newer e front = rw (append_assoc, front, ← take-add n r new, e)

-- up to `from` lines are done: their texts are blocks and then what is still to be written, behind what was still to be written before
pub record Sent (to : Width) (piece before : List ℕ) (from at : ℕ) (new : List ℕ) : Type 0 where
  pub done : List (List ℕ)
  pub takes : Takes piece from done
  pub blocks : List ℕ
  pub texts : blocks ++ take at new ≡ before ++ texts_of to done

pub sent_none : (to : Width) (piece : List ℕ) (pending : ℕ) (old : List ℕ) → Sent to piece (take pending old) 0 pending old
unfolding flat
sent_none to piece pending old = record { done = []; takes = takes_none piece; blocks = []; texts = sym (append-nil (take pending old)) }

module _ {to : Width} {piece before : List ℕ} {from at : ℕ} {new : List ℕ} (s : Sent to piece before from at new) where
  -- some lines more
  pub sent_more : {rest newer : List ℕ} {r : Printed} → rest ≡ drop from piece → PrintsSome to rest at new r newer → Sent to piece before (from + r.read) r.pending newer
  sent_more {rest} {newer} {r} e p = record {
    done = s.done ++ p.done;
    takes = takes_then s.takes e p.takes;
    blocks = s.blocks;
    texts =
        rw (p.texts, ← append_assoc s.blocks (take at new) (texts_of to p.done), s.texts, append_assoc, ← flat_append (λ l. turned_text (turned_to to l)) s.done p.done);
  }

  -- a block is written, and what is behind it goes to the front
  pub sent_block : {newer : List ℕ} {r : ℕ} → block_size ≤ at → at < block_size + most_turned → at ≤ length new → (r, newer) ≡ kept block_size at new → (r < block_size) × Sent to piece before from r newer
  sent_block {newer} {r} h few there k =
      let size : block_size + r ≡ at = omega (arith, kept_count block_size at new h there k) in (
        omega arith,
        record {
          done = s.done;
          takes = s.takes;
          blocks = s.blocks ++ take block_size new;
          texts = behind_block s.blocks block_size r at new newer size (kept_front block_size at new h there k) ∙ s.texts;
        },
      )

  -- no line that has ended is left
  pub sent_all : ended_of (drop from piece) ≡ [] → s.blocks ++ take at new ≡ before ++ texts_of to (ended_of piece)
  sent_all none = rw (s.takes.ended, none, append-nil) s.texts

-- before the line at `from`: behind what was still to be written stand the texts of the lines before it, and before the first line there is none
pub record Printing (to : Width) (piece : List ℕ) (pending : ℕ) (old : List ℕ) (from at : ℕ) (new : List ℕ) : Type 0 where
  pub done : List (List ℕ)
  pub takes : Takes piece from done
  pub size : at ≡ pending + length (texts_of to done)
  pub fits : at < block_size + most_turned
  pub stands : new ≡ over_at pending (texts_of to done) old
  pub first : from ≡ 0 → at ≡ pending

module _ (to : Width) (piece : List ℕ) {pending : ℕ} {old : List ℕ} (can : CanPrint pending old) where
  pub printing_none : Printing to piece pending old 0 pending old
  unfolding flat
  printing_none =
      let none : pending ≡ pending + 0 = omega arith in
      record { done = []; takes = takes_none piece; size = none; fits = omega (arith, can.few); stands = sym (over_none pending old); first = λ e. refl }

module _ {to : Width} {piece : List ℕ} {pending : ℕ} {old : List ℕ} {from at : ℕ} {new : List ℕ} (can : CanPrint pending old) (p : Printing to piece pending old from at new) where
  -- the buffer keeps its length
  pub printing_size : length new ≡ length old
  printing_size = rw p.stands (over_size pending (texts_of to p.done) old (omega (arith, p.size, p.fits, can.room)))

  -- it ends here, whatever was written behind the texts
  pub printed : {newer : List ℕ} → take at newer ≡ take at new → (at < block_size → ended_of (drop from piece) ≡ []) → PrintsSome to piece pending old (record { read = from; pending = at }) newer
  printed same none =
      let texts = texts_of to p.done in
      let front = take pending old in
      let rest = drop (length texts) (drop pending old) in
      let long : length (front ++ texts) ≡ at = simp length-append (omega (arith, p.size, length-take-le pending old (omega (arith, can.few, can.room)))) in
      let all : take at new ≡ front ++ texts = rw (p.stands, ← append_assoc front texts rest) (take_at (front ++ texts) rest at long) in
      record { done = p.done; takes = p.takes; fits = p.fits; texts = same ∙ all; some = some; all = none }
    where
      some : block_size ≤ at → 0 < from
      some h = cases (eqb from 0) (λ e. absurd (omega (arith, p.first (eqb-true from 0 e), can.few))) (λ e. omega (arith, eqb-false from 0 e))

  -- there is a block
  pub printed_block : block_size ≤ at → PrintsSome to piece pending old (record { read = from; pending = at }) new
  printed_block h = printed refl (λ few. absurd (omega arith))

  module _ {rest newer : List ℕ} (e : rest ≡ drop from piece) where
    -- the line has not ended
    pub printed_end : Unended rest new at newer → PrintsSome to piece pending old (record { read = from; pending = at }) newer
    printed_end u = printed u.front (λ few. ended_none (drop from piece) (omega (arith, up_to_within (drop from piece), rw e at u.past)))

    pub printing_more : {r : Told} → Tells to rest new at newer r → at < block_size → Printing to piece pending old (from + (r.end + 1)) r.behind newer
    unfolding flat
    printing_more {r} t few =
        let line = take r.end (drop from piece) in
        let texts = texts_of to p.done in
        let text = turned_text (turned_to to line) in
        let all : texts_of to (p.done ++ (line ∷ [])) ≡ texts ++ text = flat_append (λ l. turned_text (turned_to to l)) p.done (line ∷ []) ∙ ap (◌++◌ texts) (append-nil text) in
        let put : Stands new at text newer r.behind = rw e at t.stands in
        let more = takes_more p.takes r.end (rw e at t.end) (rw e at t.within) in
        record {
          done = p.done ++ (line ∷ []);
          takes = more;
          size = put.end ∙ rw all (simp length-append (omega (arith, p.size)));
          fits = omega (arith, put.end, text_short to line);
          stands = put.is ∙ rw (all, p.stands, p.size) (over_then pending texts text old (omega (arith, can.few, can.room)));
          first = λ e. absurd (omega arith);
        }
