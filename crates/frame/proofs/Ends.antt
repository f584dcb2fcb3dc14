-- Where a line ends: at its line feed, or where the text ends. A frame's line has no line feed in it.
use mathlib.Core.Path.{◌≡◌, refl, sym, ap, ◌∙◌, subst}
use mathlib.Core.Logic.{◌⊎◌, inl, inr}
use Prim.Native.Nat.{ℕ, zero, suc, ◌+◌, ◌-◌, ◌*◌, ◌<◌, ◌≤◌}
use mathlib.Core.Bool.{Bool, true, false, cond, ◌&&◌, false≢true}
use mathlib.Core.List.{List, [], ◌∷◌, ◌++◌}
use native.Mathlib.Numerals.{add-one}
use native.Mathlib.Omega.{arith}
use borrow.Author.Tests.{eq-eqb, ne_eqb, eqb-true, eqb-false, ltb-true, ltb-false}
use borrow.Table.Steps.{cases}
use lib.Dec.{ltb, eqb}
use lib.ListN.{length, get_or, take, drop, length-drop, length-append, drop_of_length-le, take-append-drop}
use lib.Seq.{drop-cons, length-take-le, take_all, get_or-take}
use Rattle.rules.specs.declared.Frame.{Frame}
use Rattle.rules.specs.declared.Line.TheVariants.{Good, Bad}
use Rattle.rules.specs.Frames.{digit, paired, unhex, frame_in, line_in}
use Rattle.rules.specs.Printed.{lines_of}
use Rattle.frame.specs.Ends.{longer, ended_of, up_to, likely_end, LikelyEnd}
use Rattle.frame.specs.Decoded.{size_in, frame_as_in}
use Rattle.frame.proofs.Pairs.{paired_more, length_unhex, first_pair}
use Rattle.frame.proofs.ByKind.{no_size, frame_by_kind}

-- the first line that ends, and those after it
pub ended_first : (l : List ℕ) → up_to l < length l → ended_of l ≡ take (up_to l) l ∷ ended_of (drop (suc (up_to l)) l)
unfolding ended_of up_to
ended_first [] h = absurd (omega arith)
ended_first (b ∷ bs) h = cases (eqb b 10) (λ e. rw e) (λ e. rw (e, ended_first bs (omega (arith, rw e at h))))

-- a text without a line feed has no line that ends
pub ended_none : (l : List ℕ) → up_to l ≡ length l → ended_of l ≡ []
unfolding ended_of up_to
ended_none [] h = refl
ended_none (b ∷ bs) h = cases (eqb b 10) (λ e. absurd (omega (arith, rw e at h))) (λ e. rw (e, ended_none bs (omega (arith, rw e at h))))

pub up_to_within : (l : List ℕ) → up_to l ≤ length l
unfolding up_to
up_to_within [] = omega arith
up_to_within (b ∷ bs) = cases (eqb b 10) (λ e. rw e (omega arith)) (λ e. rw e (omega (arith, up_to_within bs)))

module _ (l : List ℕ) (i : ℕ) where
  -- a part from a place on is all that is left
  pub rest_of : take (length l - i) (drop i l) ≡ drop i l
  rest_of = take_all (length l - i) (drop i l) (omega (arith, length-drop i l))

  pub end_within : i ≤ length l → i + up_to (drop i l) ≤ length l
  end_within h = omega (arith, up_to_within (drop i l), length-drop i l)

  pub up_to_feed : i < length l → get_or l i 0 ≡ 10 → up_to (drop i l) ≡ 0
  unfolding up_to
  up_to_feed h e = rw (drop-cons l i 0 h, eq-eqb (get_or l i 0) 10 e)

  pub up_to_more : i < length l → (get_or l i 0 ≡ 10 → ⊥) → i + up_to (drop i l) ≡ i + 1 + up_to (drop (i + 1) l)
  unfolding up_to
  up_to_more h n = let e : i + 1 ≡ suc i = omega arith in rw (e, drop-cons l i 0 h, ne_eqb (get_or l i 0) 10 n) (omega arith)

  pub up_to_end : length l ≤ i → up_to (drop i l) ≡ 0
  unfolding up_to
  up_to_end h = rw (drop_of_length-le l {i = i} h)

-- the first line of a text that has a line feed, and the lines after it
pub lines_first : (t more : List ℕ) → up_to t < length t → lines_of (t ++ more) ≡ take (up_to t) t ∷ lines_of (drop (suc (up_to t)) t ++ more)
unfolding lines_of up_to
lines_first [] more h = absurd (omega arith)
lines_first (b ∷ bs) more h = cases (eqb b 10) (λ e. rw e) (λ e. rw (e, lines_first bs more (omega (arith, rw e at h))))

-- a line that has ended is a line, and those after it are those of the rest
pub record FirstLine (t l : List ℕ) (ls : List (List ℕ)) : Type 0 where
  pub first : (more : List ℕ) → lines_of (t ++ more) ≡ l ∷ lines_of (drop (suc (length l)) t ++ more)
  pub rest : ended_of (drop (suc (length l)) t) ≡ ls

pub first_line : (t l : List ℕ) (ls : List (List ℕ)) → ended_of t ≡ l ∷ ls → FirstLine t l ls
first_line t l ls e = by (ltb (up_to t) (length t)) refl
  where
    by : (x : Bool) → ltb (up_to t) (length t) ≡ x → FirstLine t l ls
    by true x =
        let h = ltb-true (up_to t) (length t) x in
        let q = sym e ∙ ended_first t h in
        let p : l ≡ take (up_to t) t = cc in
        let n : length l ≡ up_to t = ap length p ∙ length-take-le (up_to t) t (omega arith) in
        record { first = λ more. rw (n, p) (lines_first t more h); rest = rw n (cc) }
    by false x =
        let none = ended_none t (omega (arith, ltb-false (up_to t) (length t) x, up_to_within t)) in
        let z : ◌≡◌ {A = ℕ} 0 1 = cc in
        absurd (omega arith)

-- bytes without a line feed stand before the first line of what follows
abbrev before : List ℕ → List (List ℕ) → List (List ℕ)
before t [] = t ∷ []
before t (l ∷ ls) = (t ++ l) ∷ ls

-- no line feed in a text, and none in its rest
rest_none : (b : ℕ) (t : List ℕ) → ended_of (b ∷ t) ≡ [] → (eqb b 10 ≡ false) × (ended_of t ≡ [])
unfolding ended_of
rest_none b t e = by (eqb b 10) (ended_of t) e
  where
    by : (x : Bool) (ls : List (List ℕ)) → cond x ([] ∷ ls) (longer b ls) ≡ [] → (x ≡ false) × (ls ≡ [])
    by true ls e = let z : ◌≡◌ {A = ℕ} 0 1 = cc in absurd (omega arith)
    by false [] e = (refl, refl)
    by false (l ∷ ls) e = let z : ◌≡◌ {A = ℕ} 0 1 = cc in absurd (omega arith)

take_none : (n : ℕ) (t : List ℕ) → ended_of t ≡ [] → ended_of (take n t) ≡ []
unfolding ended_of
take_none zero t e = refl
take_none (suc n) [] e = refl
take_none (suc n) (b ∷ t) e = let r = rest_none b t e in rw (r.0, take_none n t r.1)

lines_behind : (b : ℕ) (t more : List ℕ) → ended_of (b ∷ t) ≡ [] → lines_of (b ∷ (t ++ more)) ≡ before (b ∷ t) (lines_of more)
unfolding lines_of
lines_behind b [] more e = by (lines_of more) refl
  where
    by : (ls : List (List ℕ)) → lines_of more ≡ ls → lines_of (b ∷ more) ≡ before (b ∷ []) ls
    by [] q = rw ((rest_none b [] e).0, q)
    by (l ∷ ls) q = rw ((rest_none b [] e).0, q)
lines_behind b (c ∷ t) more e = by (lines_of more) (lines_behind c t more (rest_none b (c ∷ t) e).1)
  where
    by : (ls : List (List ℕ)) → lines_of (c ∷ (t ++ more)) ≡ before (c ∷ t) ls → lines_of (b ∷ c ∷ (t ++ more)) ≡ before (b ∷ c ∷ t) ls
    by [] q = rw ((rest_none b (c ∷ t) e).0, q)
    by (l ∷ ls) q = rw ((rest_none b (c ∷ t) e).0, q)

-- where lines that are longer than `most` do not count, no more than `most` bytes and one of a line that has not ended do
pub cut_lines : {B : Type 0} (write : List (List ℕ) → B) (most : ℕ) → ((l m : List ℕ) (ls : List (List ℕ)) → most < length l → most < length m → write (l ∷ ls) ≡ write (m ∷ ls))
    → (t more : List ℕ) → ended_of t ≡ [] → write (lines_of (take (most + 1) t ++ more)) ≡ write (lines_of (t ++ more))
cut_lines write most alike [] more e = simp (add-one most)
cut_lines write most alike (b ∷ t) more e =
    cases (ltb most (length t))
    (λ x. rw (add-one most, lines_behind b (take most t) more (rw add-one at (take_none (most + 1) (b ∷ t) e)), lines_behind b t more e) (same (ltb-true most (length t) x) (lines_of more)))
    (λ x. rw (add-one most, take_all most t (omega (arith, ltb-false most (length t) x))))
  where
    same : most < length t → (ls : List (List ℕ)) → write (before (b ∷ take most t) ls) ≡ write (before (b ∷ t) ls)
    same h [] = alike _ _ [] (omega (arith, length-take-le most t (omega arith))) (omega arith)
    same h (l ∷ ls) =
        alike _ _ ls
        (omega (arith, length-append (take most t) l, length-take-le most t (omega arith)))
        (omega (arith, length-append t l))

-- no digit is a line feed, so behind pairs of digits it is the first
no_feed : (c : ℕ) → digit c < 16 → eqb c 10 ≡ false
unfolding digit
no_feed c h = ne_eqb c 10 (λ e. absurd (omega (arith, rw e at h)))

pub up_to_pairs : (l rest : List ℕ) → paired l ≡ true → up_to (l ++ (10 ∷ rest)) ≡ length l
unfolding up_to paired
up_to_pairs [] rest p = refl
up_to_pairs (x ∷ []) rest p = absurd (false≢true p)
up_to_pairs (x ∷ y ∷ l) rest p = let m = paired_more x y l p in rw (no_feed x m.0, no_feed y m.1, up_to_pairs l rest m.2)

-- a frame's line is such pairs
pub frame_paired : (w : ℕ) (l : List ℕ) (f : Frame) → line_in w l ≡ Good f → paired l ≡ true
unfolding line_in
frame_paired w l f g = by (paired l) refl g
  where
    by : (t : Bool) → paired l ≡ t → cond t (frame_in w (unhex l)) Bad ≡ Good f → paired l ≡ true
    by true p q = p
    by false p q = let z : ◌≡◌ {A = ℕ} 0 1 = cc in absurd (omega arith)

-- the byte at which a line ends
at_end : (t : List ℕ) → up_to t < length t → get_or t (up_to t) 0 ≡ 10
unfolding up_to
at_end [] h = absurd (omega arith)
at_end (b ∷ bs) h = cases (eqb b 10) (λ e. rw e (eqb-true b 10 e)) (λ e. rw e (at_end bs (omega (arith, rw e at h))))

-- a frame's line: pairs of digits, as many as its kind asks for, and not none
pub record FrameLine (w : ℕ) (l : List ℕ) (f : Frame) : Type 0 where
  pub digits : paired l ≡ true
  pub size : length l ≡ 2 * size_in w (get_or (unhex l) 0 0)
  pub some : 2 ≤ length l
  pub is : frame_as_in w (get_or (unhex l) 0 0) (unhex l) ≡ Good f

pub frame_line : (w : ℕ) (l : List ℕ) (f : Frame) → line_in w l ≡ Good f → FrameLine w l f
unfolding line_in
frame_line w l f g = by (eqb (length b) n) (eqb n 0) refl refl (sym (frame_by_kind w b) ∙ sym (rw p) ∙ g)
  where
    b : List ℕ
    b = unhex l

    n : ℕ
    n = size_in w (get_or b 0 0)

    p : paired l ≡ true
    p = frame_paired w l f g

    by : (x y : Bool) → eqb (length b) n ≡ x → eqb n 0 ≡ y → cond x (frame_as_in w (get_or b 0 0) b) Bad ≡ Good f → FrameLine w l f
    by true true e d q =
        let bad = no_size w l (eqb-true n 0 d) in
        let z : ◌≡◌ {A = ℕ} 0 1 = cc in
        absurd (omega arith)
    by true false e d q =
        let size : length l ≡ 2 * n = omega (arith, eqb-true (length b) n e, length_unhex l p) in
        record { digits = p; size = size; some = omega (arith, eqb-false n 0 d); is = q }
    by false y e d q = let z : ◌≡◌ {A = ℕ} 0 1 = cc in absurd (omega arith)

-- where it has ended a line feed stands there
frame_ends : (w : ℕ) (t : List ℕ) → up_to t < length t → (f : Frame) → line_in w (take (up_to t) t) ≡ Good f
    → let end = 2 * size_in w (get_or (unhex t) 0 0) in (end ≡ up_to t) × (get_or t end 0 ≡ 10)
frame_ends w t h f g =
    let l = take (up_to t) t in
    let size : length l ≡ up_to t = length-take-le (up_to t) t (omega arith) in
    let n = frame_line w l f g in
    let same : get_or (unhex l) 0 0 ≡ get_or (unhex t) 0 0 =
    first_pair l n.some ∙ rw (get_or-take (up_to t) t 0 0 (omega arith), get_or-take (up_to t) t 1 0 (omega arith)) (sym (first_pair t (omega arith))) in
    let end : 2 * size_in w (get_or (unhex t) 0 0) ≡ up_to t = ap (λ k. 2 * size_in w k) (sym same) ∙ sym n.size ∙ size in
    (end, rw end (at_end t h))

-- what is likely is found
pub likely : (w : ℕ) (text : List ℕ) → LikelyEnd w text (likely_end w text)
unfolding likely_end
likely w text = by (ltb end (length text)) (eqb (get_or text end 0) 10) refl refl
  where
    end : ℕ
    end = 2 * size_in w (get_or (unhex text) 0 0)

    by : (a b : Bool) → ltb end (length text) ≡ a → eqb (get_or text end 0) 10 ≡ b → LikelyEnd w text (cond (a && b) end 0)
    by true true p q =
        let less = ltb-true end (length text) p in
        record { within = omega arith; feed = inr (less, eqb-true (get_or text end 0) 10 q); found = λ h f g. (frame_ends w text h f g).0 }
    by true false p q =
        record { within = omega arith; feed = inl refl; found = λ h f g. absurd (eqb-false (get_or text end 0) 10 q (frame_ends w text h f g).1) }
    by false b p q =
        record { within = omega arith; feed = inl refl; found = λ h f g. absurd (omega (arith, ltb-false end (length text) p, (frame_ends w text h f g).0)) }

pub likely_is : (w : ℕ) (text : List ℕ) {end : ℕ} → end ≡ likely_end w text → LikelyEnd w text end
likely_is w text e = subst (LikelyEnd w text) (sym e) (likely w text)

-- where a frame is found before a line feed its line ends; no bytes are no frame
pub end_of_frame : (w : ℕ) (l : List ℕ) (end : ℕ) → LikelyEnd w l end → (f : Frame) → line_in w (take end l) ≡ Good f → end ≡ up_to l
unfolding unhex size_in
end_of_frame w l end likely f g = by likely.feed
  where
    by : (end ≡ 0) ⊎ ((end < length l) × (get_or l end 0 ≡ 10)) → end ≡ up_to l
    by (inl e) =
        let bad : line_in w (take end l) ≡ Bad = rw e (no_size w [] refl) in
        let z : ◌≡◌ {A = ℕ} 0 1 = cc in
        absurd (omega arith)
    by (inr (h, e)) =
        let all : l ≡ take end l ++ (10 ∷ drop (suc end) l) = sym (take-append-drop end l) ∙ ap (λ z. take end l ++ z) (drop-cons l end 0 h ∙ rw e) in
        sym (ap up_to all ∙ up_to_pairs (take end l) (drop (suc end) l) (frame_paired w (take end l) f g) ∙ length-take-le end l (omega arith))
