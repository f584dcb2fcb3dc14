-- The agenda: a number put in its place; the changes of events, event by event; changes taken one by one; and what an agenda says of the moments.
use mathlib.Core.Path.{◌≡◌, refl, sym, ap, ◌∙◌, subst}
use mathlib.Core.Logic.{◌↔◌, ◌⊎◌, inl, inr, ⊎_elim}
use Prim.Native.Nat.{ℕ, suc, ◌+◌, ◌-◌, ◌%◌, ◌^◌, ◌<◌, ◌≤◌, ◌*◌, ◌/◌}
use native.Mathlib.Omega.{arith, by_contra}
use mathlib.Core.Bool.{Bool, true, false, not, ◌&&◌, ◌||◌, or-true}
use mathlib.Core.List.{List, ◌∷◌, ◌++◌}
use lib.Bits.{bit_or}
use lib.Dec.{leb, ltb}
use lib.ListN.{length, get_or, take, drop, replicate, length-append, length-drop, length-replicate, get_or-append, get_or-replicate}
use lib.Seq.{get_or-append_right, get_or-drop, get_or-take, get_or_at, length-take-le}
use borrow.Author.Count.{below_more}
use borrow.Author.Tests.{ltb-true, ltb-false, leb-true, lt-ltb, le-leb, not-true}
use native.Mathlib.Nat.{lt_of_not-le}
use Rattle.rules.specs.declared.Entry.{Entry}
use Rattle.rules.specs.Records.{has, join, most_events, last_clock}
use Rattle.rules.specs.Holding.{end_of}
use Rattle.rules.proofs.Tests.{each_true}
use Rattle.rules.proofs.Masks.{has_join, not_has}
use Rattle.calls.specs.declared.agenda.Taken.{Taken}
use Rattle.calls.specs.Sets.{event_at, set_width, SetOf}
use Rattle.calls.specs.Agenda.{most_changes, agenda_size, end_at, start_at, nothing, Change, Planned, Agenda, Filled, Inserted, Stops, TakenTo, second_width}
use Rattle.calls.specs.Found.{widened}
use Rattle.calls.proofs.Sets.{has_self, has_only}
use Rattle.calls.proofs.Contending.{same}

-- A list with one more put in, place by place.

module _ {A : Type 0} (l : List A) (n at : ℕ) (x d : A) (h : at ≤ n) (r : n < length l) where
  abbrev filling : List A
  filling = take at l ++ (x ∷ drop at (take n l))

  fills : length filling ≡ n + 1
  fills = length-append (take at l) (x ∷ drop at (take n l)) ∙ omega (arith, length-take-le at l (omega arith), length-drop at (take n l), length-take-le n l (omega arith))

  widened_before : (k : ℕ) → k < at → get_or (widened l n at x) k d ≡ get_or l k d
  widened_before k b =
      get_or-append filling (drop (n + 1) l) d k (omega (arith, fills)) ∙ get_or-append (take at l) (x ∷ drop at (take n l)) d k (omega (arith, length-take-le at l (omega arith)))
      ∙ get_or-take at l k d b

  widened_here : get_or (widened l n at x) at d ≡ x
  widened_here = get_or-append filling (drop (n + 1) l) d at (omega (arith, fills)) ∙ get_or_at (take at l) x (drop at (take n l)) d at (length-take-le at l (omega arith))

  widened_moved : (k : ℕ) → at ≤ k → k < n → get_or (widened l n at x) (k + 1) d ≡ get_or l k d
  widened_moved k b c =
      let front = length-take-le at l (omega arith) in
      let behind : k + 1 - length (take at l) ≡ suc (k - at) = omega (arith, front) in
      get_or-append filling (drop (n + 1) l) d (k + 1) (omega (arith, fills)) ∙ get_or-append_right (take at l) (x ∷ drop at (take n l)) (k + 1) d (omega (arith, front))
      ∙ ap (λ i. get_or (x ∷ drop at (take n l)) i d) behind ∙ get_or-drop at (take n l) (k - at) d ∙ ap (λ i. get_or (take n l) i d) (omega arith) ∙ get_or-take n l k d c

  widened_behind : (k : ℕ) → n < k → get_or (widened l n at x) k d ≡ get_or l k d
  widened_behind k b =
      get_or-append_right filling (drop (n + 1) l) k d (omega (arith, fills)) ∙ get_or-drop (n + 1) l (k - length filling) d ∙ ap (λ i. get_or l i d) (omega (arith, fills))

  widened_long : length (widened l n at x) ≡ length l
  widened_long = length-append filling (drop (n + 1) l) ∙ omega (arith, fills, length-drop (n + 1) l)

-- A number put in its place.

module _ {m x at : ℕ} {a : List ℕ} (f : Filled m a) (r : m < most_changes) (top : x ≤ nothing) (h : at ≤ m)
    (low : (k : ℕ) → k < at → get_or a k 0 ≤ x) (high : (k : ℕ) → at ≤ k → k < m → x ≤ get_or a k 0) where
  inside : m < length a
  inside = omega (arith, f.size)

  above : (k : ℕ) → at ≤ k → k < agenda_size → x ≤ get_or a k 0
  above k p q = go (ltb k m) refl
    where
      go : (b : Bool) → ltb k m ≡ b → x ≤ get_or a k 0
      go true e = high k p (ltb-true k m e)
      go false e = omega (arith, f.marks k (ltb-false k m e) q)

  -- at a place stands x, or what stood there or just before
  stands : (k : ℕ) → ((k ≡ at) × (get_or (widened a m at x) k 0 ≡ x)) ⊎ ((j : ℕ) × (j ≤ k) × (k ≤ j + 1) × (get_or (widened a m at x) k 0 ≡ get_or a j 0))
  stands k = ⊎_elim (λ e. inl (e, rw e (widened_here a m at x 0 h inside))) (λ d. inr (other d)) (same k at)
    where
      other : (k ≡ at → ⊥) → (j : ℕ) × (j ≤ k) × (k ≤ j + 1) × (get_or (widened a m at x) k 0 ≡ get_or a j 0)
      other d = go (ltb k at) (ltb m k) refl refl
        where
          go : (b c : Bool) → ltb k at ≡ b → ltb m k ≡ c → (j : ℕ) × (j ≤ k) × (k ≤ j + 1) × (get_or (widened a m at x) k 0 ≡ get_or a j 0)
          go true c e g = (k, omega arith, omega arith, widened_before a m at x 0 h inside k (ltb-true k at e))
          go false true e g = (k, omega arith, omega arith, widened_behind a m at x 0 h inside k (ltb-true m k g))
          go false false e g =
              let up : k - 1 + 1 ≡ k = omega (arith, ltb-false k at e) in
              (k - 1, omega arith, omega arith, ap (λ i. get_or (widened a m at x) i 0) (sym up) ∙ widened_moved a m at x 0 h inside (k - 1) (omega (arith, ltb-false k at e)) (omega (arith, ltb-false m k g, up)))

  -- what stood at a place stands somewhere
  stays : (y : ℕ) → Planned a y → Planned (widened a m at x) y
  stays y (j, l, e) = go (ltb j at) (ltb j m) refl refl
    where
      go : (b c : Bool) → ltb j at ≡ b → ltb j m ≡ c → Planned (widened a m at x) y
      go true c p q = (j, l, widened_before a m at x 0 h inside j (ltb-true j at p) ∙ e)
      go false true p q = (j + 1, omega (arith, ltb-true j m q), widened_moved a m at x 0 h inside j (ltb-false j at p) (ltb-true j m q) ∙ e)
      go false false p q =
          (most_changes, omega arith, widened_behind a m at x 0 h inside most_changes (omega arith) ∙ f.marks most_changes (omega arith) (omega arith) ∙ sym (f.marks j (ltb-false j m q) l) ∙ e)

  pub inserted : Inserted m x a (widened a m at x)
  inserted = record {
    filled = record {
      size = widened_long a m at x 0 h inside ∙ f.size;
      ascends = λ p q l r. ⊎_elim (λ e. rw e (omega arith)) (λ d. climbs p q (omega arith) r) (same p q);
      marks = λ k p q. ⊎_elim (λ s. absurd (omega arith)) (λ s. s.3 ∙ f.marks s.0 (omega (arith, s.1, s.2)) (omega (arith, s.1))) (stands k);
    };
    put = (at, omega arith, widened_here a m at x 0 h inside);
    kept = stays;
    only = λ k q. ⊎_elim (λ s. inl s.1) (λ s. inr (s.0, omega (arith, s.1), sym s.3)) (stands k);
  }
    where
      climbs : (p q : ℕ) → p < q → q < agenda_size → get_or (widened a m at x) p 0 ≤ get_or (widened a m at x) q 0
      climbs p q l r =
          ⊎_elim
          (λ s. ⊎_elim (λ t. absurd (omega arith)) (λ t. omega (arith, s.1, t.3, above t.0 (omega (arith, s.0, t.2)) (omega (arith, t.1)))) (stands q))
          (λ s. ⊎_elim (λ t. omega (arith, s.3, t.1, low s.0 (omega (arith, s.1, t.0)))) (λ t. omega (arith, s.3, t.3, f.ascends s.0 t.0 (omega (arith, s.1, t.2)) (omega (arith, t.1)))) (stands q))
          (stands p)

-- The changes of events.

-- all numbers of a kind stand in an agenda, before place m, and nothing else but end marks
pub record Plans (C : ℕ → Type 0) (m : ℕ) (a : List ℕ) : Type 0 where
  pub filled : Filled m a
  pub all : (x : ℕ) → C x → Planned a x
  pub only : (j : ℕ) → j < agenda_size → (get_or a j 0 ≡ nothing) ⊎ C (get_or a j 0)

-- One number more, or not.

module _ {C : ℕ → Type 0} {m : ℕ} {a : List ℕ} (p : Plans C m a) where
  same_plans : {D : ℕ → Type 0} → ((x : ℕ) → C x → D x) → ((x : ℕ) → D x → C x) → Plans D m a
  same_plans to from = record { filled = p.filled; all = λ x d. p.all x (from x d); only = λ j l. ⊎_elim inl (λ c. inr (to _ c)) (p.only j l) }

  -- one that P lets be of the kind: where P fails, nothing changes; where it holds, the number is put in
  pub passed : {P : Type 0} {x : ℕ} → (P → ⊥) → Plans (λ y. C y ⊎ (P × (y ≡ x))) m a
  passed not = same_plans (λ y. inl) (λ y. ⊎_elim (λ c. c) (λ q. absurd (not q.0)))

  pub planned : {P : Type 0} {x : ℕ} {b : List ℕ} → P → Inserted m x a b → Plans (λ y. C y ⊎ (P × (y ≡ x))) (m + 1) b
  planned holds i = record {
    filled = i.filled;
    all = λ y. ⊎_elim (λ c. i.kept y (p.all y c)) (λ q. rw q.1 i.put);
    only = λ j l. ⊎_elim (λ e. inr (inr (holds, e))) (λ o. rw (sym o.2) (⊎_elim inl (λ c. inr (inl c)) (p.only o.0 o.1))) (i.only j l);
  }

-- One event more.

-- the changes of the first i events
abbrev pub Changes : ℕ → ℕ → ℕ → List Entry → ℕ → Type 0
Changes clock to i w x = (k : ℕ) × (k < i) × Change clock to (event_at w k) k x

-- and the start of the next, if it is to come
abbrev pub WithStart : ℕ → ℕ → ℕ → List Entry → Bool → ℕ → ℕ → Type 0
WithStart clock to i w coming begins x = Changes clock to i w x ⊎ ((coming ≡ true) × (x ≡ start_at begins i))

pub no_changes : (clock to : ℕ) (w : List Entry) {a : List ℕ} → a ≡ replicate agenda_size nothing → Plans (Changes clock to 0 w) 0 a
no_changes clock to w {a} e =
    let marks : (j : ℕ) → j < agenda_size → get_or a j 0 ≡ nothing = λ j l. rw e (get_or-replicate agenda_size j nothing 0 l) in
    record {
      filled = record {
        size = rw e (length-replicate agenda_size nothing);
        ascends = λ j k l h. omega (arith, marks j (omega arith), marks k h);
        marks = λ j h l. marks j l;
      };
      all = λ x c. absurd (omega (arith, c.1));
      only = λ j l. inl (marks j l);
    }

pub event_more : (clock to i : ℕ) (w : List Entry) {stopped coming : Bool} {begins ends : ℕ} → stopped ≡ (event_at w i).cancelled → begins ≡ (event_at w i).begins
    → coming ≡ (not stopped && (ltb clock begins && leb begins to)) → ends ≡ end_of (event_at w i)
    → (m : ℕ) (a : List ℕ) → Plans (λ x. WithStart clock to i w coming begins x ⊎ ((ends ≤ to) × (x ≡ end_at ends i))) m a → Plans (Changes clock to (i + 1) w) m a
event_more clock to i w {stopped} {coming} {begins} {ends} o b f e m a p =
    same_plans p
    (λ x. ⊎_elim
    (⊎_elim
    (λ c. (c.0, omega (arith, c.1), c.2))
    (λ s. let u = each_true (not stopped) _ (sym f ∙ s.0) in let t = each_true (ltb clock begins) (leb begins to) u.1 in
    (i, omega arith, inl (sym o ∙ not-true stopped u.0, omega (arith, ltb-true clock begins t.0), omega (arith, leb-true begins to t.1), rw b at s.1))))
    (λ s. (i, omega arith, inr (rw e at s.0, rw e at s.1))))
    (λ x c. below_more (λ k. Change clock to (event_at w k) k x → WithStart clock to i w coming begins x ⊎ ((ends ≤ to) × (x ≡ end_at ends i))) i
    (λ k l d. inl (inl (k, l, d)))
    (⊎_elim
    (λ s. inl (inr (f ∙ (rw (o, s.0, b, lt-ltb clock _ s.1, le-leb _ to s.2)), rw b s.3)))
    (λ s. inr (rw e s)))
    c.0 c.1 c.2)

pub agenda_of : {clock to n : ℕ} {w : List Entry} {m : ℕ} {a : List ℕ} → m ≤ most_changes → Plans (Changes clock to n w) m a → Agenda clock to n w a
agenda_of l p = record {
  size = p.filled.size;
  ascends = p.filled.ascends;
  ends = p.filled.marks most_changes l (omega arith);
  all = λ i h x c. p.all x (i, h, c);
  only = p.only;
}

-- Changes taken.

-- the changes from `from` to `next` are before the bound, and m is the set of their places
pub record Taking (a : List ℕ) (from bound m next : ℕ) : Type 0 where
  pub onward : from ≤ next
  pub left : Stops a next bound
  pub below : (j : ℕ) → from ≤ j → j < next → get_or a j 0 < bound
  pub places : (i : ℕ) → (has m i ≡ true) ↔ ((j : ℕ) × (from ≤ j) × (j < next) × (get_or a j 0 % set_width ≡ i))

pub taken_none : {a : List ℕ} {from bound : ℕ} → Stops a from bound → Taking a from bound 0 from
taken_none s = record {
  onward = omega arith;
  left = s;
  below = λ j p q. absurd (omega arith);
  places = λ i. (λ e. not_has 0 i refl e, λ o. absurd (omega arith));
}

pub taken_all : {a : List ℕ} {from bound m next : ℕ} → Taking a from bound m next → bound ≤ get_or a next 0
    → TakenTo a from bound (record { places = m; next = next })
taken_all t h = record { onward = t.onward; inside = omega (arith, t.left); below = t.below; stop = h; places = t.places }

-- one more
module _ {a : List ℕ} {from bound m next : ℕ} (t : Taking a from bound m next) (h : get_or a next 0 < bound) where
  -- its place
  abbrev here : ℕ
  here = get_or a next 0 % set_width

  -- that which stops is not this one
  left_more : Stops a (next + 1) bound
  left_more =
      let l = t.left in
      (l.0, by_contra (next + 1) l.0 (λ q. let e : l.0 ≡ next = omega (arith, l.1) in omega (arith, rw e at l.3)), l.2, l.3)

  -- a place that it has is that of one before, or this
  old_or_here : (i : ℕ) → has m i || has (2 ^ here) i ≡ true → (j : ℕ) × (from ≤ j) × (j < next + 1) × (get_or a j 0 % set_width ≡ i)
  old_or_here i e = go (has m i) refl
    where
      go : (b : Bool) → has m i ≡ b → (j : ℕ) × (from ≤ j) × (j < next + 1) × (get_or a j 0 % set_width ≡ i)
      go true p = let o = (t.places i).0 p in (o.0, o.1, omega (arith, o.2), o.3)
      go false p = (next, t.onward, omega arith, sym (has_only here i (rw p at e)))

  pub taken_more : Taking a from bound (bit_or m (2 ^ here)) (next + 1)
  unfolding join
  taken_more = record {
    onward = omega (arith, t.onward);
    left = left_more;
    below = λ j p l. below_more (λ k. from ≤ k → get_or a k 0 < bound) next (λ k l p. t.below k p l) (λ p. h) j l p;
    places = λ i. (
      λ e. old_or_here i (rw has_join at e),
      λ o. rw has_join
          (below_more (λ k. from ≤ k → get_or a k 0 % set_width ≡ i → has m i || has (2 ^ here) i ≡ true) next
          (λ k l p e. rw ((t.places i).1 (k, p, l, e)))
          (λ p e. rw (e, has_self, or-true))
          o.0 o.2 o.1 o.3),
    );
  }

-- What an agenda says of the moments: the next one, what ends and what starts in it, and where the changes after it stand.

-- the numbers below the bound stand before k, the others from k on
pub record Divided (a : List ℕ) (bound k : ℕ) : Type 0 where
  pub inside : k < agenda_size
  pub past : (j : ℕ) → j < k → get_or a j 0 < bound
  pub coming : (j : ℕ) → k ≤ j → j < agenda_size → bound ≤ get_or a j 0

-- the changes up to the second c lie before k, the others from k on
abbrev pub Reached : List ℕ → ℕ → ℕ → Type 0
Reached a c k = Divided a ((c + 1) * second_width) k

-- start and end of the event in slot i
abbrev begin_of : List Entry → ℕ → ℕ
begin_of w i = (event_at w i).begins

abbrev stopped_of : List Entry → ℕ → Bool
stopped_of w i = (event_at w i).cancelled

abbrev finish_of : List Entry → ℕ → ℕ
finish_of w i = end_of (event_at w i)

module _ {clock to n : ℕ} {w : List Entry} {a : List ℕ} (g : Agenda clock to n w a) (few : n ≤ most_events) (late : to ≤ last_clock) where
  -- Where numbers stand.

  -- a greater bound, up to what stands at k
  raised : {b c k : ℕ} → Divided a b k → b ≤ c → c ≤ get_or a k 0 → Divided a c k
  raised {k = k} d l h = record {
    inside = d.inside;
    past = λ j p. omega (arith, d.past j p);
    coming = λ j p q. omega (arith, g.ascends k j p q);
  }

  module _ {low high k : ℕ} {p : Taken} (d : Divided a low k) (u : TakenTo a k high p) where
    -- what is taken are the numbers between two bounds
    between : (i : ℕ) → (has p.places i ≡ true) ↔ ((j : ℕ) × (j < agenda_size) × (low ≤ get_or a j 0) × (get_or a j 0 < high) × (get_or a j 0 % set_width ≡ i))
    between i = (
      λ e. let o = (u.places i).0 e in
          let l : o.0 < agenda_size = omega (arith, u.inside, o.2) in
          (o.0, l, d.coming o.0 o.1 l, u.below o.0 o.1 o.2, o.3),
      λ o. (u.places i).1 (
        o.0,
        by_contra k o.0 (λ h. omega (arith, d.past o.0 h, o.2)),
        lt_of_not-le (λ h. omega (arith, g.ascends p.next o.0 h o.1, u.stop, o.3)),
        o.4,
      ),
    )

    after : low ≤ high → Divided a high p.next
    after l = record {
      inside = u.inside;
      past = λ j h. lt_of_not-le (λ q. omega (arith, u.below j (by_contra k j (λ m. omega (arith, d.past j m))) h));
      coming = λ j h q. omega (arith, g.ascends p.next j h q, u.stop);
    }

  -- Moments.

  -- at the clock, all changes are to come
  pub begin : clock ≤ to → ((i : ℕ) → i < n → clock < finish_of w i) → Reached a clock 0
  begin h lasting = record {
    inside = omega arith;
    past = λ j p. absurd (omega arith);
    coming = λ j p q. ⊎_elim (λ e. omega arith) (λ o. ⊎_elim (λ s. omega arith) (λ e. omega (arith, lasting o.0 o.1)) o.2) (g.only j q);
  }

  -- the next moment: of the change at k
  module _ {c k t : ℕ} (r : Reached a c k) (from : clock ≤ c) (e : t ≡ get_or a k 0 / second_width) where
    pub later : c < t
    later = omega (arith, r.coming k (omega arith) r.inside)

    -- a change after c is not before that at k
    not_before : (x : ℕ) → Planned a x → (c + 1) * second_width ≤ x → get_or a k 0 ≤ x
    not_before x p l = omega (arith, p.2, g.ascends k p.0 (by_contra k p.0 (λ h. omega (arith, r.past p.0 h, p.2))) p.1)

    pub no_start : (i : ℕ) → i < n → stopped_of w i ≡ false → c < begin_of w i → begin_of w i ≤ to → t ≤ begin_of w i
    no_start i l o p q = omega (arith, not_before _ (g.all i l _ (inl (o, omega arith, q, refl))) (omega arith))

    pub no_end : (i : ℕ) → i < n → c < finish_of w i → finish_of w i ≤ to → t ≤ finish_of w i
    no_end i l p q = omega (arith, not_before _ (g.all i l _ (inr (q, refl))) (omega arith))

    -- a second before it passes no change
    pub reach_quiet : c + 1 < t → Reached a (c + 1) k
    reach_quiet h = raised r (omega arith) (omega arith)

    -- if it is up to the reading, then what ends in it, and then what starts
    module _ (soon : t ≤ to) where
      pub stops_ends : Stops a k (t * second_width + set_width)
      stops_ends = (most_changes, omega (arith, r.inside), omega arith, omega (arith, g.ends))

      reached : Divided a (t * second_width) k
      reached = raised r (omega (arith, later)) (omega arith)

      -- a number before the next second is a change of the event whose place it has
      of_event : (j i : ℕ) → j < agenda_size → get_or a j 0 < t * second_width + second_width → get_or a j 0 % set_width ≡ i
          → (i < n) × Change clock to (event_at w i) i (get_or a j 0)
      of_event j i l h m =
          ⊎_elim (λ z. absurd (omega arith))
          (λ o. let e : o.0 ≡ i = ⊎_elim (λ s. omega arith) (λ f. omega arith) o.2 in
          subst (λ x. (x < n) × Change clock to (event_at w x) x (get_or a j 0)) e (o.1, o.2))
          (g.only j l)

      module _ {p : Taken} (u : TakenTo a k (t * second_width + set_width) p) where
        pub stops_starts : Stops a p.next (t * second_width + second_width)
        stops_starts = (most_changes, omega (arith, u.inside), omega arith, omega (arith, g.ends))

        pub ending : SetOf n (λ i. finish_of w i ≡ t) p.places
        ending i = (
          λ h. let o = (between reached u i).0 h in
              let v = of_event o.0 i o.1 (omega (arith, o.3)) o.4 in
              (v.0, ⊎_elim (λ s. absurd (omega arith)) (λ f. omega arith) v.1),
          λ h. let o = g.all i h.0 _ (inr (omega (arith, h.1), refl)) in
              (between reached u i).1 (o.0, o.1, omega (arith, o.2, h.1), omega (arith, o.2, h.1), omega (arith, o.2)),
        )

        started : Divided a (t * second_width + set_width) p.next
        started = after reached u (omega arith)

        module _ {s : Taken} (v : TakenTo a p.next (t * second_width + second_width) s) where
          pub starting : SetOf n (λ i. (begin_of w i ≡ t) × (stopped_of w i ≡ false)) s.places
          starting i = (
            λ h. let o = (between started v i).0 h in
                let q = of_event o.0 i o.1 o.3 o.4 in
                (q.0, ⊎_elim (λ f. (omega arith, f.0)) (λ f. absurd (omega arith)) q.1),
            λ h. let o = g.all i h.0 _ (inl (h.1.1, omega (arith, h.1.0, later), omega (arith, h.1.0), refl)) in
                (between started v i).1 (o.0, o.1, omega (arith, o.2, h.1.0), omega (arith, o.2, h.1.0), omega (arith, o.2)),
          )

          pub reach_next : Reached a t s.next
          reach_next = raised (after started v (omega arith)) (omega arith) (omega (arith, v.stop))
