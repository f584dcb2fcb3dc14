-- Walks over a set of places, one event after the other. An event contends with those that hold something; rows are written; controls are let go; events begin. Those of `rest` have not had their turn.
use mathlib.Core.Path.{◌≡◌, refl, sym, ap, ◌∙◌, fun_ext, subst}
use mathlib.Core.Logic.{◌↔◌, ⊎_elim}
use Prim.Native.Nat.{ℕ, ◌<◌, ◌+◌, ◌≤◌}
use mathlib.Core.Bool.{Bool, true, false, cond, not, ◌&&◌, and-true, and-false}
use mathlib.Core.List.{List, [], ◌∷◌, ◌++◌, map, append_assoc, append-nil}
use lib.Bits.{bit_and}
use lib.Dec.{eqb}
use borrow.Author.Tests.{eqb-true, eqb-false, eq-eqb, ne_eqb}
use native.Mathlib.Omega.{arith}
use lib.ListN.{length, length-append, length-set, set}
use lib.Seq.{get_or-set_same, get_or-set_other}
use Rattle.rules.specs.declared.Entry.{Entry}
use Rattle.rules.specs.declared.Program.{Program}
use Rattle.rules.specs.Records.{has, cut, id_of, most_events, most_rows}
use Rattle.rules.specs.Holding.{Rank, better, rank_of, with_holding}
use Rattle.rules.specs.Rows.{Row}
use Rattle.rules.proofs.Tests.{both, each_true}
use Rattle.rules.proofs.Masks.{has_and, has_cut, has_none, not_has, cut_none, cut_apart, no_bits}
use Rattle.rules.proofs.ListLaws.{keep_no}
use Rattle.calls.specs.declared.held.Head.{Head}
use Rattle.calls.specs.Sets.{blank, event_at, mask_at, rank_in, Lowest, Holders, masked, counting, Masked, Kept, MasksOnly, SameFrom, HoldingsOnly, holding_of, SecondCounted, places_to, kind_code, set_rows}
use Rattle.calls.specs.Settled.{Comes, Contended, Settled, Contends}
use Rattle.calls.specs.Written.{Written}
use Rattle.calls.specs.Moment.{CanStart, Started, Released}
use Rattle.calls.proofs.Contending.{same, one_more}
use Rattle.calls.proofs.Sets.{still, or_lowest, holders_kept, in_order}
use Rattle.calls.proofs.Puts.{no_row, rows_then}

-- An event contends.

-- Masks changed, one after the other.

module _ {old now : List Entry} (m : MasksOnly old now) where
  pub same_event_lem : (j : ℕ) → (event_at now j).event ≡ (event_at old j).event
  same_event_lem j = ap (λ h. h.event) (m.each j)

  pub same_rank : (ps : List Program) (j : ℕ) → rank_in ps now j ≡ rank_in ps old j
  same_rank ps j = ap (rank_of ps) (same_event_lem j)

  pub masks_then : {i mask : ℕ} {new : List Entry} → Masked i mask now new → MasksOnly old new
  masks_then {i} {mask} {new} p = record { size = p.size; each = λ j. ⊎_elim (λ q. rw q here) (λ d. there j d) (same j i) }
    where
      here : event_at new i ≡ masked (event_at old i) (mask_at new i)
      here = p.here ∙ ap (λ h. masked h mask) (m.each i) ∙ ap (λ x. masked (event_at old i) x) (sym (ap (λ h. h.held) p.here))

      there : (j : ℕ) → (j ≡ i → ⊥) → event_at new j ≡ masked (event_at old j) (mask_at new j)
      there j d =
          let e = p.others j d in
          e ∙ m.each j ∙ ap (λ x. masked (event_at old j) x) (sym (ap (λ h. h.held) e))

pub masks_trans : {old now new : List Entry} → MasksOnly old now → MasksOnly now new → MasksOnly old new
masks_trans {new = new} p q = record { size = q.size; each = λ j. q.each j ∙ ap (λ h. masked h (mask_at new j)) (p.each j) }

-- What events carry changed, one after the other.

pub held_event : {old now : List Entry} → HoldingsOnly old now → (j : ℕ) → (event_at now j).event ≡ (event_at old j).event
held_event m j = ap (λ h. h.event) (m.each j)

pub masks_holdings : {old now : List Entry} → MasksOnly old now → HoldingsOnly old now
masks_holdings {old} {now} m = record { size = m.size; each = λ j. m.each j ∙ ap (λ h. with_holding (event_at old j) (holding_of h)) (sym (m.each j)) }

pub holdings_trans : {old now new : List Entry} → HoldingsOnly old now → HoldingsOnly now new → HoldingsOnly old new
holdings_trans {new = new} p q = record { size = q.size; each = λ j. q.each j ∙ ap (λ h. with_holding h (holding_of (event_at new j))) (p.each j) }

-- what a place has in the end that a claim comes to: all that it had if it is better, else what is not claimed
abbrev against : (ℕ → Rank) → ℕ → ℕ → (ℕ → ℕ) → ℕ → ℕ
against rank i claim masks j = cond (better (rank j) (rank i)) (masks j) (cut (masks j) claim)

pub record Contesting (d : Head) (i : ℕ) (old : List Entry) (holding : ℕ) (now : List Entry) (left after rest : ℕ) : Type 0 where
  pub comes : Comes d old holding i
  pub within : (j : ℕ) → has rest j ≡ true → has holding j ≡ true
  pub masks : MasksOnly old now
  pub behind : SameFrom d.count old now
  pub holders : Holders d.count now after
  pub own : mask_at now i ≡ 0
  pub met : (j : ℕ) → j < d.count → (j ≡ i → ⊥) → has rest j ≡ false → mask_at now j ≡ against (rank_in d.programs old) i (event_at old i).event.controls (mask_at old) j
  pub unmet : (j : ℕ) → has rest j ≡ true → mask_at now j ≡ mask_at old j
  pub claim : (k : ℕ) → (has left k ≡ true) ↔ ((has (event_at old i).event.controls k ≡ true)
      × ((o : ℕ) → o < d.count → has rest o ≡ false → has (mask_at old o) k ≡ true → better (rank_in d.programs old o) (rank_in d.programs old i) ≡ false))

module _ {d : Head} {i : ℕ} {old : List Entry} {holding : ℕ} (c : Comes d old holding i) where
  -- who is no holder has nothing
  nothing_there : (j : ℕ) → j < d.count → has holding j ≡ false → mask_at old j ≡ 0
  nothing_there j l e = go (eqb (mask_at old j) 0) refl
    where
      go : (b : Bool) → eqb (mask_at old j) 0 ≡ b → mask_at old j ≡ 0
      go true q = eqb-true (mask_at old j) 0 q
      go false q = both (has holding j) ((c.held.holders j).1 (l, eqb-false (mask_at old j) 0 q)) e

  pub none_met : Contesting d i old holding old (event_at old i).event.controls holding holding
  none_met = record {
    comes = c;
    within = λ j e. e;
    masks = record { size = c.held.used.size; each = λ j. refl };
    behind = λ j l. refl;
    holders = c.held.holders;
    own = c.empty;
    met = λ j l q e. let z = nothing_there j l e in z ∙ sym (rw z (none (better (rank_in d.programs old j) (rank_in d.programs old i))));
    unmet = λ j e. refl;
    claim = λ k. (λ e. (e, λ o l h m. not_has (mask_at old o) k (nothing_there o l h) m), λ q. q.0);
  }
    where
      none : (b : Bool) → cond b 0 (cut 0 (event_at old i).event.controls) ≡ 0
      none true = refl
      none false = cut_none _

-- One holder more is met.

module _ {d : Head} {i : ℕ} {old : List Entry} {holding : ℕ} {now : List Entry} {left held rest : ℕ} (c : Contesting d i old holding now left held rest) {at later : ℕ} (low : Lowest rest at later) where
  abbrev ps : List Program
  ps = d.programs

  abbrev carried : ℕ
  carried = (event_at old i).event.controls

  holds_some : (at < d.count) × (mask_at old at ≡ 0 → ⊥)
  holds_some = (c.comes.held.holders at).0 (c.within at low.here)

  pub met_below : at < d.count
  met_below = holds_some.0

  another : i ≡ at → ⊥
  another e = holds_some.1 (ap (mask_at old) (sym e) ∙ c.comes.empty)

  -- its mask is what it was
  pub met_mask : mask_at now at ≡ mask_at old at
  met_mask = c.unmet at low.here

  module _ (new : List Entry) (left' held' : ℕ) (masks : MasksOnly old new) (behind : SameFrom d.count old new) (holders : Holders d.count new held')
      (here : mask_at new at ≡ against (rank_in ps old) i carried (mask_at old) at) (others : (j : ℕ) → (j ≡ at → ⊥) → mask_at new j ≡ mask_at now j)
      (claim : (k : ℕ) → (has left' k ≡ true) ↔ ((has left k ≡ true) × (has (mask_at old at) k ≡ true → better (rank_in ps old at) (rank_in ps old i) ≡ false))) where
    meets : Contesting d i old holding new left' held' later
    meets = record {
      comes = c.comes;
      within = λ j e. c.within j (still low j e);
      masks = masks;
      behind = behind;
      holders = holders;
      own = others i another ∙ c.own;
      met = λ j l q e. ⊎_elim (λ z. rw z here) (λ z. others j (λ y. both (has rest j) (rw y low.here) z) ∙ c.met j l q z) (or_lowest low j e);
      unmet = λ j e. others j (λ y. both (has later j) e (rw y low.gone)) ∙ c.unmet j (still low j e);
      claim = λ k. (
        λ e. let q = (claim k).0 e in let z = (c.claim k).0 q.0 in
            (z.0, λ o l h m. ⊎_elim (λ y. rw y (q.1 (rw y at m))) (λ y. z.1 o l y m) (or_lowest low o h)),
        λ q. (claim k).1 (
          (c.claim k).1 (q.0, λ o l h m. q.1 o l (low.others o (λ y. both (has rest o) (rw y low.here) h) ∙ h) m),
          λ m. q.1 at met_below low.gone m,
        ),
      );
    }

  -- it has nothing that is claimed
  pub passes : bit_and carried (mask_at old at) ≡ 0 → Contesting d i old holding now left held later
  passes e = meets now left held c.masks c.behind c.holders (met_mask ∙ go (better (rank_in ps old at) (rank_in ps old i))) (λ j q. refl) (λ k.
      (λ h. (h, λ m. apart k ((c.claim k).0 h).0 m), λ q. q.0))
    where
      apart : {P : Type 0} (k : ℕ) → has carried k ≡ true → has (mask_at old at) k ≡ true → P
      apart k p q = not_has (bit_and carried (mask_at old at)) k e (has_and carried (mask_at old at) k ∙ (rw (p, q)))

      go : (b : Bool) → mask_at old at ≡ cond b (mask_at old at) (cut (mask_at old at) carried)
      go true = refl
      go false = sym (cut_apart (mask_at old at) carried (λ k p q. apart k q p))

  -- it is better, and keeps what it has
  pub yields : better (rank_in ps old at) (rank_in ps old i) ≡ true → Contesting d i old holding now (cut left (mask_at old at)) held later
  yields e = meets now _ held c.masks c.behind c.holders (met_mask ∙ sym (rw e)) (λ j q. refl) (λ k. rw (has_cut left (mask_at old at) k, e) (go k (has (mask_at old at) k) refl))
    where
      go : (k : ℕ) (b : Bool) → has (mask_at old at) k ≡ b → ((has left k && not b) ≡ true) ↔ ((has left k ≡ true) × (b ≡ true → true ≡ false))
      go k b h = (λ p. let q = each_true (has left k) (not b) p in (q.0, λ z. both true refl (rw z at (sym q.1))), λ q. last b q.0 q.1)
        where
          last : (b : Bool) → has left k ≡ true → (b ≡ true → true ≡ false) → (has left k && not b) ≡ true
          last true p f = both true refl (f refl)
          last false p f = rw p

  -- it is not better, and loses what is claimed
  pub takes : {new : List Entry} {held' : ℕ} → better (rank_in ps old at) (rank_in ps old i) ≡ false → Masked at (cut (mask_at old at) carried) now new
      → Kept at (cut (mask_at old at) carried) held held' → Contesting d i old holding new left held' later
  takes {new} {held'} e p q = meets new left held' (masks_then c.masks p) (λ j l. p.others j (λ z. omega (arith, met_below)) ∙ c.behind j l) (holders_kept held at _ c.holders met_below p q)
      (ap (λ h. h.held) p.here ∙ sym (rw e)) (λ j n. ap (λ h. h.held) (p.others j n)) (λ k. (λ h. (h, λ m. e), λ z. z.0))

-- All are met, and the event has what is left.
pub contended : {d : Head} {i : ℕ} {old : List Entry} {holding : ℕ} {now : List Entry} {left held rest : ℕ} → Contesting d i old holding now left held rest → rest ≡ 0
    → {new : List Entry} {held' : ℕ} → Masked i left now new → Kept i left held held' → Contended d i old new held'
contended {d} {i} {old} {holding} {now} {left} {held} {rest} c e {new} {held'} p q =
    let none : (j : ℕ) → has rest j ≡ false = λ j. ap (λ m. has m j) e ∙ has_none j in
    record {
      masks = masks_then c.masks p;
      behind = λ j l. p.others j (λ z. omega (arith, c.comes.below)) ∙ c.behind j l;
      holders = holders_kept held i left c.holders c.comes.below p q;
      contends = record {
        others = λ j l n. ap (λ h. h.held) (p.others j n) ∙ c.met j l n (none j);
        own = λ k. let f = ap (λ h. has h.held k) p.here in (
          λ h. let z = (c.claim k).0 (sym f ∙ h) in (z.0, λ o l m. z.1 o l (none o) m),
          λ h. f ∙ (c.claim k).1 (h.0, λ o l n m. h.1 o l m),
        );
      };
    }

-- Turns.

-- who is in a set and has had its turn
abbrev turned : ℕ → ℕ → ℕ → Bool
turned set rest i = has set i && not (has rest i)

no_turns : (set i : ℕ) → turned set set i ≡ false
no_turns set i = go (has set i)
  where
    go : (b : Bool) → (b && not b) ≡ false
    go true = refl
    go false = refl

all_turned : (set rest i : ℕ) → rest ≡ 0 → turned set rest i ≡ has set i
all_turned set rest i e = rw (e, has_none, and-true)

module _ (set : ℕ) {rest : ℕ} {place later : ℕ} (low : Lowest rest place later) where
  its_turn : has set place ≡ true → turned set later place ≡ true
  its_turn e = rw (e, low.gone)

  not_its_turn : (i : ℕ) → (i ≡ place → ⊥) → turned set later i ≡ turned set rest i
  not_its_turn i d = rw (low.others i d)

-- Rows.

module _ (t kind : ℕ) (slots : List Entry) (set : ℕ) where
  -- the rows done and those of `rest` make up those of the set
  pub record Reporting (old : List ℕ) (from : ℕ) (rows : List ℕ) (at rest : ℕ) : Type 0 where
    pub within : (k : ℕ) → has rest k ≡ true → k < most_events
    pub done : List Row
    pub written : Written old from rows at done
    pub whole : done ++ set_rows t kind slots rest ≡ set_rows t kind slots set

  pub none_reported : (old : List ℕ) (from : ℕ) → ((k : ℕ) → has set k ≡ true → k < most_events) → Reporting old from old from set
  none_reported old from w = record { within = w; done = []; written = no_row old from; whole = refl }

  -- the row of the event at a place
  abbrev row_at : ℕ → Row
  row_at i = record { time = t; id = id_of (event_at slots i).event; code = kind_code kind (event_at slots i) }

  module _ {old rows : List ℕ} {from at rest : ℕ} (c : Reporting old from rows at rest) {place later : ℕ} (low : Lowest rest place later) where
    pub next_place : place < most_events
    next_place = c.within place low.here

    -- the next row, and then those of the others
    rows_in_order : set_rows t kind slots rest ≡ row_at place ∷ set_rows t kind slots later
    rows_in_order = ap (map row_at) (in_order low most_events next_place)

    pub has_room : from + length (set_rows t kind slots set) ≤ most_rows → at < most_rows
    has_room l = omega (arith, c.written.count, length-append c.done (set_rows t kind slots rest), ap length c.whole, ap length rows_in_order)

    pub report_next : {more : List ℕ} → Written rows at more (at + 1) (row_at place ∷ []) → Reporting old from more (at + 1) later
    report_next w = record {
      within = λ k e. c.within k (still low k e);
      done = c.done ++ (row_at place ∷ []);
      written = rows_then c.written w;
      whole = append_assoc c.done (row_at place ∷ []) (set_rows t kind slots later) ∙ ap (λ z. c.done ++ z) (sym rows_in_order) ∙ c.whole;
    }

  pub all_reported : {old rows : List ℕ} {from at rest : ℕ} → Reporting old from rows at rest → rest ≡ 0 → Written old from rows at (set_rows t kind slots set)
  all_reported {rest = rest} c e =
      let none : set_rows t kind slots rest ≡ [] = ap (map row_at) (keep_no (has rest) (places_to most_events) (λ i m. rw (e, has_none))) in
      rw (← c.whole, none, append-nil) c.written

-- Controls let go.

pub record Releasing (ended holding : ℕ) (old new : List Entry) (now rest : ℕ) : Type 0 where
  pub within : (k : ℕ) → has rest k ≡ true → has ended k ≡ true
  pub masks : MasksOnly old new
  pub released : (i : ℕ) → mask_at new i ≡ cond (turned ended rest i) 0 (mask_at old i)
  pub holders : (i : ℕ) → has now i ≡ (has holding i && not (turned ended rest i))

pub none_released : (ended holding : ℕ) (old : List Entry) → length old ≡ most_events → Releasing ended holding old old holding ended
none_released ended holding old s = record {
  within = λ k e. e;
  masks = record { size = s; each = λ j. refl };
  released = λ i. rw (no_turns ended i);
  holders = λ i. rw (no_turns ended i) (sym (and-true (has holding i)));
}

pub release_next : {ended holding now rest : ℕ} {old new slots : List Entry} {then : ℕ} → Releasing ended holding old new now rest → {place later : ℕ} → Lowest rest place later
    → Masked place 0 new slots → Kept place 0 now then → Releasing ended holding old slots then later
release_next {ended} {holding} {now} {rest} {old} {new} {slots} {then} c {place} {later} low m n = record {
  within = λ k e. c.within k (still low k e);
  masks = masks_then c.masks m;
  released = λ i. ⊎_elim (λ q. rw q (ap (λ h. h.held) m.here ∙ sym (rw turn))) (λ d. ap (λ x. x.held) (m.others i d) ∙ c.released i ∙ (rw (not_its_turn ended low i d))) (same i place);
  holders = λ i. n.each i ∙ ⊎_elim (λ q. rw q (rw (turn, eq-eqb place place refl) (sym (and-false (has holding place))))) (λ d. rw (ne_eqb i place d, not_its_turn ended low i d) (c.holders i)) (same i place);
}
  where
    turn : turned ended later place ≡ true
    turn = its_turn ended low (c.within place low.here)

pub all_released : {ended holding now rest : ℕ} {old new : List Entry} → Releasing ended holding old new now rest → rest ≡ 0 → Released ended holding old new now
all_released {ended} {rest = rest} c e = record {
  masks = c.masks;
  released = λ i. c.released i ∙ (rw (all_turned ended rest i e));
  holders = λ i. c.holders i ∙ (rw (all_turned ended rest i e));
}

-- Seconds counted.

pub record Counting (places : ℕ) (old now : List Entry) (rest : ℕ) : Type 0 where
  pub within : (k : ℕ) → has rest k ≡ true → has places k ≡ true
  pub size : length now ≡ most_events
  pub each : (j : ℕ) → event_at now j ≡ cond (turned places rest j) (counting (event_at old j)) (event_at old j)

pub none_counted : (places : ℕ) (old : List Entry) → length old ≡ most_events → Counting places old old places
none_counted places old s = record { within = λ k e. e; size = s; each = λ j. rw (no_turns places j) }

pub count_next : {places rest : ℕ} {old now : List Entry} → Counting places old now rest → {place later : ℕ} → Lowest rest place later → place < most_events
    → Counting places old (set now place (counting (event_at now place))) later
count_next {places} {rest} {old} {now} c {place} {later} low l = record {
  within = λ k p. c.within k (still low k p);
  size = length-set now place _ ∙ c.size;
  each = λ j. ⊎_elim (λ q. rw q here) (λ d. get_or-set_other now place j _ blank d ∙ c.each j ∙ sym (rw (not_its_turn places low j d))) (same j place);
}
  where
    here : event_at (set now place (counting (event_at now place))) place ≡ cond (turned places later place) (counting (event_at old place)) (event_at old place)
    here =
        let not_yet : turned places rest place ≡ false = rw (c.within place low.here, low.here) in
        get_or-set_same now place _ blank (omega (arith, c.size))
        ∙ ap counting (c.each place ∙ ap (λ b. cond b (counting (event_at old place)) (event_at old place)) not_yet)
        ∙ sym (rw (its_turn places low (c.within place low.here)))

pub all_counted : {places rest : ℕ} {old now : List Entry} → Counting places old now rest → rest ≡ 0 → SecondCounted places old now
all_counted {places} {rest} c e = record { size = c.size; each = λ j. c.each j ∙ (rw (all_turned places rest j e)) }

-- a held second counted changes nothing else, and no mask
pub counted_holdings : {places : ℕ} {old now : List Entry} → SecondCounted places old now → HoldingsOnly old now
counted_holdings {places} {old} {now} c = record { size = c.size; each = λ j. c.each j ∙ go j (has places j) ∙ ap (λ h. with_holding (event_at old j) (holding_of h)) (sym (c.each j)) }
  where
    go : (j : ℕ) (b : Bool) → cond b (counting (event_at old j)) (event_at old j) ≡ with_holding (event_at old j) (holding_of (cond b (counting (event_at old j)) (event_at old j)))
    go j true = refl
    go j false = refl

pub counted_mask : {places : ℕ} {old now : List Entry} → SecondCounted places old now → (j : ℕ) → mask_at now j ≡ mask_at old j
counted_mask {places} {old} c j = ap (λ h. h.held) (c.each j) ∙ go (has places j)
  where
    go : (b : Bool) → (cond b (counting (event_at old j)) (event_at old j)).held ≡ mask_at old j
    go true = refl
    go false = refl

pub counted_holders : {places n : ℕ} (holding : ℕ) {old now : List Entry} → SecondCounted places old now → Holders n old holding → Holders n now holding
counted_holders holding c h i = (
  λ e. let q = (h i).0 e in (q.0, λ z. q.1 (sym (counted_mask c i) ∙ z)),
  λ q. (h i).1 (q.0, λ z. q.1 (counted_mask c i ∙ z)),
)

-- Events that begin.

pub settled_cong : {rank : ℕ → Rank} {n : ℕ} {a b kept : ℕ → ℕ} → ((i : ℕ) → a i ≡ b i) → Settled rank n a kept → Settled rank n b kept
settled_cong {rank} {n} {a} {b} {kept} e s = subst (λ c. Settled rank n c kept) (fun_ext e) s

-- what each claims, where some have begun and the others have what they had
abbrev claims_of : List Entry → (ℕ → Bool) → ℕ → ℕ
claims_of w begun i = cond (begun i) (event_at w i).event.controls (mask_at w i)

pub record Starting (d : Head) (old : List Entry) (holding starting : ℕ) (now : List Entry) (held rest : ℕ) : Type 0 where
  pub can : CanStart d old holding starting
  pub within : (i : ℕ) → has rest i ≡ true → has starting i ≡ true
  pub masks : MasksOnly old now
  pub behind : SameFrom d.count old now
  pub holders : Holders d.count now held
  pub settled : Settled (rank_in d.programs old) d.count (claims_of old (turned starting rest)) (mask_at now)

pub none_started : {d : Head} {old : List Entry} {holding starting : ℕ} → CanStart d old holding starting → Starting d old holding starting old holding starting
none_started {d} {old} {holding} {starting} c = record {
  can = c;
  within = λ i e. e;
  masks = record { size = c.held.used.size; each = λ i. refl };
  behind = λ j l. refl;
  holders = c.held.holders;
  settled = settled_cong (λ i. sym (rw (no_turns starting i))) c.settled;
}

module _ {d : Head} {old : List Entry} {holding starting : ℕ} {now : List Entry} {held rest : ℕ} (c : Starting d old holding starting now held rest) {place later : ℕ} (low : Lowest rest place later) where
  starts : has starting place ≡ true
  starts = c.within place low.here

  start_below : place < d.count
  start_below = (c.can.empty place starts).0

  nothing_yet : claims_of old (turned starting rest) place ≡ 0
  nothing_yet = rw (starts, low.here) (c.can.empty place starts).1

  pub can_come : Comes d now held place
  can_come = record {
    held = record {
      used = record { few = c.can.held.used.few; size = c.masks.size };
      numbered = λ i l. rw (same_event_lem c.masks i) (c.can.held.numbered i l);
      holders = c.holders;
    };
    below = start_below;
    empty = no_bits (mask_at now place) (λ k e. not_has _ k nothing_yet ((c.settled.each place start_below k).0 e).0);
  }

  module _ {new : List Entry} {held' : ℕ} (q : Contended d place now new held') where
    contends : Contends (rank_in d.programs old) d.count place (event_at old place).event.controls (mask_at now) (mask_at new)
    contends =
        subst (λ m. Contends (rank_in d.programs old) d.count place m (mask_at now) (mask_at new)) (ap (λ e. e.controls) (same_event_lem c.masks place))
        (subst (λ r. Contends r d.count place (event_at now place).event.controls (mask_at now) (mask_at new)) (fun_ext (same_rank c.masks d.programs)) q.contends)

    pub start_next : Starting d old holding starting new held' later
    start_next = record {
      can = c.can;
      within = λ i e. c.within i (still low i e);
      masks = masks_trans c.masks q.masks;
      behind = λ j l. q.behind j l ∙ c.behind j l;
      holders = q.holders;
      settled = settled_cong (λ i. go i (eqb i place) refl) (one_more c.settled start_below c.can.distinct (λ k e. not_has _ k nothing_yet e) contends);
    }
      where
        go : (i : ℕ) (b : Bool) → eqb i place ≡ b → cond b (event_at old place).event.controls (claims_of old (turned starting rest) i) ≡ claims_of old (turned starting later) i
        go i true e = let z = eqb-true i place e in rw z (sym (rw (its_turn starting low starts)))
        go i false e = rw (not_its_turn starting low i (eqb-false i place e))

pub all_started : {d : Head} {old : List Entry} {holding starting : ℕ} {now : List Entry} {held rest : ℕ} → Starting d old holding starting now held rest → rest ≡ 0
    → Started d starting old now held
all_started {starting = starting} {rest = rest} c e = record { masks = c.masks; behind = c.behind; holders = c.holders; settled = settled_cong (λ i. rw (all_turned starting rest i e)) c.settled }
