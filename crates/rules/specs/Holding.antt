-- Who holds a control, from one moment to the next.
use Rattle.std.specs.Prelude.{ℕ, Bool, false, cond, not, ◌&&◌, ◌||◌, List, [], ◌∷◌, leb, ltb, eqb}
use Rattle.rules.specs.declared.Program.{Program}
use Rattle.rules.specs.declared.Event.{Event}
use Rattle.rules.specs.declared.Entry.{Entry}
use Rattle.rules.specs.Records.{id_of, cut, join, program_at}
use Rattle.rules.specs.Period.{effective_end}

-- what decides between two events
pub record Rank : Type 0 where
  pub primacy : ℕ
  pub created : ℕ
  pub id : ℕ

abbrev pub rank_of : List Program → Event → Rank
rank_of ps e = record { primacy = (program_at ps e.program).primacy; created = e.created; id = id_of e }

-- x below y; where they are equal, as the next key says
unfoldable pub key : ℕ → ℕ → Bool → Bool
key x y next = ltb x y || (eqb x y && next)

-- Who holds a control, better: lower primacy, then later creation time, then larger id
unfoldable pub better : Rank → Rank → Bool
better a b = key a.primacy b.primacy (key b.created a.created (ltb b.id a.id))

abbrev pub end_of : Entry → ℕ
end_of h = effective_end h.event

-- Who holds a control, from the effective start to the effective end: what the event would hold at moment t if it were the best. All that it carries
-- when it starts, later only what it held a second before (`h.held`), and nothing from its end on, so that ends come before starts.
unfoldable pub claim : ℕ → Entry → ℕ
claim t h =
    cond (h.cancelled || leb (end_of h) t || ltb t h.begins) 0
    (cond (eqb h.begins t) h.event.controls h.held)

-- what better events claim at moment t. The best of the claimants holds, so this is what better events hold (law `blocks_nobody`: one that holds nothing takes nothing).
unfoldable pub taken : List Program → ℕ → List Entry → Entry → ℕ
taken ps t [] h = 0
taken ps t (o ∷ os) h = join (cond (better (rank_of ps o.event) (rank_of ps h.event)) (claim t o) 0) (taken ps t os h)

-- Who holds a control, holds: what the event claims at moment t and no better event takes
unfoldable pub held_at : List Program → ℕ → List Entry → Entry → ℕ
held_at ps t hs h = cut (claim t h) (taken ps t hs h)

-- what an event carries from one moment to the next: the controls that it holds; document 02, #102: whether the user was in for a second in which it held
-- something, and whether the user was out for one
pub record Holding : Type 0 where
  pub held : ℕ
  pub was_in : Bool
  pub was_out : Bool

-- what it carries before it starts
abbrev pub no_holding : Holding
no_holding = record { held = 0; was_in = false; was_out = false }

-- Document 02, #102, a choice made at clock k counts for the seconds from k + 1 on: a second in which the event holds something sets one of the two marks, by
-- the choice that stood after the calls of the clock before (`h.choice.out`). The start second is one of them.
abbrev pub carry : Entry → ℕ → Holding
carry h held =
    record {
      held = held;
      was_in = h.choice.was_in || (not (eqb held 0) && not h.choice.out);
      was_out = h.choice.was_out || (not (eqb held 0) && h.choice.out);
    }

unfoldable pub holding_at : List Program → ℕ → List Entry → Entry → Holding
holding_at ps t hs h = carry h (held_at ps t hs h)

abbrev pub with_holding : Entry → Holding → Entry
with_holding h k =
    record {
      event = h.event;
      begins = h.begins;
      held = k.held;
      cancelled = h.cancelled;
      choice = record { out = h.choice.out; was_in = k.was_in; was_out = k.was_out };
    }

-- an entry after a second in which it holds what it held before
abbrev pub remarked : Entry → Entry
remarked h = with_holding h (carry h h.held)
