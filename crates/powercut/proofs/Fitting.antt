-- After calls that fit, every field of the schedule fits. Calls give programs and events, which are kept as they came; a held mask lies within the
-- controls, and an effective start before the effective end.
use mathlib.Core.Path.{◌≡◌, refl}
use mathlib.Core.Logic.{inl, inr, ⊎_elim}
use Prim.Native.Nat.{ℕ, zero, suc, ◌-◌}
use mathlib.Core.Bool.{Bool, true, false, cond}
use mathlib.Core.List.{List, [], ◌∷◌}
use mathlib.Core.Option.{Option, none, some}
use native.Mathlib.Omega.{arith}
use lib.ListN.{length, replicate}
use borrow.Author.Rules.{rules}
use Rattle.rules.specs.declared.Event.{Event}
use Rattle.rules.specs.declared.Entry.{Entry}
use Rattle.rules.specs.declared.Program.{Program}
use Rattle.rules.specs.declared.Schedule.{Schedule}
use Rattle.rules.specs.Lists.{keep, All}
use Rattle.rules.specs.Records.{State, id_of, most_events, no_entry, fresh, view, pad}
use Rattle.rules.specs.Period.{drawn_start, effective_end}
use Rattle.rules.specs.Holding.{holding_at, with_holding}
use Rattle.rules.specs.Moments.{lasts, entries_from, second, advance}
use Rattle.rules.specs.Sound.{sound}
use Rattle.rules.specs.Refusals.{find}
use Rattle.rules.specs.Calls.{program, event, cancellation, decision, question, Call, bare, set_clock, list, entry_id, entry, mark, decide, receive, program_of, does, refusal, accepts, accepted, refused, call, run}
use Rattle.rules.specs.Arrival.{after}
use Rattle.rules.specs.Clauses.{ImageKept}
use Rattle.rules.proofs.ListLaws.{in_keep, all_map, in_insert, in_set, in_append, in_take, in_replicate}
use Rattle.rules.proofs.Masks.{within_below}
use Rattle.rules.proofs.Entries.{FitsEvent, FitsEntry, none_fits}
use Rattle.rules.proofs.Images.{FitsProgram, FitsSchedule, fresh_fits, image_kept}
use Rattle.rules.proofs.SoundState.{SoundEntry, Sound, sound_pad, sound_view}
use Rattle.rules.proofs.SoundKept.{sound_does, sound_fresh, sound_call}
use Rattle.powercut.specs.PowerCut.{FieldsFit, Fits}

-- what calls bring to a state
pub record FitsState (s : State) : Type 0 where
  pub programs : All FitsProgram s.programs
  pub events : All (λ h. FitsEvent h.event) s.entries

event_fits : (e : Event) → FieldsFit e → FitsEvent e
event_fits e f = search rules

-- the rest of a sound entry fits if its event does
entry_fits : (ps : List Program) (clock : ℕ) (h : Entry) → SoundEntry ps clock h → FitsEvent h.event → FitsEntry h
unfolding effective_end drawn_start
entry_fits ps clock h v f = record {
  event = f;
  begins = omega (arith, v.short, f.start, f.duration);
  held = omega (arith, within_below h.held h.event.controls v.within, f.controls);
}

fits_pad : (s : State) → Sound s → FitsState s → FitsSchedule (pad s)
fits_pad s v f = record {
  programs = f.programs;
  entries = λ h m. ⊎_elim (λ k. entry_fits s.programs s.clock h (v.entries h k) (f.events h k))
      (λ k. rw (in_replicate h no_entry (most_events - length s.entries) k) none_fits)
      (in_append h s.entries (replicate (most_events - length s.entries) no_entry) m);
}

fits_view : (s : Schedule) → FitsSchedule s → FitsState (view s)
fits_view s f = record { programs = f.programs; events = λ h m. (f.entries h (in_take h s.count s.entries m)).event }

fits_advance : (n : ℕ) (s : State) → FitsState s → FitsState (advance n s).state
unfolding advance second entries_from
fits_advance zero s f = f
fits_advance (suc n) s f =
    let t = suc s.clock in
    fits_advance n (second s).state (record {
      programs = f.programs;
      events = all_map (λ h. FitsEvent h.event) (λ h. with_holding h (holding_at s.programs t s.entries h)) (keep (lasts t) s.entries)
          (λ h m. f.events h (in_keep (lasts t) h s.entries m).0);
    })

module _ (s : State) (f : FitsState s) where
  fits_receive : (e : Event) → FieldsFit e → (o : Option Entry) → FitsState (receive s e o)
  fits_receive e g none = record {
    programs = f.programs;
    events = λ h m. ⊎_elim (λ q. rw q (event_fits e g)) (λ k. f.events h k) (in_insert entry_id (entry s.clock e) h s.entries m);
  }
  fits_receive e g (some h) = f

  fits_does : (c : Call) → Fits c → FitsState (does s c).state
  unfolding does
  fits_does (bare (program n p d)) g = record {
    programs = λ q m. ⊎_elim (λ e. rw e (record { primacy = g.1; defaults = g.2 })) (λ k. f.programs q k) (in_set q (program_of p d) n s.programs m);
    events = f.events;
  }
  fits_does (bare (event e)) g = fits_receive e g (find (id_of e) s.entries)
  fits_does (bare (cancellation i)) g = record { programs = f.programs; events = all_map (λ h. FitsEvent h.event) (mark i) s.entries f.events }
  fits_does (bare (decision i out)) g = record { programs = f.programs; events = all_map (λ h. FitsEvent h.event) (decide i out) s.entries f.events }
  fits_does (set_clock t b) g = fits_advance (t - s.clock) s f
  fits_does (bare (question c)) g = f
  fits_does (list r) g = f

-- a schedule that keeps the rules and whose fields fit
pub record Storable (s : Schedule) : Type 0 where
  pub rules : sound s ≡ true
  pub fits : FitsSchedule s

-- every call that fits leaves one
pub storable_call : (s : Schedule) → Storable s → (c : Call) → Fits c → Storable (call s c).state
unfolding call refusal
storable_call s v c g = record { rules = sound_call s v.rules c; fits = go (accepts s c) refl }
  where
    go : (b : Bool) → accepts s c ≡ b → FitsSchedule (cond b (accepted (does (view s) c)) (refused s c)).state
    go true ok =
        fits_pad (does (view s) c).state (sound_does (view s) (sound_view s v.rules) c (rw v.rules at ok)) (fits_does (view s) (fits_view s v.fits) c g)
    go false _ = v.fits

storable_run : (cs : List Call) → All Fits cs → (s : Schedule) → Storable s → Storable (run s cs)
unfolding run
storable_run [] f s v = v
storable_run (c ∷ cs) f s v = storable_run cs (λ d m. f d (inr m)) (call s c).state (storable_call s v c (f c (inl refl)))

pub storable_fresh : Storable (pad fresh)
storable_fresh = record { rules = sound_pad fresh sound_fresh; fits = fresh_fits }

pub storable_after : (cs : List Call) → All Fits cs → Storable (after cs)
storable_after cs f = storable_run cs f (pad fresh) storable_fresh

-- it is read again from its image
pub stored : (s : Schedule) → Storable s → ImageKept s
stored s v = image_kept s v.rules v.fits
