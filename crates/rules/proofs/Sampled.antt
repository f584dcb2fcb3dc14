-- The two sample lists, by evaluation: their histories have the same members. And the lists that miss the premise: theirs do not.
use mathlib.Core.Path.{◌≡◌, refl, sym, ap, ◌∙◌, subst, subst₂, fun_ext}
use mathlib.Core.Logic.{inl, inr}
use Prim.Native.Nat.{ℕ, ◌<◌}
use mathlib.Core.Bool.{Bool, true, false, cond, true≢false}
use native.Mathlib.Omega.{arith}
use mathlib.Core.List.{List, [], ◌∷◌, ◌++◌}
use mathlib.Core.Option.{Option, none, some}
use lib.Dec.{eqb, lit<}
use Rattle.rules.specs.declared.Event.{Event}
use Rattle.rules.specs.Lists.{In}
use Rattle.rules.specs.Records.{id_number, id_from, State, id_of, usable, has, cut, join, fresh, pad}
use Rattle.rules.specs.Period.{drawn_start, effective_end, effective_start}
use Rattle.rules.specs.Holding.{key, better, claim, taken, held_at, holding_at}
use Rattle.rules.specs.Rows.{end_code, code_at, rows_with, rows_from, rows_at}
use Rattle.rules.specs.Moments.{entries_from, second, advance}
use Rattle.rules.specs.Bytes.{big, flat, row_bytes}
use Rattle.rules.specs.Sound.{out_of_range, malformed, same_event}
use Rattle.rules.specs.Refusals.{find, late, program_checks, event_checks, held_checks, clock_checks, ask_checks, list_checks}
use Rattle.rules.specs.Calls.{Call, best_default, holder_in, answer_for, does, checks, call, joined, written}
use Rattle.rules.specs.History.{Added, Chosen, Brought, History, no_history, note, accepted_calls, history_from, history_of}
use Rattle.rules.specs.Arrival.{SameArrivals, InTime, Cancellation, Choices, joined_rows}
use Rattle.rules.specs.Sample.{one, two, three, four, five, plainly, otherwise, compared_hold, Missed, prompt, tardy, cancelled_by, uncancelled, brief, out_by, unchosen, another, redrawn, longer, shorter, ranked, Sample}
use Rattle.rules.specs.ScheduleTable.{histories_hold, history_table}
use Rattle.rules.specs.Marks.{drawn_back, same}
use Rattle.rules.proofs.SoundState.{Sound}
use Rattle.rules.proofs.SoundKept.{sound_fresh}
use Rattle.rules.proofs.Jump.{jumps, next_moment, idle_for}
use Rattle.rules.proofs.Quick.{quick_checks, quick_does, quick_call, call_quick, number_quick, sound_quick, padded}
use Rattle.rules.proofs.Evaluated.{same_self}
use Rattle.rules.proofs.Order.{arrival_order}

-- the accepted calls and the joined rows of the quick run

unfoldable quick_accepted : State → List Call → List Call
quick_accepted s [] = []
quick_accepted s (c ∷ cs) =
    let a = quick_call s c in
    let rest = quick_accepted a.done.state cs in
    cond (eqb a.number 0) (c ∷ rest) rest

unfoldable quick_joined : State → List Call → List ℕ
quick_joined s [] = []
quick_joined s (c ∷ cs) = let a = quick_call s c in written c (padded a) ++ quick_joined a.done.state cs

quick_accepted_lem : (s : State) → Sound s → (cs : List Call) → quick_accepted s cs ≡ accepted_calls (pad s) cs
unfolding quick_accepted accepted_calls id_number id_from
quick_accepted_lem s v [] = refl
quick_accepted_lem s v (c ∷ cs) =
    let n = (quick_call s c).number in
    let rest = (quick_call s c).done.state in
    ap (λ l. cond (eqb n 0) (c ∷ l) l) (quick_accepted_lem rest (sound_quick s v c) cs)
    ∙ ap (λ o. cond (eqb n 0) (c ∷ accepted_calls o.state cs) (accepted_calls o.state cs)) (sym (call_quick s v c))
    ∙ ap (λ k. cond (eqb k 0) (c ∷ accepted_calls (call (pad s) c).state cs) (accepted_calls (call (pad s) c).state cs)) (sym (number_quick s v c))

quick_joined_lem : (s : State) → Sound s → (cs : List Call) → quick_joined s cs ≡ joined (pad s) cs
unfolding quick_joined joined id_number id_from
quick_joined_lem s v [] = refl
quick_joined_lem s v (c ∷ cs) =
    ap (λ w. written c (padded (quick_call s c)) ++ w) (quick_joined_lem (quick_call s c).done.state (sound_quick s v c) cs)
    ∙ ap (λ o. written c o ++ joined o.state cs) (sym (call_quick s v c))

-- The histories.

abbrev deciding : Event → ℕ → Option ℕ → List Chosen → Brought
deciding e r c made = record { event = e; receipt = r; cancelled = c; choices = made }

abbrev brought : Event → ℕ → Option ℕ → Brought
brought e r c = deciding e r c []

abbrev chosen : ℕ → Bool → Chosen
chosen k out = record { clock = k; out = out }

abbrev added : ℕ → ℕ → ℕ → Added
added n p d = record { number = n; primacy = p; defaults = d }

-- the programs, and the receipt clocks of `one`, `two`, `three`, `four`, `five`
abbrev history : List Added → ℕ → ℕ → ℕ → ℕ → ℕ → History
history ps r1 r2 r3 r4 r5 =
    record {
      programs = ps;
      brought =
          brought one r1 (some 12) ∷ deciding three r3 none (chosen 39 true ∷ []) ∷ deciding two r2 none (chosen 17 true ∷ [])
          ∷ deciding four r4 none (chosen 18 false ∷ chosen 17 true ∷ []) ∷ brought five r5 none ∷ [];
      last = 42;
    }

abbrev first : Added
first = added 0 1 1

abbrev other : Added
other = added 1 2 0

-- what the accepted calls of a list bring, by the quick run
abbrev quick_history : List Call → History
quick_history cs = history_from no_history (quick_accepted fresh cs)

history_quick : (cs : List Call) → history_of cs ≡ quick_history cs
history_quick cs = ap (history_from no_history) (sym (quick_accepted_lem fresh sound_fresh cs))

histories_evaluate : histories_hold quick_history history_table ≡ true
unfolding histories_hold history_table history_from note quick_accepted quick_call quick_checks quick_does jumps next_moment idle_for advance second entries_from rows_at rows_from rows_with end_code code_at holding_at held_at taken claim better key drawn_start effective_end effective_start usable has cut join big flat row_bytes out_of_range malformed same_event find late program_checks event_checks held_checks clock_checks ask_checks list_checks best_default holder_in answer_for does checks id_number id_from
histories_evaluate = refl

pub histories_hold_lem : histories_hold history_of history_table ≡ true
histories_hold_lem = ap (λ see. histories_hold see history_table) (fun_ext history_quick) ∙ histories_evaluate

plainly_quick : quick_history plainly ≡ history (other ∷ first ∷ []) 0 0 33 0 0
unfolding plainly history_from note quick_accepted quick_call quick_checks quick_does jumps next_moment idle_for advance second entries_from rows_at rows_from rows_with end_code code_at holding_at held_at taken claim better key drawn_start effective_end effective_start usable has cut join big flat row_bytes out_of_range malformed same_event find late program_checks event_checks held_checks clock_checks ask_checks list_checks best_default holder_in answer_for does checks id_number id_from
plainly_quick = refl

otherwise_quick : quick_history otherwise ≡ history (first ∷ other ∷ []) 9 14 39 15 11
unfolding otherwise history_from note quick_accepted quick_call quick_checks quick_does jumps next_moment idle_for advance second entries_from rows_at rows_from rows_with end_code code_at holding_at held_at taken claim better key drawn_start effective_end effective_start usable has cut join big flat row_bytes out_of_range malformed same_event find late program_checks event_checks held_checks clock_checks ask_checks list_checks best_default holder_in answer_for does checks id_number id_from
otherwise_quick = refl

in_time : (ps : List Added) (r1 r2 r3 r4 r5 : ℕ) → r1 < 10 → r2 < 15 → r3 < 40 → r4 < 16 → r5 < 12 → InTime (history ps r1 r2 r3 r4 r5)
unfolding drawn_start id_number id_from
in_time ps r1 r2 r3 r4 r5 l1 l2 l3 l4 l5 x (inl e) = subst (λ x. x.receipt < drawn_start x.event) (sym e) l1
in_time ps r1 r2 r3 r4 r5 l1 l2 l3 l4 l5 x (inr (inl e)) = subst (λ x. x.receipt < drawn_start x.event) (sym e) l3
in_time ps r1 r2 r3 r4 r5 l1 l2 l3 l4 l5 x (inr (inr (inl e))) = subst (λ x. x.receipt < drawn_start x.event) (sym e) l2
in_time ps r1 r2 r3 r4 r5 l1 l2 l3 l4 l5 x (inr (inr (inr (inl e)))) = subst (λ x. x.receipt < drawn_start x.event) (sym e) l4
in_time ps r1 r2 r3 r4 r5 l1 l2 l3 l4 l5 x (inr (inr (inr (inr (inl e))))) = subst (λ x. x.receipt < drawn_start x.event) (sym e) l5
in_time ps r1 r2 r3 r4 r5 l1 l2 l3 l4 l5 x (inr (inr (inr (inr (inr m))))) = absurd m

exchanged : {A : Type 0} (x y z : A) → In z (x ∷ y ∷ []) → In z (y ∷ x ∷ [])
exchanged x y z (inl e) = inr (inl e)
exchanged x y z (inr (inl e)) = inl e
exchanged x y z (inr (inr m)) = absurd m

premise : SameArrivals (history_of plainly) (history_of otherwise)
premise = subst₂ SameArrivals (sym (history_quick plainly ∙ plainly_quick)) (sym (history_quick otherwise ∙ otherwise_quick)) (record {
  programs = λ z. (exchanged other first z, exchanged first other z);
  events = λ z. (λ m. m, λ m. m);
  in_time = in_time (other ∷ first ∷ []) 0 0 33 0 0 (lit< tt) (lit< tt) (lit< tt) (lit< tt) (lit< tt);
  in_time_too = in_time (first ∷ other ∷ []) 9 14 39 15 11 (lit< tt) (lit< tt) (lit< tt) (lit< tt) (lit< tt);
  cancellations = λ z. (λ m. m, λ m. m);
  choices = λ z. (λ m. m, λ m. m);
  last = refl;
})

-- Lists that miss the premise.

-- rows that differ
differ : (a b : List Call) → same (quick_joined fresh a) (quick_joined fresh b) ≡ false → joined_rows a ≡ joined_rows b → ⊥
differ a b d e =
    let q : quick_joined fresh a ≡ quick_joined fresh b = quick_joined_lem fresh sound_fresh a ∙ e ∙ sym (quick_joined_lem fresh sound_fresh b) in
    let z : true ≡ false = sym (same_self (quick_joined fresh a)) ∙ ap (same (quick_joined fresh a)) q ∙ d in
    absurd (true≢false z)

-- the two histories of a pair
module _ (a b : List Call) (H K : History) (p : quick_history a ≡ H) (q : quick_history b ≡ K) where
  apart : (SameArrivals H K → ⊥) → SameArrivals (history_of a) (history_of b) → ⊥
  apart n s = n (subst₂ SameArrivals (history_quick a ∙ p) (history_quick b ∙ q) s)

-- program 0 and these events, up to 14
abbrev small : List Brought → History
small bs = record { programs = first ∷ []; brought = bs; last = 14 }

abbrev cancelled : ℕ → Cancellation
cancelled k = record { event = one; clock = k }

other_clock : In (cancelled 9) (cancelled 10 ∷ []) → ⊥
other_clock (inl e) = let l : ◌≡◌ {A = ℕ} 9 10 = ap (λ c. c.clock) e in omega arith
other_clock (inr m) = m

other_id : In (drawn_back 6 0 2 100 10 20) (one ∷ []) → ⊥
unfolding id_number id_from
other_id (inl e) = let l : ◌≡◌ {A = ℕ} 6 1 = ap id_of e in omega arith
other_id (inr m) = m

abbrev out_at : ℕ → Choices
out_at k = record { event = brief; made = chosen k true ∷ [] }

-- the clock of the last choice
abbrev clock_of : List Chosen → ℕ
clock_of [] = 0
clock_of (c ∷ cs) = c.clock

other_choice : In (out_at 9) (out_at 10 ∷ []) → ⊥
other_choice (inl e) = let l : ◌≡◌ {A = ℕ} 9 10 = ap (λ c. clock_of c.made) e in omega arith
other_choice (inr m) = m

no_choice_lem : In (out_at 9) (record { event = brief; made = [] } ∷ []) → ⊥
no_choice_lem (inl e) = let l : ◌≡◌ {A = ℕ} 9 0 = ap (λ c. clock_of c.made) e in omega arith
no_choice_lem (inr m) = m

other_draw : In one (drawn_back 1 0 1 100 11 20 ∷ []) → ⊥
other_draw (inl e) = let l : ◌≡◌ {A = ℕ} 61946 61947 = ap (λ e. e.start_draw) e in omega arith
other_draw (inr m) = m

other_program : In (added 0 1 1) (added 1 1 1 ∷ added 0 2 1 ∷ []) → ⊥
other_program (inl e) = let l : ◌≡◌ {A = ℕ} 0 1 = ap (λ a. a.number) e in omega arith
other_program (inr (inl e)) = let l : ◌≡◌ {A = ℕ} 1 2 = ap (λ a. a.primacy) e in omega arith
other_program (inr (inr m)) = m

in_time_sample : Missed (prompt) (tardy)
unfolding history_from note quick_accepted quick_joined quick_call quick_checks quick_does jumps next_moment idle_for advance second entries_from rows_at rows_from rows_with end_code code_at holding_at held_at taken claim better key drawn_start effective_end effective_start usable has cut join big flat row_bytes out_of_range malformed same_event find late program_checks event_checks held_checks clock_checks ask_checks list_checks best_default holder_in answer_for does checks id_number id_from
in_time_sample = record {
  premise = apart (prompt) (tardy) (small (brought one 9 none ∷ [])) (small (brought one 10 none ∷ [])) refl refl (λ s. let l : 10 < 10 = s.in_time_too (brought one 10 none) (inl refl) in omega arith);
  rows = differ (prompt) (tardy) refl;
}

cancellation_clocks_sample : Missed (cancelled_by 9) (cancelled_by 10)
unfolding history_from note quick_accepted quick_joined quick_call quick_checks quick_does jumps next_moment idle_for advance second entries_from rows_at rows_from rows_with end_code code_at holding_at held_at taken claim better key drawn_start effective_end effective_start usable has cut join big flat row_bytes out_of_range malformed same_event find late program_checks event_checks held_checks clock_checks ask_checks list_checks best_default holder_in answer_for does checks id_number id_from
cancellation_clocks_sample = record {
  premise = apart (cancelled_by 9) (cancelled_by 10) (small (brought one 0 (some 9) ∷ [])) (small (brought one 0 (some 10) ∷ [])) refl refl (λ s. other_clock ((s.cancellations (cancelled 9)).0 (inl refl)));
  rows = differ (cancelled_by 9) (cancelled_by 10) refl;
}

cancellations_sample : Missed (cancelled_by 9) (uncancelled)
unfolding history_from note quick_accepted quick_joined quick_call quick_checks quick_does jumps next_moment idle_for advance second entries_from rows_at rows_from rows_with end_code code_at holding_at held_at taken claim better key drawn_start effective_end effective_start usable has cut join big flat row_bytes out_of_range malformed same_event find late program_checks event_checks held_checks clock_checks ask_checks list_checks best_default holder_in answer_for does checks id_number id_from
cancellations_sample = record {
  premise = apart (cancelled_by 9) (uncancelled) (small (brought one 0 (some 9) ∷ [])) (small (brought one 0 none ∷ [])) refl refl (λ s. (s.cancellations (cancelled 9)).0 (inl refl));
  rows = differ (cancelled_by 9) (uncancelled) refl;
}

choice_clocks_sample : Missed (out_by 9) (out_by 10)
unfolding history_from note quick_accepted quick_joined quick_call quick_checks quick_does jumps next_moment idle_for advance second entries_from rows_at rows_from rows_with end_code code_at holding_at held_at taken claim better key drawn_start effective_end effective_start usable has cut join big flat row_bytes out_of_range malformed same_event find late program_checks event_checks held_checks clock_checks ask_checks list_checks best_default holder_in answer_for does checks id_number id_from
choice_clocks_sample = record {
  premise = apart (out_by 9) (out_by 10) (small (deciding brief 0 none (chosen 9 true ∷ []) ∷ [])) (small (deciding brief 0 none (chosen 10 true ∷ []) ∷ [])) refl refl (λ s. other_choice ((s.choices (out_at 9)).0 (inl refl)));
  rows = differ (out_by 9) (out_by 10) refl;
}

choices_sample : Missed (out_by 9) (unchosen)
unfolding history_from note quick_accepted quick_joined quick_call quick_checks quick_does jumps next_moment idle_for advance second entries_from rows_at rows_from rows_with end_code code_at holding_at held_at taken claim better key drawn_start effective_end effective_start usable has cut join big flat row_bytes out_of_range malformed same_event find late program_checks event_checks held_checks clock_checks ask_checks list_checks best_default holder_in answer_for does checks id_number id_from
choices_sample = record {
  premise = apart (out_by 9) (unchosen) (small (deciding brief 0 none (chosen 9 true ∷ []) ∷ [])) (small (brought brief 0 none ∷ [])) refl refl (λ s. no_choice_lem ((s.choices (out_at 9)).0 (inl refl)));
  rows = differ (out_by 9) (unchosen) refl;
}

events_sample : Missed (uncancelled) (another)
unfolding history_from note quick_accepted quick_joined quick_call quick_checks quick_does jumps next_moment idle_for advance second entries_from rows_at rows_from rows_with end_code code_at holding_at held_at taken claim better key drawn_start effective_end effective_start usable has cut join big flat row_bytes out_of_range malformed same_event find late program_checks event_checks held_checks clock_checks ask_checks list_checks best_default holder_in answer_for does checks id_number id_from
events_sample = record {
  premise = apart (uncancelled) (another) (small (brought one 0 none ∷ [])) (small (brought one 0 none ∷ brought (drawn_back 6 0 2 100 10 20) 0 none ∷ [])) refl refl (λ s. other_id ((s.events (drawn_back 6 0 2 100 10 20)).1 (inr (inl refl))));
  rows = differ (uncancelled) (another) refl;
}

fields_sample : Missed (uncancelled) (redrawn)
unfolding history_from note quick_accepted quick_joined quick_call quick_checks quick_does jumps next_moment idle_for advance second entries_from rows_at rows_from rows_with end_code code_at holding_at held_at taken claim better key drawn_start effective_end effective_start usable has cut join big flat row_bytes out_of_range malformed same_event find late program_checks event_checks held_checks clock_checks ask_checks list_checks best_default holder_in answer_for does checks id_number id_from
fields_sample = record {
  premise = apart (uncancelled) (redrawn) (small (brought one 0 none ∷ [])) (small (brought (drawn_back 1 0 1 100 11 20) 0 none ∷ [])) refl refl (λ s. other_draw ((s.events one).0 (inl refl)));
  rows = differ (uncancelled) (redrawn) refl;
}

programs_sample : Missed (ranked 1 2) (ranked 2 1)
unfolding history_from note quick_accepted quick_joined quick_call quick_checks quick_does jumps next_moment idle_for advance second entries_from rows_at rows_from rows_with end_code code_at holding_at held_at taken claim better key drawn_start effective_end effective_start usable has cut join big flat row_bytes out_of_range malformed same_event find late program_checks event_checks held_checks clock_checks ask_checks list_checks best_default holder_in answer_for does checks id_number id_from
programs_sample = record {
  premise = apart (ranked 1 2) (ranked 2 1) (record { programs = added 1 2 1 ∷ added 0 1 1 ∷ []; brought = brought one 0 none ∷ brought (drawn_back 5 1 1 100 10 20) 0 none ∷ []; last = 14 }) (record { programs = added 1 1 1 ∷ added 0 2 1 ∷ []; brought = brought one 0 none ∷ brought (drawn_back 5 1 1 100 10 20) 0 none ∷ []; last = 14 }) refl refl (λ s. other_program ((s.programs (added 0 1 1)).0 (inr (inl refl))));
  rows = differ (ranked 1 2) (ranked 2 1) refl;
}

last_sample : Missed (shorter) (longer)
unfolding history_from note quick_accepted quick_joined quick_call quick_checks quick_does jumps next_moment idle_for advance second entries_from rows_at rows_from rows_with end_code code_at holding_at held_at taken claim better key drawn_start effective_end effective_start usable has cut join big flat row_bytes out_of_range malformed same_event find late program_checks event_checks held_checks clock_checks ask_checks list_checks best_default holder_in answer_for does checks id_number id_from
last_sample = record {
  premise = apart (shorter) (longer) (record { programs = first ∷ []; brought = brought one 0 none ∷ brought two 14 none ∷ []; last = 14 }) (record { programs = first ∷ []; brought = brought one 0 none ∷ brought two 14 none ∷ []; last = 15 }) refl refl (λ s. let l : ◌≡◌ {A = ℕ} 14 15 = s.last in omega arith);
  rows = differ (shorter) (longer) refl;
}

compared_evaluates : compared_hold ≡ true
unfolding compared_hold id_number id_from
compared_evaluates = refl

pub sample : Sample
unfolding plainly otherwise quick_joined quick_call quick_checks quick_does jumps next_moment idle_for advance second entries_from rows_at rows_from rows_with end_code code_at holding_at held_at taken claim better key drawn_start effective_end effective_start usable has cut join big flat row_bytes out_of_range malformed same_event find late program_checks event_checks held_checks clock_checks ask_checks list_checks best_default holder_in answer_for does checks id_number id_from
sample = record {
  compared = compared_evaluates;
  premise = premise;
  lengths = (refl, refl);
  rows = sym (quick_joined_lem fresh sound_fresh plainly) ∙ refl;
  results = arrival_order.same plainly otherwise premise;
  in_time = in_time_sample;
  cancellation_clocks = cancellation_clocks_sample;
  cancellations = cancellations_sample;
  choice_clocks = choice_clocks_sample;
  choices = choices_sample;
  events = events_sample;
  fields = fields_sample;
  programs = programs_sample;
  last = last_sample;
}
