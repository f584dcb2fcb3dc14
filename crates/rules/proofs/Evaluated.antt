-- T1 to T12, the edges of the numbers and the worked example, by evaluation of the run that passes over quiet moments.
use mathlib.Core.Path.{◌≡◌, refl, sym, ap, ap₂, ◌∙◌, fun_ext}
use Prim.Native.Nat.{ℕ}
use mathlib.Core.Bool.{true, false}
use mathlib.Core.List.{List, [], ◌∷◌}
use lib.Dec.{eqb}
use borrow.Author.Tests.{eqb-true, eq-eqb}
use Rattle.rules.specs.Records.{id_size, id_number, id_from, usable, has, cut, join, fresh, pad}
use Rattle.rules.specs.Period.{drawn_start, effective_end, effective_start, earliest_start}
use Rattle.rules.specs.Holding.{key, better, claim, taken, held_at, holding_at}
use Rattle.rules.specs.Rows.{end_code, code_at, rows_with, rows_from, rows_at}
use Rattle.rules.specs.Moments.{entries_from, second, advance}
use Rattle.rules.specs.Bytes.{big, read, flat, row_bytes, event_in}
use Rattle.rules.specs.Sound.{out_of_range, malformed, same_event}
use Rattle.rules.specs.Refusals.{find, late, program_checks, event_checks, held_checks, clock_checks, ask_checks, list_checks}
use Rattle.rules.specs.Calls.{best_default, holder_in, answer_for, does, checks}
use Rattle.rules.specs.Frames.{digit, paired, unhex, is_frame, frame_in, line_in}
use Rattle.rules.specs.Printed.{lines_of, decimal, rows_text, output}
use Rattle.rules.specs.Marks.{same, replies, case_holds, all_hold, edges_hold}
use Rattle.rules.specs.Table.{table}
use Rattle.rules.specs.Edges.{edges}
use Rattle.rules.specs.ChoiceTable.{choices_hold, choice_table}
use Rattle.rules.specs.Example.{example_input, example_output}
use Rattle.rules.proofs.Tests.{each_true, both}
use Rattle.rules.proofs.SoundKept.{sound_fresh}
use Rattle.rules.proofs.Jump.{jumps, next_moment, idle_for}
use Rattle.rules.proofs.Quick.{quick_checks, quick_does, quick_call, quick_replies, quick_replies_lem, quick_tell_frame, quick_tell_all, quick_tell}

table_evaluates : all_hold (quick_replies fresh) table ≡ true
unfolding all_hold case_holds table quick_replies quick_call quick_checks quick_does jumps next_moment idle_for advance second entries_from rows_at rows_from rows_with end_code code_at holding_at held_at taken claim better key drawn_start effective_end effective_start earliest_start usable has cut join big flat row_bytes out_of_range malformed same_event find late program_checks event_checks held_checks clock_checks ask_checks list_checks best_default holder_in answer_for does checks id_number id_from
table_evaluates = refl

pub bench_marks : all_hold (replies (pad fresh)) table ≡ true
bench_marks = ap (λ see. all_hold see table) (sym (fun_ext (quick_replies_lem fresh sound_fresh))) ∙ table_evaluates

choices_evaluate : choices_hold (quick_replies fresh) choice_table ≡ true
unfolding choices_hold choice_table quick_replies quick_call quick_checks quick_does jumps next_moment idle_for advance second entries_from rows_at rows_from rows_with end_code code_at holding_at held_at taken claim better key drawn_start effective_end effective_start usable has cut join big flat row_bytes out_of_range malformed same_event find late program_checks event_checks held_checks clock_checks ask_checks list_checks best_default holder_in answer_for does checks id_number id_from
choices_evaluate = refl

pub choices_hold_lem : choices_hold (replies (pad fresh)) choice_table ≡ true
choices_hold_lem = ap (λ see. choices_hold see choice_table) (sym (fun_ext (quick_replies_lem fresh sound_fresh))) ∙ choices_evaluate

edges_evaluate : edges_hold (quick_replies fresh) edges ≡ true
unfolding edges_hold edges quick_replies quick_call quick_checks quick_does jumps next_moment idle_for advance second entries_from rows_at rows_from rows_with end_code code_at holding_at held_at taken claim better key drawn_start effective_end effective_start usable has cut join big flat row_bytes out_of_range malformed same_event find late program_checks event_checks held_checks clock_checks ask_checks list_checks best_default holder_in answer_for does checks id_number id_from
edges_evaluate = refl

pub edges_hold_lem : edges_hold (replies (pad fresh)) edges ≡ true
edges_hold_lem = ap (λ see. edges_hold see edges) (sym (fun_ext (quick_replies_lem fresh sound_fresh))) ∙ edges_evaluate

example_evaluates : same (quick_tell_all id_size fresh (lines_of example_input)) example_output ≡ true
unfolding lines_of decimal rows_text digit paired unhex is_frame frame_in line_in read event_in example_input example_output quick_tell_all quick_tell_frame quick_call quick_checks quick_does jumps next_moment idle_for advance second entries_from rows_at rows_from rows_with end_code code_at holding_at held_at taken claim better key drawn_start effective_end effective_start usable has cut join big flat row_bytes out_of_range malformed same_event find late program_checks event_checks held_checks clock_checks ask_checks list_checks best_default holder_in answer_for does checks id_number id_from
example_evaluates = refl

pub same_lists : (xs ys : List ℕ) → same xs ys ≡ true → xs ≡ ys
same_lists [] [] e = refl
same_lists [] (y ∷ ys) e = both false e refl
same_lists (x ∷ xs) [] e = both false e refl
same_lists (x ∷ xs) (y ∷ ys) e = let r = each_true (eqb x y) (same xs ys) e in ap₂ ◌∷◌ (eqb-true x y r.0) (same_lists xs ys r.1)

pub same_self : (xs : List ℕ) → same xs xs ≡ true
same_self [] = refl
same_self (x ∷ xs) = rw (eq-eqb x x refl) (same_self xs)

pub worked_example : output example_input ≡ example_output
worked_example = sym (quick_tell id_size fresh sound_fresh (lines_of example_input)) ∙ same_lists (quick_tell_all id_size fresh (lines_of example_input)) example_output example_evaluates
