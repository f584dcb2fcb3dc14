-- Calls, schedules, lines, texts and images, by evaluation; calls and lines by the run that passes over quiet moments.
use mathlib.Core.Path.{◌≡◌, refl, sym, ap, ◌∙◌, fun_ext}
use Prim.Native.Nat.{ℕ}
use mathlib.Core.Bool.{true}
use mathlib.Core.List.{List}
use Rattle.rules.specs.Records.{half_size, id_size, id_number, id_from, usable, has, cut, join, fresh}
use Rattle.rules.specs.Period.{drawn_start, effective_end, effective_start, earliest_start}
use Rattle.rules.specs.Holding.{key, better, claim, taken, held_at, holding_at}
use Rattle.rules.specs.Rows.{end_code, code_at, rows_with, rows_from, rows_at}
use Rattle.rules.specs.Moments.{entries_from, second, advance}
use Rattle.rules.specs.Bytes.{big, read, flat, many, row_bytes, event_in, event_bytes, entry_bytes, entry_at}
use Rattle.rules.specs.Sound.{out_of_range, malformed, same_event, whole, within_limits, sound_program, unused, ascending, of_program, well_formed, in_period, lasting, carried, held_since_start, none_if_cancelled, counted_since_start, counted_if_held, apart, sound_entry, sound}
use Rattle.rules.specs.Image.{program_bytes, program_from, image, loaded, marked, formed, imaged}
use Rattle.rules.specs.ImageTable.{rules_hold, rule_table, bytes_hold, sizes_hold, forms_hold, form_table, refused_images, numbers_hold, number_table, ImageTables}
use Rattle.rules.specs.Refusals.{find, late, program_checks, event_checks, held_checks, clock_checks, ask_checks, list_checks}
use Rattle.rules.specs.Calls.{best_default, holder_in, answer_for, does, checks, refusal, call}
use Rattle.rules.specs.Frames.{digit, paired, unhex, is_frame, frame_in, line_in}
use Rattle.rules.specs.Printed.{lines_of, decimal, rows_text, output_in, output}
use Rattle.rules.specs.Converted.{widened, narrowed, lengthened, shortened, turned_into, converted}
use Rattle.rules.specs.LineTable.{line_table, lines_hold}
use Rattle.rules.specs.TextTable.{text_input, text_output, endings_hold, digits_hold, TextTables}
use Rattle.rules.specs.Example.{example_input, example_output}
use Rattle.rules.specs.ConvertTable.{turns_hold, length_table, short_table, lendings_hold, convertings_hold, recorded_input, recorded_text, recorded_output, ConvertTables}
use Rattle.rules.specs.Script.{scripts_hold}
use Rattle.rules.specs.CallTable.{call_table, answers_hold, CallTables}
use Rattle.rules.specs.Schedules.{holding, rows_to, held_events}
use Rattle.rules.specs.ScheduleTable.{programs_hold, schedules_hold, schedule_table, ScheduleTables}
use Rattle.rules.specs.MomentTable.{moments_hold, moment_table}
use Rattle.rules.specs.Marks.{same}
use Rattle.rules.proofs.SoundKept.{sound_fresh}
use Rattle.rules.proofs.Jump.{jumps, next_moment, idle_for}
use Rattle.rules.proofs.Quick.{quick_checks, quick_does, quick_call, quick_replies, quick_replies_lem, quick_tell_frame, quick_tell_all, quick_tell}
use Rattle.rules.proofs.Evaluated.{same_lists}

pub lines_evaluate : lines_hold line_table ≡ true
unfolding lines_hold line_table digit paired unhex is_frame frame_in line_in read event_in id_number id_from
lines_evaluate = refl

calls_evaluate : scripts_hold (quick_replies fresh) call_table ≡ true
unfolding scripts_hold call_table quick_replies quick_call quick_checks quick_does jumps next_moment idle_for advance second entries_from rows_at rows_from rows_with end_code code_at holding_at held_at taken claim better key drawn_start effective_end effective_start earliest_start usable has cut join big flat row_bytes out_of_range malformed same_event find late program_checks event_checks held_checks clock_checks ask_checks list_checks best_default holder_in answer_for does checks id_number id_from
calls_evaluate = refl

answers_evaluate : answers_hold ≡ true
unfolding answers_hold usable id_number id_from
answers_evaluate = refl

pub call_tables : CallTables
call_tables = record { scripts = ap (λ see. scripts_hold see call_table) (sym (fun_ext (quick_replies_lem fresh sound_fresh))) ∙ calls_evaluate; numbers = answers_evaluate }

texts_evaluate : same (quick_tell_all id_size fresh (lines_of text_input)) text_output ≡ true
unfolding lines_of decimal rows_text digit paired unhex is_frame frame_in line_in read event_in text_input text_output quick_tell_all quick_tell_frame quick_call quick_checks quick_does jumps next_moment idle_for advance second entries_from rows_at rows_from rows_with end_code code_at holding_at held_at taken claim better key drawn_start effective_end effective_start usable has cut join big flat row_bytes out_of_range malformed same_event find late program_checks event_checks held_checks clock_checks ask_checks list_checks best_default holder_in answer_for does checks id_number id_from
texts_evaluate = refl

output_quick : (input : List ℕ) → output input ≡ quick_tell_all id_size fresh (lines_of input)
output_quick input = sym (quick_tell id_size fresh sound_fresh (lines_of input))

endings_evaluate : endings_hold (λ input. quick_tell_all id_size fresh (lines_of input)) ≡ true
unfolding endings_hold digit paired unhex is_frame frame_in line_in read event_in quick_tell_all quick_tell_frame quick_call quick_checks quick_does has program_checks ask_checks best_default holder_in answer_for does checks lines_of decimal id_number id_from
endings_evaluate = refl

digits_evaluate : digits_hold ≡ true
unfolding digits_hold decimal
digits_evaluate = refl

pub text_tables : TextTables
text_tables =
    record {
      texts = output_quick text_input ∙ same_lists (quick_tell_all id_size fresh (lines_of text_input)) text_output texts_evaluate;
      endings = ap endings_hold (fun_ext output_quick) ∙ endings_evaluate;
      digits = digits_evaluate;
    }

lengths_evaluate : turns_hold lengthened length_table ≡ true
unfolding turns_hold length_table lengthened widened digit paired unhex is_frame frame_in line_in read event_in id_number id_from
lengths_evaluate = refl

shorts_evaluate : turns_hold shortened short_table ≡ true
unfolding turns_hold short_table shortened narrowed digit paired unhex is_frame frame_in line_in read event_in id_number id_from
shorts_evaluate = refl

lendings_evaluate : lendings_hold ≡ true
unfolding lendings_hold turned_into lengthened widened shortened narrowed digit paired unhex is_frame frame_in line_in read event_in id_number id_from
lendings_evaluate = refl

convertings_evaluate : convertings_hold ≡ true
unfolding convertings_hold lines_of decimal flat lengthened widened shortened narrowed digit paired unhex is_frame frame_in line_in read event_in id_number id_from
convertings_evaluate = refl

lengthened_evaluates : same (converted lengthened recorded_input) example_input ≡ true
unfolding recorded_input example_input lines_of decimal flat lengthened widened digit paired unhex is_frame frame_in line_in read event_in id_number id_from
lengthened_evaluates = refl

recorded_evaluates : same (quick_tell_all half_size fresh (lines_of recorded_input)) example_output ≡ true
unfolding lines_of decimal rows_text digit paired unhex is_frame frame_in line_in read event_in recorded_input example_output quick_tell_all quick_tell_frame quick_call quick_checks quick_does jumps next_moment idle_for advance second entries_from rows_at rows_from rows_with end_code code_at holding_at held_at taken claim better key drawn_start effective_end effective_start usable has cut join big flat row_bytes out_of_range malformed same_event find late program_checks event_checks held_checks clock_checks ask_checks list_checks best_default holder_in answer_for does checks id_number id_from
recorded_evaluates = refl

refused_evaluate : same (quick_tell_all half_size fresh (lines_of recorded_text)) recorded_output ≡ true
unfolding lines_of decimal rows_text digit paired unhex is_frame frame_in line_in read event_in recorded_text recorded_output quick_tell_all quick_tell_frame quick_call quick_checks quick_does jumps next_moment idle_for advance second entries_from rows_at rows_from rows_with end_code code_at holding_at held_at taken claim better key drawn_start effective_end effective_start usable has cut join big flat row_bytes out_of_range malformed same_event find late program_checks event_checks held_checks clock_checks ask_checks list_checks best_default holder_in answer_for does checks id_number id_from
refused_evaluate = refl

-- what is written for a text over ids of 64 bits, from the run that passes over quiet moments
recorded : (input written : List ℕ) → same (quick_tell_all half_size fresh (lines_of input)) written ≡ true → output_in half_size input ≡ written
recorded input written e = sym (quick_tell half_size fresh sound_fresh (lines_of input)) ∙ same_lists (quick_tell_all half_size fresh (lines_of input)) written e

pub convert_tables : ConvertTables
convert_tables =
    record {
      lengthens = lengths_evaluate;
      shortens = shorts_evaluate;
      lendings = lendings_evaluate;
      texts = convertings_evaluate;
      example_lengthened = same_lists (converted lengthened recorded_input) example_input lengthened_evaluates;
      example = recorded recorded_input example_output recorded_evaluates;
      refused_lines = recorded recorded_text recorded_output refused_evaluate;
    }

rules_evaluate : rules_hold rule_table ≡ true
unfolding rules_hold rule_table usable cut drawn_start effective_end out_of_range malformed same_event whole within_limits sound_program unused ascending of_program well_formed in_period lasting carried held_since_start none_if_cancelled counted_since_start counted_if_held apart sound_entry sound id_number id_from
rules_evaluate = refl

bytes_evaluate : bytes_hold ≡ true
unfolding bytes_hold has big read flat many row_bytes event_in event_bytes entry_bytes entry_at program_bytes program_from image loaded id_number id_from
bytes_evaluate = refl

sizes_evaluate : sizes_hold ≡ true
unfolding sizes_hold
sizes_evaluate = refl

forms_evaluate : forms_hold form_table ≡ true
unfolding forms_hold form_table read marked formed
forms_evaluate = refl

images_evaluate : refused_images ≡ true
unfolding refused_images has read many program_from event_in entry_at loaded marked formed imaged whole within_limits sound id_number id_from
images_evaluate = refl

numbers_evaluate : numbers_hold number_table ≡ true
unfolding numbers_hold number_table call refusal checks does advance usable cut has drawn_start effective_end effective_start out_of_range malformed same_event find late program_checks event_checks held_checks clock_checks ask_checks list_checks best_default holder_in answer_for whole within_limits sound_program unused ascending of_program well_formed in_period lasting carried held_since_start none_if_cancelled counted_since_start counted_if_held apart sound_entry sound id_number id_from
numbers_evaluate = refl

pub image_tables : ImageTables
image_tables = record { rules = rules_evaluate; bytes = bytes_evaluate; sizes = sizes_evaluate; forms = forms_evaluate; refused = images_evaluate; numbers = numbers_evaluate }

programs_evaluate : programs_hold ≡ true
unfolding programs_hold
programs_evaluate = refl

schedules_evaluate : schedules_hold schedule_table ≡ true
unfolding schedules_hold schedule_table holding rows_to held_events rows_at rows_from rows_with end_code code_at holding_at held_at taken claim better key drawn_start effective_end effective_start cut join id_number id_from
schedules_evaluate = refl

pub schedule_tables : ScheduleTables
schedule_tables = record { programs = programs_evaluate; cases = schedules_evaluate }

pub moments_evaluate : moments_hold moment_table ≡ true
unfolding moments_hold moment_table advance second entries_from rows_at rows_from rows_with end_code code_at holding_at held_at taken claim better key drawn_start effective_end cut join id_number id_from
moments_evaluate = refl
