-- The notes of a PROGRAM, and of udev's IMPORT{program}, that say that its command has no answer.
use Rattle.std.proofs.Common.{◌≡◌, ◌==◌, Bool, true, false, cond, [], ◌∷◌, ◌++◌, map, Option, Some, None, is_some, append-nil, ap, sym, ◌∙◌}
use Rattle.std.specs.List.{filter}
use Rattle.std.proofs.lemmas.List.Elements.{filter-append}
use Rattle.text_bytes.specs.declared.profile.Profile.{Profile}
use Rattle.text_bytes.specs.declared.profile.Profile.TheVariants.{Manual, Udev}
use Rattle.text_bytes.specs.Text.{Text}
use Rattle.text_tables.specs.Pairs.{value_of}
use Rattle.builtin_devices.specs.Knowledge.{Known}
use Rattle.device_core.specs.Values.{AnswerValue}
use Rattle.rule_tokens.specs.Template.{Parts}
use Rattle.rule_types.specs.WrittenParts.{attribute_of_act_kind, key_of_act_kind}
use Rattle.rule_types.specs.declared.part.Act.{Act}
use Rattle.rule_types.specs.declared.part.ActKind.{ActKind}
use Rattle.rule_types.specs.declared.part.ActKind.TheVariants as act_kind
use Rattle.rule_types.specs.declared.part.Import.TheVariants as import
use Rattle.rule_types.specs.Rules.{Rule}
use Rattle.eval_state.specs.Notes.{note_about, word_of_key}
use Rattle.eval_state.specs.Properties.{properties_set}
use Rattle.eval_state.specs.Scenes.{with_env}
use Rattle.eval_state.specs.declared.note_kind.NoteKind.TheVariants.{NoAnswer, TextTooLong}
use Rattle.eval_state.specs.declared.scene.Scene.{Scene}
use Rattle.eval_rendering.specs.Bounds.{most_command_bytes}
use Rattle.eval_rendering.specs.declared.rendered.Rendered.{Rendered}
use Rattle.eval_rendering.specs.declared.rendered.Rendered.TheVariants as rendered
use Rattle.eval_acts.specs.ActTexts.{import_text, program_text}
use Rattle.eval_acts.specs.Acts.{act_step, imported, on_text, performed}
use Rattle.eval_acts.specs.Inner.{left}
use Rattle.eval_acts.specs.Imports.{from_answer_or_noted, from_program}
use Rattle.eval_acts.specs.Printed.{printed_properties}
use Rattle.eval_acts.specs.Questions.{answered_by_block, answered_or_noted, result_of, with_result}
use Rattle.eval_laws.specs.Noted.{is_no_answer}
use Rattle.eval_courses.specs.Questions.{act_asks, import_asks, unanswered}

by_answer : (r : Rule) (command : Text) (answer : Option AnswerValue) (s : Scene)
    → filter is_no_answer (answered_or_noted r command answer s).0.notes ≡ filter is_no_answer s.notes ++ map (note_about r NoAnswer) (cond (is_some answer) [] (command ∷ []))
by_answer r command None s = filter-append is_no_answer s.notes (note_about r NoAnswer command ∷ [])
by_answer r command (Some answer) s = by (answer.status == 0)
  where
    by : (b : Bool) → filter is_no_answer (cond {A = Scene × Bool} b (with_result (result_of s.state.event.profile answer.text) s, true) (s, false)).0.notes ≡ filter is_no_answer s.notes ++ []
    by true = sym (append-nil (filter is_no_answer s.notes))
    by false = sym (append-nil (filter is_no_answer s.notes))

pub by_text : (r : Rule) (d : ActKind) (text : Rendered) (s : Scene)
    → filter is_no_answer (left r d (on_text (answered_by_block r) text (with_result [] s))).notes ≡ filter is_no_answer s.notes ++ map (note_about r NoAnswer) (unanswered s.state.event text)
by_text r d (rendered.Text command) s = by_answer r command (value_of s.state.event.programs command) (with_result [] s)
by_text r d rendered.TooLong s = filter-append is_no_answer s.notes (note_about r TextTooLong (word_of_key (key_of_act_kind d) (attribute_of_act_kind d)) ∷ [])

-- they are those of the commands that the block does not answer
pub program_noted : (known : Known) (r : Rule) (act : Act) (template : Parts) (s : Scene) → act.kind ≡ act_kind.Program template
    → filter is_no_answer (act_step known r act s).0.notes ≡ filter is_no_answer s.notes ++ map (note_about r NoAnswer) (act_asks act.kind s.state)
unfolding act_step
program_noted known r act template s is =
    ap (λ (d : ActKind). filter is_no_answer (left r d (performed known r d s)).notes) is
    ∙ by_text r (act_kind.Program template) (program_text template s.state) s
    ∙ ap (λ (d : ActKind). filter is_no_answer s.notes ++ map (note_about r NoAnswer) (act_asks d s.state)) (sym is)

by_print : (r : Rule) (command : Text) (answer : Option AnswerValue) (s : Scene)
    → filter is_no_answer (from_answer_or_noted r NoAnswer command answer s).0.notes ≡ filter is_no_answer s.notes ++ map (note_about r NoAnswer) (cond (is_some answer) [] (command ∷ []))
by_print r command None s = filter-append is_no_answer s.notes (note_about r NoAnswer command ∷ [])
by_print r command (Some answer) s = by (answer.status == 0)
  where
    by : (b : Bool) → filter is_no_answer (cond {A = Scene × Bool} b (with_env (properties_set s.state.env (printed_properties answer.text)) s, true) (s, false)).0.notes ≡ filter is_no_answer s.notes ++ []
    by true = sym (append-nil (filter is_no_answer s.notes))
    by false = sym (append-nil (filter is_no_answer s.notes))

by_command : (r : Rule) (d : ActKind) (text : Rendered) (s : Scene)
    → filter is_no_answer (left r d (on_text (from_program r) text s)).notes ≡ filter is_no_answer s.notes ++ map (note_about r NoAnswer) (unanswered s.state.event text)
by_command r d (rendered.Text command) s = by_print r command (value_of s.state.event.programs command) s
by_command r d rendered.TooLong s = filter-append is_no_answer s.notes (note_about r TextTooLong (word_of_key (key_of_act_kind d) (attribute_of_act_kind d)) ∷ [])

by_profile : (p : Profile) (known : Known) (r : Rule) (d : ActKind) (template : Parts) (s : Scene) → p ≡ Udev
    → filter is_no_answer (left r d (imported p known r (import.Program template) s)).notes ≡ filter is_no_answer s.notes ++ map (note_about r NoAnswer) (import_asks p (import.Program template) s.state)
by_profile Manual known r d template s udev = absurd (cc)
by_profile Udev known r d template s udev = by_command r d (import_text most_command_bytes template s.state) s

-- of udev's IMPORT{program} it is the same
pub import_noted : (known : Known) (r : Rule) (act : Act) (template : Parts) (s : Scene) → act.kind ≡ act_kind.Import (import.Program template) → s.state.event.profile ≡ Udev
    → filter is_no_answer (act_step known r act s).0.notes ≡ filter is_no_answer s.notes ++ map (note_about r NoAnswer) (act_asks act.kind s.state)
unfolding act_step
import_noted known r act template s is udev =
    ap (λ (d : ActKind). filter is_no_answer (left r d (performed known r d s)).notes) is
    ∙ by_profile s.state.event.profile known r (act_kind.Import (import.Program template)) template s udev
    ∙ ap (λ (d : ActKind). filter is_no_answer s.notes ++ map (note_about r NoAnswer) (act_asks d s.state)) (sym is)
