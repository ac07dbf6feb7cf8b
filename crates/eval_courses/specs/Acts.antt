-- What TEST, PROGRAM and IMPORT met, by the scene before them and the scene after.
use Rattle.std.specs.Prelude.{Bool, not, ◌==◌, if◌then◌else◌, List, [], ◌∷◌, ◌++◌, length, map, filter, Option, Some, None, is_none}
use Rattle.std.specs.Prelude.{codes, decimal}
use Rattle.text_bytes.specs.Names.{equals, space}
use Rattle.text_bytes.specs.Texts.{is_empty}
use Rattle.text_bytes.specs.Escapes.{escape_text}
use Rattle.text_bytes.specs.declared.profile.Profile.{Profile}
use Rattle.text_bytes.specs.declared.profile.Profile.TheVariants as profile
use Rattle.text_bytes.specs.Text.{Text}
use Rattle.text_tables.specs.Pairs.{Pair, value_of}
use Rattle.builtin_devices.specs.Knowledge.{Known}
use Rattle.device_core.specs.Values.{AnswerValue}
use Rattle.rule_tokens.specs.Template.{Parts as Template}
use Rattle.rule_types.specs.declared.part.Act.{Act}
use Rattle.rule_types.specs.declared.part.ActKind.{ActKind}
use Rattle.rule_types.specs.declared.part.ActKind.TheVariants as act_kind
use Rattle.rule_types.specs.declared.part.Import.{Import}
use Rattle.rule_types.specs.declared.part.Import.TheVariants as import
use Rattle.rule_types.specs.Rules.{Rule}
use Rattle.eval_rendering.specs.Bounds.{most_command_bytes, most_path_bytes}
use Rattle.eval_rendering.specs.declared.rendered.Rendered.{Rendered}
use Rattle.eval_rendering.specs.declared.rendered.Rendered.TheVariants as rendered
use Rattle.eval_state.specs.declared.scene.Scene.{Scene}
use Rattle.eval_state.specs.declared.state.State.{State}
use Rattle.eval_acts.specs.ActTexts.{import_text, names_text, program_text, test_text}
use Rattle.eval_acts.specs.Acts.{act_step}
use Rattle.eval_effects.specs.Items.{is_present}
use Rattle.eval_effects.specs.Shown.{joined, shown}
use Rattle.eval_courses.specs.Keys.{act_key}
use Rattle.eval_courses.specs.Looks.{met}

-- what is reported for a rendered text
abbrev pub on_rendered : (Text → Text) → Rendered → Text
on_rendered reported (rendered.Text text) = reported text
on_rendered reported rendered.TooLong = codes "too long"

-- a text after a space; an empty one is left out with its space
abbrev pub spaced : Text → Text
spaced text = if is_empty text then [] else space ∷ shown text

-- the command of a PROGRAM, and what the event's block answers to it
abbrev pub answer_report : Text → Option AnswerValue → Text
answer_report command None = codes "no answer for " ++ escape_text command
answer_report command (Some answer) = escape_text command ++ codes " answers " ++ decimal answer.status ++ spaced answer.text

-- a property as it is reported
unfoldable pub property_report : Pair → Text
property_report property = shown property.0 ++ equals ∷ shown property.1

-- the properties that are there now and were not there with the same value before
abbrev pub newly_set : List Pair → List Pair → List Pair
newly_set before now = filter (λ property. not (is_present property before)) now

-- the properties that were there before and are no longer
abbrev pub gone_from : List Pair → List Pair → List Pair
gone_from now before = filter (λ property. is_none (value_of now property.0)) before

-- properties that were removed and set
abbrev pub change_report : List Text → List Text → Text
change_report removed set =
    if is_empty removed then (if is_empty set then codes "sets nothing" else codes "sets " ++ joined set)
    else codes "removes " ++ joined removed ++ (if is_empty set then [] else codes ", sets " ++ joined set)

-- the properties that were removed and set, by those before and those now
abbrev pub taken_report : List Pair → List Pair → Text
taken_report before now =
    change_report (map (λ property. shown property.0) (gone_from now before)) (map property_report (newly_set before now))

-- the command of an IMPORT{program} and what the event's block answers to it, and then what was removed and set of
-- properties, by those before and those now
abbrev pub printed_report : Text → Option AnswerValue → List Pair → List Pair → Text
printed_report command None before now = answer_report command None
printed_report command (Some answer) before now = answer_report command (Some answer) ++ codes ", " ++ taken_report before now

-- what was removed and set of properties, by those before and those now; an import that left a note was not run
abbrev pub noted_report : (noted : Bool) → List Pair → List Pair → Text
noted_report noted before now = if noted then codes "not run" else taken_report before now

-- the text that an IMPORT looks at: for the manual the command of a builtin, and for udev also that of a program, the
-- path of a file and the names of IMPORT{parent}
abbrev pub import_asked : Profile → Import → State → Rendered
import_asked profile (import.Builtin template) s = import_text most_command_bytes template s
import_asked profile.Udev (import.Program template) s = import_text most_command_bytes template s
import_asked profile.Udev (import.File template) s = import_text most_path_bytes template s
import_asked profile.Udev (import.Parent names value) s = names_text value s
import_asked profile other s = rendered.Text []

-- what an IMPORT of a text met, by whether it left a note and the properties after it
abbrev pub import_report : Profile → Import → State → (noted : Bool) → List Pair → Text → Text
import_report profile (import.Builtin template) s noted env command = shown command ++ space ∷ taken_report s.env env
import_report profile.Udev (import.Program template) s noted env command = printed_report command (value_of s.event.programs command) s.env env
import_report profile other s noted env text = noted_report noted s.env env

-- the text that an act looks at
abbrev pub act_asked : ActKind → State → Rendered
act_asked (act_kind.Test mask template) s = test_text template s
act_asked (act_kind.Program template) s = program_text template s
act_asked (act_kind.Import from) s = import_asked s.event.profile from s

-- what an act of a text met, by whether it left a note and the properties after it; a TEST that left one is not made
abbrev pub asked_report : ActKind → State → (noted : Bool) → List Pair → Text → Text
asked_report (act_kind.Test mask template) s noted env path = if noted then codes "not made: " ++ shown path else shown path
asked_report (act_kind.Program template) s noted env command = answer_report command (value_of s.event.programs command)
asked_report (act_kind.Import from) s noted env text = import_report s.event.profile from s noted env text

-- what an act met, by whether it left a note and the properties after it
abbrev pub act_kind_report : ActKind → State → (noted : Bool) → List Pair → Text
act_kind_report kind s noted env = on_rendered (asked_report kind s noted env) (act_asked kind s)

-- whether a scene has other notes than one before it
abbrev pub has_noted : (before after : Scene) → Bool
has_noted before after = not (length after.notes == length before.notes)

-- an act, whether its rule goes on, and what it met, by the scene before it and the one after it
abbrev pub act_met : Act → Scene → Scene × Bool → Text
act_met act s went = act_key act ++ met went.1 ++ act_kind_report act.kind s.state (has_noted s went.0) went.0.state.env

-- an act, and what it met
unfoldable pub act_report : Known → Rule → Act → Scene → Text
act_report known r act s = act_met act s (act_step known r act s)
