-- What an act of a rule does, and whether the rule goes on.
use Rattle.std.specs.Prelude.{Bool, false, List, [], ◌∷◌, Option, Some, None}
use Rattle.text_bytes.specs.declared.profile.Profile.{Profile}
use Rattle.text_bytes.specs.declared.profile.Profile.TheVariants.{Manual, Udev}
use Rattle.text_bytes.specs.Text.{Text}
use Rattle.text_core.specs.Fnmatch.{fnmatch_items}
use Rattle.text_core.specs.declared.reading.Reading.TheVariants.{Exact}
use Rattle.builtin_devices.specs.Knowledge.{Known}
use Rattle.rule_tokens.specs.Template.{Parts as Template}
use Rattle.rule_types.specs.WrittenParts.{attribute_of_act_kind, key_of_act_kind, type_of}
use Rattle.rule_types.specs.declared.part.Act.{Act}
use Rattle.rule_types.specs.declared.part.ActKind.{ActKind}
use Rattle.rule_types.specs.declared.part.ActKind.TheVariants as act_kind
use Rattle.rule_types.specs.declared.part.Import.{Import}
use Rattle.rule_types.specs.declared.part.Import.TheVariants as import
use Rattle.rule_types.specs.declared.roles.MatchOperator.{MatchOperator}
use Rattle.rule_types.specs.Rules.{Rule}
use Rattle.eval_state.specs.Chains.{device_at}
use Rattle.eval_rendering.specs.Bounds.{most_command_bytes, most_path_bytes}
use Rattle.eval_rendering.specs.declared.rendered.Rendered.{Rendered}
use Rattle.eval_rendering.specs.declared.rendered.Rendered.TheVariants as rendered
use Rattle.eval_rendering.specs.Holding.{agrees}
use Rattle.eval_state.specs.Notes.{word_of_key}
use Rattle.eval_state.specs.Scenes.{noted}
use Rattle.eval_state.specs.declared.note_kind.NoteKind.TheVariants.{TextTooLong}
use Rattle.eval_state.specs.declared.scene.Scene.{Scene}
use Rattle.eval_acts.specs.ActTexts.{import_text, names_text, program_text, test_text}
use Rattle.eval_acts.specs.Imports.{from_cmdline, from_parent, from_program, not_run, run_builtin}
use Rattle.eval_acts.specs.RootImports.{from_file}
use Rattle.eval_acts.specs.Stored.{from_stored}
use Rattle.eval_acts.specs.Questions.{answered_by_block, tested, with_result}
use Rattle.eval_acts.specs.Unread.{unread_noted}

-- an act that was tried, by whether it was done
abbrev pub tried : Scene × Bool → Scene × Option Bool
tried after = (after.0, Some after.1)

-- an act that looks at a rendered text: the scene after it, and whether it was done; nothing if the text is too long
abbrev pub on_text : (Text → Scene → Scene × Bool) → Rendered → Scene → Scene × Option Bool
on_text act (rendered.Text text) s = tried (act text s)
on_text act rendered.TooLong s = (s, None)

-- the properties of the second device whose names fit a text, which for udev is one pattern
abbrev pub from_parent_by : Text → Scene → Scene × Bool
from_parent_by text s = from_parent (fnmatch_items Exact text 0 ∷ []) (device_at s.state.event 1) s

-- IMPORT, by where it takes properties from: for the manual a value of IMPORT{parent} is read with the rule, and for udev
-- it is rendered. For udev alone the event's block answers the command of a program, a name on the kernel's command line,
-- and one that udev had stored, and what was found in the root answers the path of a file. Other types are never run.
abbrev pub imported : Profile → Known → Rule → Import → Scene → Scene × Option Bool
imported profile known r (import.Builtin template) s = on_text (run_builtin known r) (import_text most_command_bytes template s.state) s
imported Manual known r (import.Parent names text) s = tried (from_parent names (device_at s.state.event 1) s)
imported Udev known r (import.Parent names text) s = on_text from_parent_by (names_text text s.state) s
imported Udev known r (import.Program template) s = on_text (from_program r) (import_text most_command_bytes template s.state) s
imported Udev known r (import.File template) s = on_text (from_file known r) (import_text most_path_bytes template s.state) s
imported Udev known r (import.Cmdline name) s = tried (from_cmdline r name s)
imported Udev known r (import.Db name) s = tried (from_stored r name s)
imported profile known r other s = tried (not_run r (type_of other) s)

-- the command of a builtin that is reached: for udev an attribute in it that udev would read, and a dry run does not, leaves a
-- note
abbrev pub command_reached : Profile → Rule → Template → Scene → Scene
command_reached Manual r template s = s
command_reached Udev r template s = unread_noted r template s

-- an IMPORT that is reached: of a builtin, its command
abbrev pub import_reached : Profile → Rule → Import → Scene → Scene
import_reached profile r (import.Builtin template) s = command_reached profile r template s
import_reached profile r other s = s

-- the scene after an act, and whether it was done; PROGRAM empties the result before its command is looked at
abbrev pub performed : Known → Rule → ActKind → Scene → Scene × Option Bool
performed known r (act_kind.Test mask template) s = on_text (tested r mask) (test_text template s.state) s
performed known r (act_kind.Program template) s = on_text (answered_by_block r) (program_text template s.state) (with_result [] s)
performed known r (act_kind.Import from) s = imported s.state.event.profile known r from (import_reached s.state.event.profile r from s)

-- a note on the text of an act, if it is too long
abbrev pub too_long_noted : Rule → ActKind → (done : Option Bool) → Scene → Scene
too_long_noted r kind None s = noted r TextTooLong (word_of_key (key_of_act_kind kind) (attribute_of_act_kind kind)) s
too_long_noted r kind (Some done) s = s

-- whether a rule goes on: with `==` if its act was done, with `!=` if it was not. An act whose text is too long was not
-- done for the manual, and stops the rule for udev.
abbrev pub proceeds : (done : Option Bool) → Profile → MatchOperator → Bool
proceeds (Some done) profile operator = agrees operator done
proceeds None Manual operator = agrees operator false
proceeds None Udev operator = false

-- the scene after an act of a rule, and whether the rule goes on; what was changed stays either way
unfoldable pub act_step : Known → Rule → Act → Scene → Scene × Bool
act_step known r act s =
    let after = performed known r act.kind s in
    (too_long_noted r act.kind after.1 after.0, proceeds after.1 s.state.event.profile act.operator)
