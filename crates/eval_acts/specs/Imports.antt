-- IMPORT, by where it takes properties from. Each returns the scene after it, and whether it was done.
use Rattle.std.specs.Prelude.{Bool, true, false, not, ◌==◌, if◌then◌else◌, List, [], length, filter, Option, Some, None, codes, is_some}
use Rattle.std.specs.Option.{option_and_then}
use Rattle.text_bytes.specs.Texts.{is_empty}
use Rattle.text_bytes.specs.declared.profile.Profile.{Profile}
use Rattle.text_bytes.specs.declared.profile.Profile.TheVariants.{Manual, Udev}
use Rattle.text_bytes.specs.Text.{Text}
use Rattle.text_tables.specs.Pairs.{Pair, value_of, with_values}
use Rattle.text_core.specs.Choices.{choice_fits}
use Rattle.text_core.specs.declared.item.Item.{Item}
use Rattle.builtin_devices.specs.Knowledge.{Known}
use Rattle.device_core.specs.Values.{AnswerValue, DeviceValue, EventValue}
use Rattle.rule_types.specs.Names.{import_name}
use Rattle.rule_types.specs.declared.types.ImportType.{ImportType}
use Rattle.rule_types.specs.declared.types.ImportType.TheVariants.{Cmdline}
use Rattle.rule_types.specs.Rules.{Rule}
use Rattle.eval_commands.specs.Builtins.{builtin, builtin_question}
use Rattle.eval_commands.specs.Cmdline.{cmdline_value}
use Rattle.eval_acts.specs.BuiltinRuns.{input_id_run, needs_noted, net_id_run, net_setup_link_run, path_id_run, usb_id_run}
use Rattle.eval_commands.specs.LookUpNeeds.{lookup_needs}
use Rattle.eval_commands.specs.LookUps.{found}
use Rattle.eval_acts.specs.Printed.{printed_properties}
use Rattle.eval_commands.specs.declared.builtin.Builtin.{Builtin}
use Rattle.eval_commands.specs.declared.hwdb.Hwdb.{Hwdb}
use Rattle.eval_commands.specs.declared.builtin.Builtin.TheVariants as asked
use Rattle.eval_state.specs.Properties.{given_properties, properties_set, property_set}
use Rattle.eval_state.specs.Scenes.{noted, with_env}
use Rattle.eval_state.specs.declared.note_kind.NoteKind.{NoteKind}
use Rattle.eval_state.specs.declared.note_kind.NoteKind.TheVariants.{BadHwdbArguments, BuiltinNotRun, ImportNotRun, NoAnswer}
use Rattle.eval_state.specs.declared.scene.Scene.{Scene}

-- properties with others set one after another; for udev an empty value removes its property
abbrev pub with_found : Profile → List Pair → List Pair → List Pair
with_found Manual env properties = with_values env properties
with_found Udev env properties = properties_set env properties

-- properties are set one after another; it was done if there are any
abbrev pub taken : List Pair → Scene → Scene × Bool
taken properties s = (with_env (with_found s.state.event.profile s.state.env properties) s, not (length properties == 0))

-- `hwdb` takes what it finds; if the block lacks something for that, it is noted
abbrev pub hwdb_run : Known → Rule → Hwdb → Scene → Scene × Bool
hwdb_run known r hwdb s =
    let properties = found known hwdb s.state in
    (needs_noted r (codes "hwdb") (lookup_needs s.state.event.profile s.state hwdb properties) (taken properties s).0, (taken properties s).1)

-- a program that answered: if its status is 0, the properties of what it printed are set; the result of PROGRAM stays
abbrev pub from_answer : AnswerValue → Scene → Scene × Bool
from_answer answer s =
    if answer.status == 0 then (with_env (properties_set s.state.env (printed_properties answer.text)) s, true)
    else (s, false)

-- the properties of an answer, or a note that there is none
abbrev pub from_answer_or_noted : Rule → NoteKind → (word : Text) → Option AnswerValue → Scene → Scene × Bool
from_answer_or_noted r kind word None s = (noted r kind word s, false)
from_answer_or_noted r kind word (Some answer) s = from_answer answer s

-- the builtin of a command: `hwdb` takes what it finds, and five builtins of udev look at the devices. Of the others, by
-- udev, those that set nothing are done and the event's block answers the rest; by the manual none is run.
abbrev pub builtin_run : Known → Rule → Text → Builtin → Scene → Scene × Bool
builtin_run known r command (asked.Hwdb hwdb) s = hwdb_run known r hwdb s
builtin_run known r command asked.InputId s = input_id_run known r s
builtin_run known r command asked.NetId s = net_id_run known r s
builtin_run known r command asked.NetSetupLink s = net_setup_link_run known r s
builtin_run known r command asked.PathId s = path_id_run known s.ran.path_id r s
builtin_run known r command asked.UsbId s = usb_id_run known s.ran.usb_id r s
builtin_run known r command asked.SetsNothing s = (s, true)
builtin_run known r command asked.Fails s = (s, false)
builtin_run known r command (asked.Answered name) s = from_answer_or_noted r BuiltinNotRun name (value_of s.state.event.programs (builtin_question command)) s
builtin_run known r command (asked.Other name) s = (noted r BuiltinNotRun name s, false)
builtin_run known r command asked.BadArguments s = (noted r BadHwdbArguments command s, false)

-- IMPORT{builtin} of a command
abbrev pub run_builtin : Known → Rule → Text → Scene → Scene × Bool
run_builtin known r command s = builtin_run known r command (builtin s.state.event.profile command) s

-- the properties whose names fit
abbrev pub names_fitting : List (List Item) → List Pair → List Pair
names_fitting names properties = filter (λ property. choice_fits names property.0) properties

-- the properties that IMPORT{parent} looks at: for udev a device without a subsystem has none
abbrev pub parent_properties : Profile → DeviceValue → List Pair
parent_properties Manual parent = parent.env
parent_properties Udev parent = if is_some parent.subsystem then given_properties Udev parent.env else []

-- IMPORT{parent} takes the properties of the second device whose names fit; it was done if there is such a device
abbrev pub from_parent : List (List Item) → Option DeviceValue → Scene → Scene × Bool
from_parent names None s = (s, false)
from_parent names (Some parent) s = (with_env (with_values s.state.env (names_fitting names (parent_properties s.state.event.profile parent))) s, true)

-- IMPORT{program} of a command of udev's, which the event's block answers
abbrev pub from_program : Rule → Text → Scene → Scene × Bool
from_program r command s = from_answer_or_noted r NoAnswer command (value_of s.state.event.programs command) s

-- an IMPORT of a type that is never run
abbrev pub not_run : Rule → ImportType → Scene → Scene × Bool
not_run r type s = (noted r ImportNotRun (import_name type) s, false)

-- the constant of an event in which a name is looked up; udev looks up no empty name
abbrev pub words_for : (constant name : Text) → EventValue → Option Text
words_for constant name event = if is_empty name then None else value_of event.constants constant

-- a name is set to what the kernel's command line gives it; it was done if that gives anything
abbrev pub name_given : Text → Option Text → Scene → Scene × Bool
name_given name None s = (s, false)
name_given name (Some value) s = (with_env (property_set name value s.state.env) s, true)

-- IMPORT{cmdline} of a name of udev's, by what some of the words on the kernel's command line give it: if they give it nothing, it
-- is not known whether others do
abbrev pub from_part : Rule → Text → Option Text → Scene → Scene × Bool
from_part r name None s = not_run r Cmdline s
from_part r name (Some value) s = name_given name (Some value) s

-- IMPORT{cmdline} of a name of udev's, by the kernel's command line, or without it by some of its words
abbrev pub from_line : Rule → Text → (line part : Option Text) → Scene → Scene × Bool
from_line r name None part s = from_part r name (option_and_then (cmdline_value name) part) s
from_line r name (Some line) part s = name_given name (cmdline_value name line) s

-- IMPORT{cmdline} of a name of udev's, by what the event gives of the kernel's command line: all of it, or some words
abbrev pub from_cmdline : Rule → Text → Scene → Scene × Bool
from_cmdline r name s =
    from_line r name (words_for (codes "cmdline") name s.state.event) (words_for (codes "cmdline.part") name s.state.event) s
