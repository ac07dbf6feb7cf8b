-- What `events` answers to one block, by one rules file and one database file: texts in, and a text out.
use Rattle.std.specs.Prelude.{[], ◌∷◌, ◌++◌, List, codes, flat_map, None, Result, Ok, Err}
use Rattle.text_bytes.specs.Names.{newline}
use Rattle.text_bytes.specs.declared.profile.Profile.{Profile}
use Rattle.text_bytes.specs.declared.profile.Profile.TheVariants.{Manual, Udev}
use Rattle.text_bytes.specs.declared.source_file.FileKind.{FileKind}
use Rattle.text_bytes.specs.declared.source_file.FileKind.TheVariants.{Hwdb, Rules}
use Rattle.text_bytes.specs.declared.source_file.SourceFile.{SourceFile}
use Rattle.text_bytes.specs.Text.{Text}
use Rattle.trie_nodes.specs.declared.entry.Entry.{Entry}
use Rattle.hwdb_core.specs.Sources.{entries_of}
use Rattle.rule_core.specs.Ends.{file_as_read}
use Rattle.rule_core.specs.Rules.{ReadRules, set_of_as}
use Rattle.device_core.specs.Faults.{block_gives}
use Rattle.device_core.specs.FaultTexts.{fault_text}
use Rattle.device_core.specs.Values.{EventValue, by_profile}
use Rattle.device_core.specs.declared.faults.BlockFault.{BlockFault}
use Rattle.builtin_devices.specs.Knowledge.{Known}
use Rattle.builtin_devices.specs.Outcomes.{failing}
use Rattle.builtin_core.specs.Builtins.{known_by}
use Rattle.link_files.specs.Files.{link_files}
use Rattle.engine_answers.specs.Answers.{answer_by}

-- the text of lines, each with its newline
abbrev pub text : List Text → Text
text lines = flat_map (λ line. line ++ newline ∷ []) lines

-- a file of a kind that has a name and holds a text
abbrev pub file_with : FileKind → Text → Text → SourceFile
file_with kind name bytes = record { kind = kind; rank = 0; name = name; bytes = bytes }

-- one file of rules, `r.rules`, as it is read by a profile
abbrev pub read_by : Profile → Text → ReadRules
read_by profile rules = set_of_as profile (file_as_read profile (file_with Rules (codes "r.rules") rules) ∷ [])

-- the entries of one file of a database, `d.hwdb`
abbrev pub entries_in : Text → List Entry
entries_in database = entries_of (file_with Hwdb (codes "d.hwdb") database ∷ [])

-- what is known beside an event by .link files and their drop-ins, without a database
abbrev pub by_links : (links drop_ins : List SourceFile) → Known
by_links links drop_ins = known_by (record { links = link_files links drop_ins; files = []; entries = [] })

-- what is known beside an event: the entries of a database, and builtins of udev that find nothing, as no example runs one;
-- no file of the root was read
abbrev pub only_entries : List Entry → Known
only_entries entries = record {
  entries = entries;
  usb_id = λ event is_bus_set. failing [];
  path_id = λ event. failing [];
  input_id = λ event. failing [];
  net_id = λ event env. failing [];
  net_lookup = λ event env. None;
  net_setup_link = λ event env. failing [];
  file = λ path. None;
}

-- the answer to an event over which rules are evaluated by a profile, or what is wrong with its block
abbrev pub answer_to : (EventValue → Text) → Profile → Result EventValue BlockFault → Text
answer_to answering profile (Ok event) = answering (by_profile profile event)
answer_to answering profile (Err fault) = fault_text fault

-- what `events` answers, by what is known beside an event, a profile, the text of a rules file and that of a block
abbrev pub answered_knowing : Known → Profile → Text → Text → Text
answered_knowing known profile rules block = answer_to (answer_by (read_by profile rules).rules known) profile (block_gives block)

-- what it answers, by a profile, the text of a rules file, that of a file of a database, and that of a block
unfoldable pub answered_by : Profile → Text → Text → Text → Text
answered_by profile rules database block = answered_knowing (only_entries (entries_in database)) profile rules block

-- what it answers by the manual
abbrev pub answered_with_database : Text → Text → Text → Text
answered_with_database rules database block = answered_by Manual rules database block

-- what it answers by the manual, without a database
abbrev pub answered : Text → Text → Text
answered rules block = answered_by Manual rules [] block

-- what it answers as udev does, without a database
abbrev pub answered_as_udev : Text → Text → Text
answered_as_udev rules block = answered_by Udev rules [] block

-- what it answers as udev does, by .link files and their drop-ins
unfoldable pub answered_by_links : (links drop_ins : List SourceFile) → Text → Text → Text
answered_by_links links drop_ins rules block = answered_knowing (by_links links drop_ins) Udev rules block
