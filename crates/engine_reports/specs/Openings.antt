-- What comes before the first answer to an event: the messages, and what events are answered by.
use Rattle.std.specs.Prelude.{if◌then◌else◌, List, [], ◌++◌, filter, not, Option, Some, None, Result, Ok, Err}
use Rattle.text_bytes.specs.Text.{Text}
use Rattle.file_messages.specs.Messages.{is_style}
use Rattle.file_messages.specs.declared.message.Message.{Message}
use Rattle.text_bytes.specs.declared.profile.Profile.{Profile}
use Rattle.text_bytes.specs.declared.source_file.SourceFile.{SourceFile}
use Rattle.text_bytes.specs.declared.source_file.FileKind.TheVariants.{Hwdb}
use Rattle.trie_nodes.specs.declared.entry.Entry.{Entry}
use Rattle.hwdb_core.specs.Sources.{are_few, entries_of, messages_of}
use Rattle.rule_types.specs.Rules.{Rule}
use Rattle.rule_core.specs.Rules.{set_of_as}
use Rattle.trie_build.specs.declared.index_fault.IndexFault.{IndexFault}
use Rattle.trie_build.specs.Contents.{Contents}
use Rattle.engine_sessions.specs.declared.line.Line.{Line}
use Rattle.engine_sessions.specs.Delivery.{RunOutcome}
use Rattle.engine_reports.specs.FilesRead.{files_read, rules_read}
use Rattle.engine_reports.specs.Indexes.{entries_in, refused_index}
use Rattle.engine_reports.specs.Messages.{message_lines}
use Rattle.engine_reports.specs.Outcomes.{hold_few_tokens, too_many_entries, too_many_rules}

-- the lines of the messages, and what events are answered by: the messages about the rules, the rules and the entries
pub record OpeningValue : Type 0 where
  pub messages : Text
  pub about_rules : List Message
  pub rules : List Rule
  pub entries : List Entry

-- the messages that are not about style
abbrev pub without_style : List Message → List Message
without_style messages = filter (λ m. not (is_style m.kind)) messages

-- the lines of the messages about rules that are not about style, and then of those about a database
abbrev pub opening_messages : List Message → List Message → Text
opening_messages rules database = message_lines (without_style rules) ++ message_lines database

-- what comes before the first answer, by rules files read by a profile, messages about a database and its entries, if
-- the rules hold no more than they may, and else what is said about that
unfoldable pub opening_by : Profile → List SourceFile → List Message → List Entry → Result OpeningValue RunOutcome
opening_by profile files messages entries =
    let read = set_of_as profile files in
    if hold_few_tokens read.rules then Ok (record {
      messages = opening_messages read.messages messages;
      about_rules = read.messages;
      rules = read.rules;
      entries = entries;
    })
    else Err too_many_rules

-- the same by rules files and files of a database, if these also hold no more than they may; if both hold more, that
-- is said about the database
unfoldable pub opening_within : Profile → List SourceFile → List SourceFile → Result OpeningValue RunOutcome
opening_within profile rules database = if are_few database then opening_by profile rules (messages_of database) (entries_of database) else Err too_many_entries

-- the same by the files passed in, rules by the line's profile, or with the outcome of opening an index instead of
-- the files of a database
abbrev pub opening : Line → List SourceFile → Option (Result Contents IndexFault) → Result OpeningValue RunOutcome
opening line files None = opening_within line.profile (rules_read line files) (files_read Hwdb line files)
opening line files (Some (Ok contents)) = opening_by line.profile (rules_read line files) [] (entries_in contents)
opening line files (Some (Err fault)) = Err (refused_index fault)
