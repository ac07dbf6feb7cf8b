-- What `verify` and `update` say.
use Rattle.std.specs.Prelude.{ℕ, Bool, not, ◌==◌, ◌&&◌, if◌then◌else◌, List, [], length, flat_map, map}
use Rattle.text_bytes.specs.declared.source_file.SourceFile.{SourceFile}
use Rattle.text_bytes.specs.declared.source_file.FileKind.TheVariants.{Hwdb, Rules}
use Rattle.file_messages.specs.declared.message.Message.{Message}
use Rattle.text_bytes.specs.Text.{Text}
use Rattle.trie_nodes.specs.declared.entry.Entry.{Entry}
use Rattle.rule_core.specs.Ends.{file_as_read}
use Rattle.rule_core.specs.Rules.{set_of_as}
use Rattle.trie_build.specs.Image.{image}
use Rattle.engine_sessions.specs.Delivery.{RunOutcome}
use Rattle.engine_sessions.specs.declared.line.Format.{Format}
use Rattle.engine_sessions.specs.declared.line.Line.{Line}
use Rattle.engine_reports.specs.Checks.{files_said}
use Rattle.engine_reports.specs.FilesRead.{files_read}
use Rattle.engine_reports.specs.Outcomes.{database_outcome, hold_few_tokens, too_many_rules}
use Rattle.engine_formats.specs.Diagnostics.{DiagnosticValue}
use Rattle.engine_formats.specs.Formats.{formatted, is_report}
use Rattle.engine_checks.specs.Files.{database_reported, rules_reported}

-- what is said in a format: a report for programs is all of the output, and there are no messages
abbrev pub in_format : Format → RunOutcome → RunOutcome
in_format format said = record {
  output = if is_report format then said.messages else said.output;
  messages = if is_report format then [] else said.messages;
  status = said.status;
}

-- what is said about files and what is reported for them
abbrev pub checks_said : Line → List SourceFile → List DiagnosticValue → RunOutcome
checks_said line files reported =
    in_format line.format (files_said line.summary files (map (λ d. d.name) reported) (formatted line.format reported))

-- what `verify` says about rules files
unfoldable pub rules_checks : Line → List SourceFile → RunOutcome
rules_checks line files =
    if hold_few_tokens (set_of_as line.profile files).rules then checks_said line files (flat_map (rules_reported line) files)
    else too_many_rules

-- what `verify` says about the files passed in, whose ends of lines are read as the profile has them
abbrev pub verify_outcome : Line → List SourceFile → RunOutcome
verify_outcome line files = rules_checks line (map (file_as_read line.profile) (files_read Rules line files))

-- the status of `update`: 1 if it is strict and something is reported
abbrev pub update_status : Bool → ℕ → ℕ
update_status strict count = if strict && not (count == 0) then 1 else 0

-- what `update` says about the entries of the database and the text of so many diagnostics: the entries as an index,
-- unless the text is a report for programs
abbrev pub updated_by : Line → Text → ℕ → List Entry → RunOutcome
updated_by line text count entries =
    in_format line.format (record { output = image entries; messages = text; status = update_status line.strict count })

-- what `update` says about the entries and what is reported for the files; the messages of the database are among
-- what is reported
abbrev pub entries_said : Line → List DiagnosticValue → List Entry → List Message → RunOutcome
entries_said line reported entries messages = updated_by line (formatted line.format reported) (length reported) entries

-- what `update` says about files of a database
unfoldable pub database_checks : Line → List SourceFile → RunOutcome
database_checks line files = database_outcome (entries_said line (flat_map (database_reported line) files)) files

-- what `update` says about the files passed in
abbrev pub update_outcome : Line → List SourceFile → RunOutcome
update_outcome line files = database_checks line (files_read Hwdb line files)
