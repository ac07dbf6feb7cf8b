-- What is found in a file, and what is reported for it.
use Rattle.std.specs.Prelude.{◌||◌, if◌then◌else◌, List, [], ◌∷◌, map, option_map}
use Rattle.text_bytes.specs.Lines.{numbered_lines}
use Rattle.file_messages.specs.declared.message.Message.{Message}
use Rattle.text_bytes.specs.declared.source_file.SourceFile.{SourceFile}
use Rattle.text_bytes.specs.Text.{Text}
use Rattle.hwdb_core.specs.Sources.{messages_of}
use Rattle.hwdb_core.specs.Lints.{database_lints}
use Rattle.hwdb_core.specs.declared.placed_lint.PlacedLint.{PlacedLint}
use Rattle.file_messages.specs.declared.message.MessageKind.{MessageKind}
use Rattle.rule_lints.specs.declared.lint.Lint.{Lint}
use Rattle.rule_remarks.specs.Accounts.{Accounts}
use Rattle.rule_remarks.specs.declared.accounts.AccountKind.TheVariants.{User, Group}
use Rattle.rule_remarks.specs.AccountLines.{accounts_of}
use Rattle.rule_remarks.specs.Findings.{findings_as}
use Rattle.rule_places.specs.declared.placed_finding.PlacedFinding.{PlacedFinding}
use Rattle.rule_file_lints.specs.FileLints.{placed_lints}
use Rattle.engine_sessions.specs.declared.line.Line.{Line}
use Rattle.engine_formats.specs.Diagnostics.{DiagnosticValue}
use Rattle.engine_formats.specs.Paths.{path_of}
use Rattle.engine_formats.specs.Placing.{placed}
use Rattle.file_catalogue.specs.declared.remark.Remark.TheVariants as about
use Rattle.engine_checks.specs.Codes.{has_comments}
use Rattle.engine_checks.specs.Ignores.{Ignore, ignores_in}
use Rattle.engine_checks.specs.Reported.{Asked, FileText, diagnostic_in, file_reported, merged}

-- a file that a command line reads, as diagnostics show it
abbrev pub file_text : Line → SourceFile → FileText
file_text line file = record { name = file.name; path = path_of line file; lines = numbered_lines file.bytes }

-- a finding of a rules file as a diagnostic
abbrev pub rule_diagnostic : FileText → PlacedFinding MessageKind → DiagnosticValue
rule_diagnostic file found = diagnostic_in file found.begins found.line found.column found.end (about.Message found.kind) found.word

-- a lint of a rules file as a diagnostic
abbrev pub lint_diagnostic : FileText → PlacedFinding Lint → DiagnosticValue
lint_diagnostic file found = diagnostic_in file found.begins found.line found.column found.end (about.Lint found.kind) found.word

-- a message about a database as a diagnostic
abbrev pub database_diagnostic : FileText → Message → DiagnosticValue
database_diagnostic file message =
    let place = placed file.lines message in
    diagnostic_in file message.line message.line place.column place.end (about.Message message.kind) place.word

-- a lint of a database as a diagnostic
abbrev pub database_lint_diagnostic : FileText → PlacedLint → DiagnosticValue
database_lint_diagnostic file l = diagnostic_in file l.line l.line l.column l.end (about.DatabaseLint l.lint) l.word

-- the texts of `--ignore`
abbrev pub ignored_by : Line → List Text
ignored_by line = map (λ t. t.now) line.ignored.items

-- the users and the groups that a command line knows: those that its files list
abbrev pub accounts_by : Line → Accounts
accounts_by line = record {
  users = option_map (λ file. accounts_of User file.bytes) line.users;
  groups = option_map (λ file. accounts_of Group file.bytes) line.groups;
}

-- what a command line asks for
abbrev pub asked_by : Line → Asked
asked_by line = record { profile = line.profile; accounts = accounts_by line; style = line.style; lint = line.lint; ignored = ignored_by line }

-- the findings about the rules of a file
abbrev pub findings_of : Line → SourceFile → List (PlacedFinding MessageKind)
findings_of line file = findings_as line.profile (accounts_by line) file

-- the lints of a rules file, if they are asked for or comments count, which may silence them
abbrev pub lints_counted : Asked → SourceFile → List (PlacedFinding Lint)
lints_counted asked file = if asked.lint || has_comments asked.ignored then placed_lints asked.profile file else []

-- what is found in a rules file: its findings with these lints merged in, each after all that is found about its rule
abbrev pub found_with : FileText → List (PlacedFinding MessageKind) → List (PlacedFinding Lint) → List DiagnosticValue
found_with file findings lints = merged (map (rule_diagnostic file) findings) (map (lint_diagnostic file) lints)

-- all that is found in a rules file
abbrev pub rules_found : Line → SourceFile → List DiagnosticValue
rules_found line file = found_with (file_text line file) (findings_of line file) (lints_counted (asked_by line) file)

-- the lints of a file of a database, if they are asked for or comments count
abbrev pub database_lints_counted : Asked → SourceFile → List PlacedLint
database_lints_counted asked file = if asked.lint || has_comments asked.ignored then database_lints file.bytes else []

-- what is found in a file of a database: its messages with these lints merged in, each after all that is said of its line
abbrev pub database_found_with : FileText → List Message → List PlacedLint → List DiagnosticValue
database_found_with file messages lints = merged (map (database_diagnostic file) messages) (map (database_lint_diagnostic file) lints)

-- all that is found in a file of a database
abbrev pub database_found : Line → SourceFile → List DiagnosticValue
database_found line file = database_found_with (file_text line file) (messages_of (file ∷ [])) (database_lints_counted (asked_by line) file)

-- the codes in comments of a file, if comments count
abbrev pub ignores_counted : Asked → SourceFile → List Ignore
ignores_counted asked file = if has_comments asked.ignored then ignores_in asked.profile file else []

-- what is reported for what was found in a file
abbrev pub reported_for : Line → SourceFile → List DiagnosticValue → List DiagnosticValue
reported_for line file found = file_reported (asked_by line) (file_text line file) (ignores_counted (asked_by line) file) found

-- what is reported for a rules file
unfoldable pub rules_reported : Line → SourceFile → List DiagnosticValue
rules_reported line file = reported_for line file (rules_found line file)

-- what is reported for a file of a database, which has no messages about style
unfoldable pub database_reported : Line → SourceFile → List DiagnosticValue
database_reported line file = reported_for line file (database_found line file)
