-- Codes in comments and codes of diagnostics, as tables hold them, and what is reported for a file that is read by what is asked.
use Rattle.std.specs.Prelude.{◌≡◌, ℕ, Bool, true, false, not, ◌==◌, ◌&&◌, ◌||◌, if◌then◌else◌, List, [], ◌∷◌, map, Option, Some, None}
use Rattle.std.specs.List.{list_any}
use Rattle.std.specs.Option.{option_map_or}
use Rattle.text_bytes.specs.Lines.{numbered_lines}
use Rattle.text_bytes.specs.Text.{Text}
use Rattle.text_tables.specs.Texts.{is_among, same_text}
use Rattle.engine_formats.specs.Diagnostics.{DiagnosticValue}
use Rattle.file_catalogue.specs.Catalogue.{code_of}
use Rattle.file_catalogue.specs.declared.remark.Remark.{Remark}
use Rattle.file_catalogue.specs.declared.remark.Remark.TheVariants.{IdleIgnore, UnknownCode}
use Rattle.text_bytes.specs.declared.source_file.SourceFile.{SourceFile}
use Rattle.hwdb_core.specs.Sources.{messages_of}
use Rattle.rule_remarks.specs.Findings.{findings_as}
use Rattle.engine_sessions.specs.declared.line.Line.{Line}
use Rattle.engine_checks.specs.Ignores.{Ignore}
use Rattle.engine_checks.specs.Files.{accounts_by, database_found_with, database_lints_counted, file_text, found_with, ignored_by, ignores_counted}
use Rattle.engine_checks.specs.Files.{lints_counted}
use Rattle.engine_checks.specs.Links.{link_text, links_found}
use Rattle.engine_checks.specs.Reported.{Asked, FileText, file_reported, is_asked, is_unknown}
use Rattle.engine_checks.specs.declared.ignores.Scope.{Scope}
use Rattle.engine_checks.specs.declared.ignores.Scope.TheVariants.{File, Next, Unread}

-- whether a pair is this code at this line
abbrev pub is_code_at : ℕ → Text → ℕ × Text → Bool
is_code_at line code pair = line == pair.0 && same_text code pair.1

-- whether a code is there at a line
abbrev pub has_code_at : List (ℕ × Text) → ℕ → Text → Bool
has_code_at pairs line code = list_any (is_code_at line code) pairs

-- whether a comment is about the whole file
abbrev pub is_file : Scope → Bool
is_file File = true
is_file (Next next) = false
is_file Unread = false

-- the line that a comment is about
abbrev pub next_line : Scope → Option ℕ
next_line File = None
next_line (Next next) = next
next_line Unread = None

-- whether a comment asks to ignore this code in the whole file
abbrev pub is_in_file : Text → Ignore → Bool
is_in_file code ignore = is_file ignore.scope && same_text code ignore.code

-- whether a comment asks to ignore this code at this line
abbrev pub is_next_at : ℕ → Text → Ignore → Bool
is_next_at line code ignore = option_map_or (λ next. is_code_at line code (next, ignore.code)) (next_line ignore.scope) false

-- whether a diagnostic has this code
abbrev pub has_code : Text → DiagnosticValue → Bool
has_code code d = same_text code (code_of d.remark)

-- whether it has this code and is reported for this line
abbrev pub has_code_in : ℕ → Text → DiagnosticValue → Bool
has_code_in line code d = is_code_at line code (d.begins, code_of d.remark)

-- whether tables of what is ignored in the file and at lines have the code of a diagnostic
abbrev pub are_silencing : List Text → List (ℕ × Text) → DiagnosticValue → Bool
are_silencing in_file at_lines d = is_among in_file (code_of d.remark) || has_code_at at_lines d.begins (code_of d.remark)

-- whether tables of what was found in the file and at lines have what a code in a comment is about
abbrev pub is_met : List Text → List (ℕ × Text) → Scope → Text → Bool
is_met found at_lines scope code = (is_file scope && is_among found code) || option_map_or (λ next. has_code_at at_lines next code) (next_line scope) false

-- what is to be said about a code in a comment, by such tables
abbrev pub remark_by : List Text → List (ℕ × Text) → Ignore → Option Remark
remark_by found at_lines ignore =
    if is_unknown ignore.scope ignore.code then Some UnknownCode
    else if is_met found at_lines ignore.scope ignore.code then None
    else Some IdleIgnore

-- whether a diagnostic is reported, by tables of what is ignored
abbrev pub is_reported_by : Asked → List Text → List (ℕ × Text) → DiagnosticValue → Bool
is_reported_by asked in_file at_lines d = is_asked asked d.remark && not (are_silencing in_file at_lines d)

-- a file that is read for its checks: as diagnostics show it
pub record FileRead : Type 0 where
  pub file : SourceFile
  pub text : FileText

-- a file that was opened by a path
abbrev pub read_at : Text → SourceFile → FileRead
read_at path file = record { file = file; text = record { name = file.name; path = path; lines = numbered_lines file.bytes } }

-- a file that a command line reads
abbrev pub read_by : Line → SourceFile → FileRead
read_by line file = record { file = file; text = file_text line file }

-- all that is found in a rules file that is read
abbrev pub rules_found_by : Asked → FileRead → List DiagnosticValue
rules_found_by asked read = found_with read.text (findings_as asked.profile asked.accounts read.file) (lints_counted asked read.file)

-- what is reported for a rules file that is read
abbrev pub rules_reported_by : Asked → FileRead → List DiagnosticValue
rules_reported_by asked read = file_reported asked read.text (ignores_counted asked read.file) (rules_found_by asked read)

-- all that is found in a file of a database that is read
abbrev pub database_found_by : Asked → FileRead → List DiagnosticValue
database_found_by asked read = database_found_with read.text (messages_of (read.file ∷ [])) (database_lints_counted asked read.file)

-- what is reported for a file of a database that is read
abbrev pub database_reported_by : Asked → FileRead → List DiagnosticValue
database_reported_by asked read = file_reported asked read.text (ignores_counted asked read.file) (database_found_by asked read)

-- a .link file that a command line reads
abbrev pub link_read_by : Line → SourceFile → FileRead
link_read_by line file = record { file = file; text = link_text line file }

-- what is reported for a .link file that is read, among these files
abbrev pub links_reported_by : Asked → List SourceFile → FileRead → List DiagnosticValue
links_reported_by asked files read = file_reported asked read.text (ignores_counted asked read.file) (links_found read.text files read.file)

-- The same is asked for as by a command line, whatever the order in which codes are ignored.
pub record AsksLike (line : Line) (asked : Asked) : Type 0 where
  pub profile : asked.profile ≡ line.profile
  pub accounts : asked.accounts ≡ accounts_by line
  pub style : asked.style ≡ line.style
  pub lint : asked.lint ≡ line.lint
  pub ignored : (code : Text) → is_among asked.ignored code ≡ is_among (ignored_by line) code
