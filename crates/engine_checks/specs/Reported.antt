-- Which diagnostics of a file are reported, and which remarks on its comments.
use Rattle.std.specs.Prelude.{ℕ, Bool, true, false, not, ◌==◌, ◌||◌, ◌&&◌, if◌then◌else◌, List, filter, filter_map, Option, Some}
use Rattle.std.specs.Prelude.{None, option_map}
use Rattle.std.specs.List.{list_any}
use Rattle.text_bytes.specs.Lines.{NumberedLine}
use Rattle.text_bytes.specs.declared.profile.Profile.{Profile}
use Rattle.file_messages.specs.Messages.{is_style}
use Rattle.text_bytes.specs.Text.{Text}
use Rattle.text_tables.specs.Texts.{is_among, same_text}
use Rattle.rule_remarks.specs.Accounts.{Accounts}
use Rattle.rule_remarks.specs.ByLine.{by_line}
use Rattle.engine_formats.specs.Diagnostics.{DiagnosticValue}
use Rattle.engine_formats.specs.Placing.{line_numbered}
use Rattle.file_catalogue.specs.Catalogue.{code_of}
use Rattle.file_catalogue.specs.declared.remark.Remark.{Remark}
use Rattle.file_catalogue.specs.declared.remark.Remark.TheVariants.{Message, Lint, DatabaseLint, IdleIgnore, UnknownCode}
use Rattle.engine_checks.specs.Codes.{is_code}
use Rattle.engine_checks.specs.Ignores.{Ignore}
use Rattle.engine_checks.specs.declared.ignores.Scope.{Scope}
use Rattle.engine_checks.specs.declared.ignores.Scope.TheVariants.{File, Next, Unread}

-- whether a comment is about what is reported for a line
abbrev pub covers : Scope → ℕ → Bool
covers File line = true
covers (Next (Some next)) line = line == next
covers _ line = false

-- whether a code in a comment silences a diagnostic: it is the diagnostic's code, and the comment is about the line
-- for which the diagnostic is reported
abbrev pub silences : Ignore → DiagnosticValue → Bool
silences ignore d = covers ignore.scope d.begins && same_text (code_of d.remark) ignore.code

-- whether one of these codes in comments silences a diagnostic
abbrev pub is_silenced : List Ignore → DiagnosticValue → Bool
is_silenced ignores d = list_any (λ ignore. silences ignore d) ignores

-- whether a remark is a message about style
abbrev pub is_about_style : Remark → Bool
is_about_style (Message kind) = is_style kind
is_about_style _ = false

-- whether a remark is a lint
abbrev pub is_lint : Remark → Bool
is_lint (Lint lint) = true
is_lint (DatabaseLint lint) = true
is_lint _ = false

-- what a command line asks for: the profile by which rules are read, the users and groups that are known, whether
-- messages about style are reported and whether lints are, and the codes of what is not reported
pub record Asked : Type 0 where
  pub profile : Profile
  pub accounts : Accounts
  pub style : Bool
  pub lint : Bool
  pub ignored : List Text

-- whether a remark is asked for: with or without lints, with or without style, past the codes of `--ignore`
abbrev pub is_asked : Asked → Remark → Bool
is_asked asked remark = ((not (is_lint remark) || asked.lint) && (asked.style || not (is_about_style remark))) && not (is_among asked.ignored (code_of remark))

-- whether what was found is reported: it is asked for, and no code in a comment silences it
abbrev pub is_reported : Asked → List Ignore → DiagnosticValue → Bool
is_reported asked ignores d = is_asked asked d.remark && not (is_silenced ignores d)

-- whether a code in a comment is unknown, or the comment is not understood
abbrev pub is_unknown : Scope → Text → Bool
is_unknown Unread code = true
is_unknown scope code = not (is_code code)

-- what is to be said about a code in a comment, by all that was found in the file: that there is no such code, or
-- that it silences none of this
abbrev pub remark_on : List DiagnosticValue → Ignore → Option Remark
remark_on found ignore =
    if is_unknown ignore.scope ignore.code then Some UnknownCode
    else if list_any (silences ignore) found then None
    else Some IdleIgnore

-- a file as diagnostics show it: its name, the path by which it was opened, and its lines
pub record FileText : Type 0 where
  pub name : Text
  pub path : Text
  pub lines : List NumberedLine

-- a remark on a word of a file as a diagnostic, by the line for which it is reported and the word's place
abbrev pub diagnostic_in : FileText → (begins line column end : ℕ) → Remark → (word : Text) → DiagnosticValue
diagnostic_in file begins line column end remark word = record {
  name = file.name;
  path = file.path;
  source = line_numbered file.lines line;
  begins = begins;
  line = line;
  column = column;
  end = end;
  remark = remark;
  word = word;
}

-- what is said about a code in a comment, as a diagnostic
abbrev pub comment_diagnostic : FileText → Ignore → Remark → DiagnosticValue
comment_diagnostic file ignore remark = diagnostic_in file ignore.line ignore.line ignore.column ignore.end remark ignore.code

-- what is to be said about the codes in comments of a file
abbrev pub comment_diagnostics : FileText → List DiagnosticValue → List Ignore → List DiagnosticValue
comment_diagnostics file found ignores = filter_map (λ ignore. option_map (comment_diagnostic file ignore) (remark_on found ignore)) ignores

-- diagnostics with others merged in by the lines with which they are reported
abbrev pub merged : List DiagnosticValue → List DiagnosticValue → List DiagnosticValue
merged found others = by_line (λ d. d.begins) found others

-- what is reported for a file, by what was found in it and the codes in its comments; what is said about these also
-- has to be asked for
unfoldable pub file_reported : Asked → FileText → List Ignore → List DiagnosticValue → List DiagnosticValue
file_reported asked file ignores found =
    merged (filter (is_reported asked ignores) found) (filter (λ d. is_asked asked d.remark) (comment_diagnostics file found ignores))
