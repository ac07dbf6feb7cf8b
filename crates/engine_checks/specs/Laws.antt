-- What is left out, what is said about codes in comments, and where these are.
use Rattle.std.specs.Prelude.{◌≡◌, ◌⊎◌, ◌<◌, ◌≤◌, ◌-◌, ℕ, Bool, true, false, List, ◌∷◌, ◌++◌, filter, map, not, take, drop, All, Contains, Option, Some, None}
use Rattle.text_bytes.specs.Text.{Text}
use Rattle.text_bytes.specs.Lines.{numbered_lines}
use Rattle.text_bytes.specs.Texts.{trimmed, unindented}
use Rattle.text_bytes.specs.declared.source_file.SourceFile.{SourceFile}
use Rattle.hwdb_core.specs.Lints.{database_lints}
use Rattle.rule_file_lints.specs.FileLints.{placed_lints}
use Rattle.engine_sessions.specs.declared.line.Line.{Line}
use Rattle.engine_formats.specs.Diagnostics.{DiagnosticValue}
use Rattle.engine_formats.specs.Placing.{line_numbered}
use Rattle.file_catalogue.specs.Catalogue.{code_of}
use Rattle.file_catalogue.specs.declared.remark.Remark.{Remark}
use Rattle.file_catalogue.specs.declared.remark.Remark.TheVariants.{Message, Lint, DatabaseLint, LinkFault, IdleIgnore, UnknownCode}
use Rattle.engine_checks.specs.Codes.{is_found}
use Rattle.engine_checks.specs.Files.{database_lint_diagnostic, file_text, findings_of, lint_diagnostic, rule_diagnostic}
use Rattle.engine_checks.specs.Ignores.{Ignore}
use Rattle.engine_checks.specs.Reported.{Asked, is_about_style, is_lint}
use Rattle.engine_checks.specs.declared.ignores.Scope.TheVariants.{File, Next, Unread}

-- what is about the file among diagnostics, messages and lints, in their order
abbrev pub found_among : List DiagnosticValue → List DiagnosticValue
found_among reported = filter (λ d. is_found d.remark) reported

-- the remarks on comments among diagnostics, in their order
abbrev pub remarks_among : List DiagnosticValue → List DiagnosticValue
remarks_among reported = filter (λ d. not (is_found d.remark)) reported

-- whether a remark is a message
abbrev pub is_message : Remark → Bool
is_message (Message kind) = true
is_message (Lint lint) = false
is_message (DatabaseLint lint) = false
is_message (LinkFault fault) = false
is_message IdleIgnore = false
is_message UnknownCode = false

-- the messages among diagnostics, in their order
abbrev pub messages_among : List DiagnosticValue → List DiagnosticValue
messages_among reported = filter (λ d. is_message d.remark) reported

-- the lints among diagnostics, in their order
abbrev pub lints_among : List DiagnosticValue → List DiagnosticValue
lints_among reported = filter (λ d. is_lint d.remark) reported

-- the messages about a rules file
abbrev pub messages_in : Line → SourceFile → List DiagnosticValue
messages_in line file = map (rule_diagnostic (file_text line file)) (findings_of line file)

-- the lints of a rules file
abbrev pub lints_in : Line → SourceFile → List DiagnosticValue
lints_in line file = map (lint_diagnostic (file_text line file)) (placed_lints line.profile file)

-- the lints of a file of a database
abbrev pub database_lints_in : Line → SourceFile → List DiagnosticValue
database_lints_in line file = map (database_lint_diagnostic (file_text line file)) (database_lints file.bytes)

-- A code in a comment silences what was found: that has the code, and the comment is about the whole file, or about
-- the line with which this is reported.
pub record IsSilencing (ignore : Ignore) (d : DiagnosticValue) : Type 0 where
  pub code : code_of d.remark ≡ ignore.code
  pub about : (ignore.scope ≡ File) ⊎ (ignore.scope ≡ Next (Some d.begins))

-- What was found is left out: it is a lint and lints are, it is about style and style is, its code is a text of `--ignore`, or a code in a comment silences it.
abbrev pub IsLeftOut : Asked → List Ignore → DiagnosticValue → Type 0
IsLeftOut asked ignores d =
    ((asked.lint ≡ false) × (is_lint d.remark ≡ true))
    ⊎ (((asked.style ≡ false) × (is_about_style d.remark ≡ true))
    ⊎ (Contains asked.ignored (code_of d.remark) ⊎ ((ignore : Ignore) × (Contains ignores ignore × IsSilencing ignore d))))

-- A code in a comment silences something that was found.
abbrev pub IsInUse : List DiagnosticValue → Ignore → Type 0
IsInUse found ignore = (d : DiagnosticValue) × (Contains found d × IsSilencing ignore d)

-- A code in a comment is the code of no message and of no lint, or the comment is not understood.
abbrev pub IsUnknown : Ignore → Type 0
IsUnknown ignore = (ignore.scope ≡ Unread) ⊎ ((remark : Remark) → is_found remark ≡ true → code_of remark ≡ ignore.code → ⊥)

-- What is to be said about a code in a comment: nothing if it is in use, that it is unknown if it is, and else that
-- it silences nothing.
abbrev pub IsSaidOf : List DiagnosticValue → Ignore → Option Remark → Type 0
IsSaidOf found ignore None = IsInUse found ignore
IsSaidOf found ignore (Some UnknownCode) = IsUnknown ignore
IsSaidOf found ignore (Some IdleIgnore) = (IsInUse found ignore → ⊥) × (IsUnknown ignore → ⊥)
IsSaidOf found ignore (Some (Message kind)) = ⊥
IsSaidOf found ignore (Some (Lint lint)) = ⊥
IsSaidOf found ignore (Some (DatabaseLint lint)) = ⊥
IsSaidOf found ignore (Some (LinkFault fault)) = ⊥

-- A code in a comment is in the line with its number at its columns, without the blanks before it and the whitespace
-- after it.
pub record IsInLine (bytes : Text) (ignore : Ignore) : Type 0 where
  pub text : take (ignore.end - ignore.column) (drop (ignore.column - 1) (line_numbered (numbered_lines bytes) ignore.line)) ≡ ignore.code
  pub begins : 0 < ignore.column
  pub prefix : unindented ignore.code ≡ ignore.code
  pub back : trimmed ignore.code ≡ ignore.code

-- A line is the first of these numbers after another one, and there is no line if no number is after that.
abbrev pub IsFirstAfter : Text → ℕ → Option ℕ → Type 0
IsFirstAfter starts line None = All (λ start. start ≤ line) starts
IsFirstAfter starts line (Some next) =
    (passed : Text) × ((more : Text) × ((starts ≡ passed ++ next ∷ more) × (All (λ start. start ≤ line) passed × (line < next))))

-- A comment on the next rule is about the first of these lines after its own.
abbrev pub IsAboutNext : Text → Ignore → Type 0
IsAboutNext starts ignore = (next : Option ℕ) → ignore.scope ≡ Next next → IsFirstAfter starts ignore.line next
