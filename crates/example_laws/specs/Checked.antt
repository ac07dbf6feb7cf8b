-- What `verify` and `update` say about the texts of files, whatever else their lines ask for.
use Rattle.std.specs.Prelude.{◌≡◌, ℕ, true, false, List, [], ◌∷◌, None, codes}
use Rattle.text_bytes.specs.declared.profile.Profile.{Profile}
use Rattle.text_bytes.specs.declared.profile.Profile.TheVariants.{Manual}
use Rattle.text_bytes.specs.declared.source_file.FileKind.TheVariants.{Hwdb, Rules}
use Rattle.text_bytes.specs.declared.source_file.SourceFile.{SourceFile}
use Rattle.text_bytes.specs.Text.{Text}
use Rattle.engine_sessions.specs.Delivery.{RunOutcome}
use Rattle.engine_sessions.specs.Kinds.{names_files_of}
use Rattle.engine_sessions.specs.declared.line.Format.{Format}
use Rattle.engine_sessions.specs.declared.line.Line.{Line}
use Rattle.engine_checks.specs.Files.{asked_by}
use Rattle.engine_checks.specs.Links.{links_outcome}
use Rattle.engine_checks.specs.Outcomes.{update_outcome, verify_outcome}
use Rattle.engine_checks.specs.Reported.{Asked}
use Rattle.example_laws.specs.Answered.{file_with}

-- what a line asks for with `--lint`, by a profile, with these codes ignored
abbrev pub linting : Profile → List Text → Asked
linting profile ignored = record { profile = profile; accounts = record { users = None; groups = None }; style = true; lint = true; ignored = ignored }

-- what it asks for without
abbrev pub not_linting : Asked
not_linting = record (linting Manual []) { lint = false }

-- A line names a file of rules, asks for that, writes messages in a format, and counts files.
pub record IsVerify (asked : Asked) (format : Format) (line : Line) : Type 0 where
  pub named : names_files_of line Rules ≡ true
  pub asks : asked_by line ≡ asked
  pub writes : line.format ≡ format
  pub counts : line.summary ≡ true

-- the file of rules with a text
abbrev pub rules_file : Text → SourceFile
rules_file rules = file_with Rules (codes "r.rules") rules

-- such a line has this outcome over a rules file with a text
abbrev pub Checks : Asked → Format → Text → RunOutcome → Type 0
Checks asked format rules said = (line : Line) → IsVerify asked format line → verify_outcome line (rules_file rules ∷ []) ≡ said

-- the outcome with this output, these messages and this status
abbrev pub said : Text → Text → ℕ → RunOutcome
said output messages status = record { output = output; messages = messages; status = status }

-- such a line with `--links` has this outcome over .link files
abbrev pub ChecksLinks : Asked → Format → List SourceFile → RunOutcome → Type 0
ChecksLinks asked format links said = (line : Line) → IsVerify asked format line → links_outcome line links ≡ said

-- A line of `update` names a file of a database, asks for that, and writes messages in a format.
pub record IsUpdate (asked : Asked) (format : Format) (line : Line) : Type 0 where
  pub named : names_files_of line Hwdb ≡ true
  pub asks : asked_by line ≡ asked
  pub writes : line.format ≡ format

-- the file of a database with a text
abbrev pub database_file : Text → SourceFile
database_file database = file_with Hwdb (codes "d.hwdb") database

-- such a line writes these messages over a file of a database with a text
abbrev pub ChecksDatabase : Asked → Format → Text → (messages : Text) → Type 0
ChecksDatabase asked format database messages =
    (line : Line) → IsUpdate asked format line → (update_outcome line (database_file database ∷ [])).messages ≡ messages
