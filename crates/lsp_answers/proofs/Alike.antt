-- What is reported for a document is what is reported for a file by itself, opened by its URI.
use Rattle.std.proofs.Common.{◌≡◌, [], ◌∷◌, cond, refl, sym, ap, ◌∙◌, true}
use Rattle.text_bytes.specs.declared.profile.Profile.{Profile}
use Rattle.text_bytes.specs.declared.profile.Profile.TheVariants.{Manual, Udev}
use Rattle.text_bytes.specs.declared.source_file.FileKind.TheVariants.{Hwdb, Rules}
use Rattle.text_bytes.specs.declared.source_file.SourceFile.{SourceFile}
use Rattle.text_bytes.specs.Text.{Text}
use Rattle.hwdb_core.specs.Sources.{are_few}
use Rattle.rule_core.specs.Ends.{file_as_read}
use Rattle.engine_sessions.specs.declared.line.Line.{Line}
use Rattle.engine_formats.specs.Paths.{path_of}
use Rattle.engine_checks.specs.Files.{database_reported, rules_reported}
use Rattle.engine_checks.specs.Reported.{Asked}
use Rattle.engine_checks.specs.Tables.{AsksLike, database_reported_by, read_at, rules_reported_by}
use Rattle.lsp_messages.specs.declared.counting.Encoding.{Encoding}
use Rattle.lsp_answers.specs.Settings.{Settings, asked_by}
use Rattle.lsp_answers.specs.Diagnostics.{diagnostic_values}
use Rattle.lsp_answers.specs.Documents.{database_diagnostics, document_diagnostics, file_of, kind_of, reported_as, rules_diagnostics, too_much}

-- what a law of checks says of a rules file and of a file of a database
pub record ReportedAlike : Type 0 where
  pub rules : (line : Line) (asked : Asked) (file : SourceFile) → AsksLike line asked
      → rules_reported_by asked (read_at (path_of line file) file) ≡ rules_reported line file
  pub database : (line : Line) (asked : Asked) (file : SourceFile) → AsksLike line asked
      → database_reported_by asked (read_at (path_of line file) file) ≡ database_reported line file

-- a file has the same path as it is read by a profile
path_read : (profile : Profile) (line : Line) (file : SourceFile) → path_of line (file_as_read profile file) ≡ path_of line file
path_read Manual line file = refl
path_read Udev line file = refl

-- a rules file that is opened by its name
rules_alike : ReportedAlike → (line : Line) (settings : Settings) (file : SourceFile) → AsksLike line (asked_by settings) → path_of line file ≡ file.name
    → rules_diagnostics settings file ≡ rules_reported line (file_as_read line.profile file)
rules_alike law line settings file like opened =
    ap (λ (profile : Profile). rules_reported_by (asked_by settings) (read_at file.name (file_as_read profile file))) like.profile
    ∙ ap (λ (path : Text). rules_reported_by (asked_by settings) (read_at path (file_as_read line.profile file))) (sym (path_read line.profile line file ∙ opened))
    ∙ law.rules line (asked_by settings) (file_as_read line.profile file) like

-- a file of a database that is opened by its name
database_alike : ReportedAlike → (line : Line) (settings : Settings) (file : SourceFile) → AsksLike line (asked_by settings) → path_of line file ≡ file.name
    → database_diagnostics settings file ≡ database_reported line file
database_alike law line settings file like opened =
    ap (λ (path : Text). database_reported_by (asked_by settings) (read_at path file)) (sym opened)
    ∙ law.database line (asked_by settings) file like

pub rules_document : ReportedAlike → (line : Line) (encoding : Encoding) (settings : Settings) (uri text : Text) → kind_of uri ≡ Rules
    → AsksLike line (asked_by settings) → path_of line (file_of uri text) ≡ uri
    → document_diagnostics encoding settings uri text ≡ diagnostic_values encoding (rules_reported line (file_as_read line.profile (file_of uri text)))
unfolding document_diagnostics
rules_document law line encoding settings uri text is like opened =
    ap (λ kind. reported_as kind encoding settings (file_of uri text)) is
    ∙ ap (diagnostic_values encoding) (rules_alike law line settings (file_of uri text) like opened)

pub database_document : ReportedAlike → (line : Line) (encoding : Encoding) (settings : Settings) (uri text : Text) → kind_of uri ≡ Hwdb
    → AsksLike line (asked_by settings) → path_of line (file_of uri text) ≡ uri → are_few (file_of uri text ∷ []) ≡ true
    → document_diagnostics encoding settings uri text ≡ diagnostic_values encoding (database_reported line (file_of uri text))
unfolding document_diagnostics
database_document law line encoding settings uri text is like opened few =
    ap (λ kind. reported_as kind encoding settings (file_of uri text)) is
    ∙ ap (λ within. cond within (diagnostic_values encoding (database_diagnostics settings (file_of uri text))) too_much) few
    ∙ ap (diagnostic_values encoding) (database_alike law line settings (file_of uri text) like opened)
