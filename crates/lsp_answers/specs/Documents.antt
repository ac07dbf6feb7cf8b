-- What is reported for an open document.
use Rattle.std.specs.Prelude.{if◌then◌else◌, nat_eq, List, [], ◌∷◌, codes}
use Rattle.std.specs.List.{ends_with}
use Rattle.text_bytes.specs.Kinds.{suffix_of}
use Rattle.text_bytes.specs.declared.source_file.FileKind.{FileKind}
use Rattle.text_bytes.specs.declared.source_file.FileKind.TheVariants.{Hwdb, Rules}
use Rattle.text_bytes.specs.declared.source_file.SourceFile.{SourceFile}
use Rattle.text_bytes.specs.Text.{Text}
use Rattle.json.specs.Json.{Json, string}
use Rattle.text_json.specs.Values.{array_of, number_value, object_of}
use Rattle.hwdb_core.specs.Sources.{are_few}
use Rattle.rule_core.specs.Ends.{file_as_read}
use Rattle.engine_formats.specs.Diagnostics.{DiagnosticValue}
use Rattle.engine_checks.specs.Tables.{database_reported_by, read_at, rules_reported_by}
use Rattle.lsp_messages.specs.declared.counting.Encoding.{Encoding}
use Rattle.lsp_messages.specs.Positions.{range_value}
use Rattle.lsp_answers.specs.Diagnostics.{diagnostic_values}
use Rattle.lsp_answers.specs.Settings.{Settings, asked_by}

-- what a document holds, by how its URI ends: a database, or else rules
abbrev pub kind_of : Text → FileKind
kind_of uri = if ends_with nat_eq uri (suffix_of Hwdb) then Hwdb else Rules

-- a document as a file, whose name is its URI
abbrev pub file_of : (uri text : Text) → SourceFile
file_of uri text = record { kind = kind_of uri; rank = 0; name = uri; bytes = text }

-- what is reported for a rules file, whose ends of lines are read by the profile: what `verify` reports for it
abbrev pub rules_diagnostics : Settings → SourceFile → List DiagnosticValue
rules_diagnostics settings file = rules_reported_by (asked_by settings) (read_at file.name (file_as_read settings.profile file))

-- what is reported for a file of a database: what `update` reports for it
abbrev pub database_diagnostics : Settings → SourceFile → List DiagnosticValue
database_diagnostics settings file = database_reported_by (asked_by settings) (read_at file.name file)

-- one diagnostic at the start of a document, which says what is wrong with all of it
unfoldable pub about_whole : (said : Text) → Json
about_whole said =
    array_of
    (object_of
    ((codes "range", range_value (record { line = 0; character = 0 }) (record { line = 0; character = 0 })) ∷ (codes "severity", number_value 1)
    ∷ (codes "source", string (codes "devdry")) ∷ (codes "message", string said) ∷ []) ∷ [])

-- what is said about a file that holds more than a database may
abbrev pub too_much : Json
too_much = about_whole (codes "more entries than a database may hold")

-- what is reported for a file of a kind
abbrev pub reported_as : FileKind → Encoding → Settings → SourceFile → Json
reported_as Rules encoding settings file = diagnostic_values encoding (rules_diagnostics settings file)
reported_as Hwdb encoding settings file =
    if are_few (file ∷ []) then diagnostic_values encoding (database_diagnostics settings file)
    else too_much

-- what is reported for a document
unfoldable pub document_diagnostics : Encoding → Settings → (uri text : Text) → Json
document_diagnostics encoding settings uri text = reported_as (kind_of uri) encoding settings (file_of uri text)
