-- What mends a document in the place of a diagnostic.
use Rattle.std.specs.Prelude.{ℕ, ◌-◌, ◌&&◌, Bool, nat_le, if◌then◌else◌, List, [], ◌∷◌, ◌++◌, Option, Some, None, codes, flat_map}
use Rattle.text_bytes.specs.declared.source_file.FileKind.{FileKind}
use Rattle.text_bytes.specs.declared.source_file.FileKind.TheVariants.{Hwdb, Rules}
use Rattle.text_bytes.specs.Text.{Text}
use Rattle.json.specs.Json.{Json, string}
use Rattle.text_json.specs.Told.{told}
use Rattle.text_json.specs.Values.{array_of, object_of}
use Rattle.file_messages.specs.declared.message.MessageKind.TheVariants.{UnknownKey}
use Rattle.engine_formats.specs.Diagnostics.{DiagnosticValue}
use Rattle.engine_formats.specs.Meant.{meant_as}
use Rattle.file_catalogue.specs.declared.remark.Remark.{Remark}
use Rattle.file_catalogue.specs.declared.remark.Remark.TheVariants as about
use Rattle.lsp_answers.specs.Settings.{Settings}
use Rattle.lsp_messages.specs.declared.counting.Encoding.{Encoding}
use Rattle.lsp_answers.specs.Diagnostics.{diagnostic_range}
use Rattle.lsp_answers.specs.Documents.{file_of, kind_of, rules_diagnostics}

-- the known key that an unknown one may have been meant as
abbrev pub key_meant : DiagnosticValue → Option Text
key_meant d = by d.remark
  where
    by : Remark → Option Text
    by (about.Message UnknownKey) = meant_as d.remark d.word
    by _ = None

-- an action that makes edits of a document
unfoldable pub action : (title : Text) → (uri : Text) → List Json → Json
action title uri edits =
    object_of
    ((codes "title", told title) ∷ (codes "kind", string (codes "quickfix"))
    ∷ (codes "edit", object_of ((codes "changes", object_of ((uri, array_of edits) ∷ [])) ∷ [])) ∷ [])

-- the edit that puts a name in the place of a diagnostic
unfoldable pub name_edit : Encoding → DiagnosticValue → Text → Json
name_edit encoding d name = object_of ((codes "range", diagnostic_range encoding d) ∷ (codes "newText", told name) ∷ [])

-- the action that puts a name in the place of a diagnostic, if one is meant
abbrev pub fix_with : Encoding → (uri : Text) → DiagnosticValue → Option Text → List Json
fix_with encoding uri d None = []
fix_with encoding uri d (Some name) = action (codes "Write " ++ name) uri (name_edit encoding d name ∷ []) ∷ []

-- whether a diagnostic is in one of these rows, counted from 0
abbrev pub is_in_rows : (first last : ℕ) → DiagnosticValue → Bool
is_in_rows first last d = nat_le first (d.line - 1) && nat_le (d.line - 1) last

-- the actions for a diagnostic, if it is in one of these rows
abbrev pub fixes_of : Encoding → (uri : Text) → (first last : ℕ) → DiagnosticValue → List Json
fixes_of encoding uri first last d = if is_in_rows first last d then fix_with encoding uri d (key_meant d) else []

-- the actions for the diagnostics of a file of a kind
abbrev pub fixes_as : FileKind → Encoding → Settings → (uri text : Text) → (first last : ℕ) → List Json
fixes_as Rules encoding settings uri text first last = flat_map (fixes_of encoding uri first last) (rules_diagnostics settings (file_of uri text))
fixes_as Hwdb encoding settings uri text first last = []

-- the actions for the diagnostics in these rows of a document
abbrev pub fixes : Encoding → Settings → (uri text : Text) → (first last : ℕ) → List Json
fixes encoding settings uri text first last = fixes_as (kind_of uri) encoding settings uri text first last
