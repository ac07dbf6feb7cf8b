-- Diagnostics as JSON.
use Rattle.std.specs.Prelude.{List, [], ◌∷◌, ◌++◌, codes, map}
use Rattle.std.specs.Str.Lossy.{utf8_lossy}
use Rattle.text_bytes.specs.Text.{Text}
use Rattle.text_bytes.specs.Names.{newline}
use Rattle.text_json.specs.Values.{array_of, number_value, object_of}
use Rattle.engine_sessions.specs.Places.{word_part}
use Rattle.json.specs.Json.{Json, string}
use Rattle.json.specs.Print.{print}
use Rattle.json.specs.Tree.{json_tokens}
use Rattle.engine_formats.specs.Diagnostics.{DiagnosticValue}
use Rattle.engine_formats.specs.Fingerprints.{FingerprintedValue, fingerprinted}
use Rattle.file_catalogue.specs.Catalogue.{code_of, remark_heading, severity_of, severity_word, text_of}
use Rattle.file_catalogue.specs.declared.remark.Severity.{Severity}
use Rattle.file_catalogue.specs.declared.remark.Severity.TheVariants.{Error, Warning}

-- a text of a file, in which what is not UTF-8 becomes U+FFFD
abbrev pub text_value : Text → Json
text_value text = string (utf8_lossy text)

-- a diagnostic as an object
abbrev pub json_object : DiagnosticValue → Json
json_object d = object_of (
    (codes "path", text_value d.path)
    ∷ (codes "line", number_value d.line)
    ∷ (codes "column", number_value d.column)
    ∷ (codes "end_column", number_value d.end)
    ∷ (codes "code", text_value (code_of d.remark))
    ∷ (codes "text", text_value (text_of d.remark))
    ∷ (codes "word", text_value d.word)
    ∷ (codes "severity", string (severity_word (severity_of d.remark)))
    ∷ [])

-- the line of a diagnostic: the object without blanks between its parts
unfoldable pub json_line : DiagnosticValue → Text
json_line d = print (json_tokens (json_object d)) ++ newline ∷ []

-- the word of GitLab for how severe something is
abbrev pub gitlab_severity : Severity → Text
gitlab_severity Error = codes "major"
gitlab_severity Warning = codes "minor"

-- the file and the line of a diagnostic
abbrev pub gitlab_location : DiagnosticValue → Json
gitlab_location d =
    object_of ((codes "path", text_value d.path) ∷ (codes "lines", object_of ((codes "begin", number_value d.line) ∷ [])) ∷ [])

-- a diagnostic with its fingerprint as an issue of code quality
abbrev pub gitlab_issue : FingerprintedValue → Json
gitlab_issue f =
    let d = f.diagnostic in
    object_of (
    (codes "description", text_value (remark_heading d.remark ++ word_part d.word))
    ∷ (codes "check_name", text_value (code_of d.remark))
    ∷ (codes "fingerprint", string f.fingerprint)
    ∷ (codes "severity", string (gitlab_severity (severity_of d.remark)))
    ∷ (codes "location", gitlab_location d)
    ∷ [])

-- diagnostics as a report of code quality: an array of issues, on one line
unfoldable pub gitlab_report : List DiagnosticValue → Text
gitlab_report ds = print (json_tokens (array_of (map gitlab_issue (fingerprinted ds)))) ++ newline ∷ []
