-- Diagnostics as a log of static analysis, as SARIF 2.1.0 has it.
use Rattle.std.specs.Prelude.{ℕ, ◌+◌, ◌-◌, not, ◌==◌, ◌||◌, Bool, if◌then◌else◌, List, [], ◌∷◌, ◌++◌, codes, count_by, flat_map, map, take}
use Rattle.text_bytes.specs.Text.{Text}
use Rattle.text_bytes.specs.Names.{close_brace, newline, open_brace}
use Rattle.text_bytes.specs.Numbers.{capped}
use Rattle.engine_sessions.specs.Places.{word_part}
use Rattle.json.specs.Json.{Json, string}
use Rattle.json.specs.Print.{print}
use Rattle.json.specs.Tree.{json_tokens}
use Rattle.file_catalogue.specs.Catalogue.{advice_of}
use Rattle.engine_formats.specs.Diagnostics.{DiagnosticValue}
use Rattle.engine_formats.specs.Fingerprints.{FingerprintedValue, fingerprinted}
use Rattle.engine_formats.specs.Human.{continues}
use Rattle.text_json.specs.Values.{array_of, number_value, object_of}
use Rattle.engine_formats.specs.Json.{text_value}
use Rattle.file_catalogue.specs.Catalogue.{code_of, severity_of, severity_word, text_of}
use Rattle.engine_formats.specs.Uris.{uri_of}
use Rattle.file_catalogue.specs.declared.remark.Remark.{Remark}

-- whether a byte is a brace, between which a message could have a place for an argument
abbrev pub is_brace : ℕ → Bool
is_brace b = b == open_brace || b == close_brace

-- a byte of a message: a brace twice, any other byte as it is
abbrev pub message_byte : ℕ → Text
message_byte b = if is_brace b then b ∷ b ∷ [] else b ∷ []

-- a text as a message has it, byte by byte
abbrev pub message_text : Text → Text
message_text text = flat_map message_byte text

-- a message
abbrev pub message_object : Text → Json
message_object text = object_of ((codes "text", text_value (message_text text)) ∷ [])

-- what a diagnostic can be about, which SARIF calls a rule: the code, what it says, how to fix it, and how severe it is
abbrev pub rule_object : Remark → Json
rule_object remark = object_of (
    (codes "id", text_value (code_of remark))
    ∷ (codes "shortDescription", message_object (text_of remark))
    ∷ (codes "fullDescription", message_object (advice_of remark))
    ∷ (codes "help", message_object (advice_of remark))
    ∷ (codes "defaultConfiguration", object_of ((codes "level", string (severity_word (severity_of remark))) ∷ []))
    ∷ [])

-- how many characters begin in a text; a byte that continues a character of UTF-8 begins none
abbrev pub begun_in : Text → ℕ
begun_in text = count_by (λ b. not (continues b)) text

-- what is before a column of a line, counted in bytes from 1
abbrev pub before_column : Text → ℕ → Text
before_column source column = take (column - 1) source

-- a column of a line, counted in characters from 1, by the one that is counted in bytes
abbrev pub character_column : Text → ℕ → ℕ
character_column source column = capped (begun_in (before_column source column) + 1)

-- where in its file a diagnostic is
abbrev pub region_object : DiagnosticValue → Json
region_object d = object_of (
    (codes "startLine", number_value d.line)
    ∷ (codes "startColumn", number_value (character_column d.source d.column))
    ∷ (codes "endColumn", number_value (character_column d.source d.end))
    ∷ [])

-- where a diagnostic is
abbrev pub place_object : DiagnosticValue → Json
place_object d = object_of ((
  codes "physicalLocation",
  object_of (
      (codes "artifactLocation", object_of ((codes "uri", text_value (uri_of d.path)) ∷ []))
      ∷ (codes "region", region_object d)
      ∷ []),
)
    ∷ [])

-- a diagnostic with its fingerprint as a result
abbrev pub result_object : FingerprintedValue → Json
result_object f =
    let d = f.diagnostic in
    object_of (
    (codes "ruleId", text_value (code_of d.remark))
    ∷ (codes "level", string (severity_word (severity_of d.remark)))
    ∷ (codes "message", message_object (text_of d.remark ++ word_part d.word))
    ∷ (codes "locations", array_of (place_object d ∷ []))
    ∷ (codes "partialFingerprints", object_of ((codes "devdryLine/v1", string f.fingerprint) ∷ []))
    ∷ [])

-- the program and what its diagnostics can be about
abbrev pub driver_object : List Remark → Json
driver_object remarks = object_of (
    (codes "name", string (codes "devdry"))
    ∷ (codes "rules", array_of (map rule_object remarks))
    ∷ [])

abbrev pub tool_object : List Remark → Json
tool_object remarks = object_of ((codes "driver", driver_object remarks) ∷ [])

-- a run over files
abbrev pub run_object : List Remark → List FingerprintedValue → Json
run_object remarks fs = object_of (
    (codes "tool", tool_object remarks)
    ∷ (codes "columnKind", string (codes "unicodeCodePoints"))
    ∷ (codes "results", array_of (map result_object fs))
    ∷ [])

-- where the schema of a log is
abbrev pub schema : Text
schema = codes "https://docs.oasis-open.org/sarif/sarif/v2.1.0/errata01/os/schemas/sarif-schema-2.1.0.json"

-- a log of one run
abbrev pub log_object : List Remark → List FingerprintedValue → Json
log_object remarks fs = object_of (
    (codes "$schema", string schema)
    ∷ (codes "version", string (codes "2.1.0"))
    ∷ (codes "runs", array_of (run_object remarks fs ∷ []))
    ∷ [])

-- diagnostics as a log, on one line, with these remarks as its rules
unfoldable pub sarif_log : List Remark → List DiagnosticValue → Text
sarif_log remarks ds = print (json_tokens (log_object remarks (fingerprinted ds))) ++ newline ∷ []
