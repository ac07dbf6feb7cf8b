-- Diagnostics as workflow commands of GitHub.
use Rattle.std.specs.Prelude.{ℕ, ◌==◌, if◌then◌else◌, [], ◌∷◌, ◌++◌, codes, decimal, flat_map}
use Rattle.text_bytes.specs.Text.{Text}
use Rattle.text_bytes.specs.Escapes.{is_control}
use Rattle.text_bytes.specs.Names.{carriage_return, colon, comma, newline, percent}
use Rattle.engine_sessions.specs.Places.{word_part}
use Rattle.engine_formats.specs.Diagnostics.{DiagnosticValue}
use Rattle.file_catalogue.specs.Catalogue.{code_of, severity_of, severity_word, text_of}
use Rattle.engine_formats.specs.Uris.{percent_byte}

-- a byte of what a command says: `%` and the two ends of a line by `%` and two hexadecimal digits, all others as they are
abbrev pub github_byte : ℕ → Text
github_byte b =
    if b == percent then codes "%25"
    else if b == carriage_return then codes "%0D"
    else if b == newline then codes "%0A"
    else b ∷ []

-- a byte of a command's property, in which a colon, a comma and every control byte are also written so
abbrev pub property_byte : ℕ → Text
property_byte b =
    if b == colon then codes "%3A"
    else if b == comma then codes "%2C"
    else if is_control b then percent_byte b
    else github_byte b

-- what a command says, byte by byte
abbrev pub github_text : Text → Text
github_text said = flat_map github_byte said

-- a command's property, byte by byte
abbrev pub github_property : Text → Text
github_property value = flat_map property_byte value

-- the file of a command, by the path by which it was opened, and the place in it
unfoldable pub github_place : DiagnosticValue → Text
github_place d =
    codes " file=" ++ github_property d.path ++ codes ",line=" ++ decimal d.line ++ codes ",col=" ++ decimal d.column
    ++ codes ",endColumn=" ++ decimal d.end

-- the line of a diagnostic as a command: `::error file=PATH,line=LINE,col=COLUMN,endColumn=END,title=V6::bad substitution: WORD`
unfoldable pub github_line : DiagnosticValue → Text
github_line d =
    codes "::" ++ severity_word (severity_of d.remark) ++ github_place d ++ codes ",title=" ++ code_of d.remark ++ codes "::"
    ++ github_text (text_of d.remark ++ word_part d.word) ++ newline ∷ []
