-- Diagnostics as lines for people and for editors.
use Rattle.std.specs.Prelude.{[], ◌∷◌, ◌++◌, codes, decimal}
use Rattle.text_bytes.specs.Text.{Text}
use Rattle.text_bytes.specs.Escapes.{escape_text}
use Rattle.text_bytes.specs.Texts.{word_of}
use Rattle.text_bytes.specs.Names.{colon, newline}
use Rattle.engine_sessions.specs.Places.{place_of, word_part}
use Rattle.engine_formats.specs.Diagnostics.{DiagnosticValue}
use Rattle.file_catalogue.specs.Catalogue.{code_of, remark_heading, severity_of, severity_word, text_of}
use Rattle.file_catalogue.specs.declared.remark.Remark.{Remark}

-- the line of a diagnostic as messages are written: `NAME:LINE: V6 bad substitution: WORD`, with the first line of the rule and the
-- first 32 bytes of the word
unfoldable pub plain_line : DiagnosticValue → Text
plain_line d = place_of d.name d.begins ++ remark_heading d.remark ++ word_part (word_of d.word) ++ newline ∷ []

-- the place of a diagnostic and how severe it is, `PATH:LINE:COLUMN: error: `
unfoldable pub spot_of : DiagnosticValue → Text
spot_of d =
    escape_text d.path ++ colon ∷ decimal d.line ++ colon ∷ decimal d.column ++ codes ": " ++ severity_word (severity_of d.remark)
    ++ codes ": "

-- the code of a remark at a line's end, ` [V6]`
abbrev pub code_part : Remark → Text
code_part remark = codes " [" ++ code_of remark ++ codes "]\n"

-- the line of a diagnostic as compilers write theirs: `PATH:LINE:COLUMN: error: bad substitution: WORD [V6]`
unfoldable pub gcc_line : DiagnosticValue → Text
gcc_line d = spot_of d ++ text_of d.remark ++ word_part d.word ++ code_part d.remark
