-- What is said about words that are not a line, and about a device that failed.
use Rattle.std.specs.Prelude.{codes, string_bytes}
use Rattle.text_bytes.specs.Text.{Text}
use Rattle.engine_sessions.specs.declared.line.LineFault.{LineFault}
use Rattle.engine_sessions.specs.declared.line.LineFault.TheVariants.{Help, Usage, Memory}

-- why words are not a line: the text for the user
abbrev pub line_text : LineFault → Text
line_text (Help text) = string_bytes text
line_text (Usage text) = string_bytes text
line_text Memory = codes "out of memory"

-- a device that failed, in words
abbrev pub device_text : Text
device_text = codes "device failed"
