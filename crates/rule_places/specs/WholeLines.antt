-- The lines of a rules file as they stand.
use Rattle.std.specs.Prelude.{ℕ, ◌-◌, ◌==◌, Bool, not, ◌&&◌, if◌then◌else◌, List, [], ◌∷◌, length, take}
use Rattle.std.specs.List.{onto_first}
use Rattle.text_bytes.specs.Text.{Text}
use Rattle.text_bytes.specs.Names.{backslash, hash, newline}
use Rattle.text_bytes.specs.Texts.{begins_with, ends_in, unindented}

-- the lines of a text, each with the newline that ends it
abbrev pub whole_lines : Text → List Text
whole_lines [] = []
whole_lines (b ∷ text) = if b == newline then (b ∷ []) ∷ whole_lines text else onto_first b (whole_lines text)

-- a line without its newline
abbrev pub without_newline : Text → Text
without_newline line = if ends_in newline line then take (length line - 1) line else line

-- what is written in a line: neither the blanks at its start nor its newline
abbrev pub written : Text → Text
written line = unindented (without_newline line)

-- how many blanks a line begins with
abbrev pub indentation : Text → ℕ
indentation line = length (without_newline line) - length (written line)

-- whether a line is a comment
abbrev pub is_comment : Text → Bool
is_comment line = begins_with hash (written line)

-- whether a line goes on in the next
abbrev pub continues : Text → Bool
continues line = ends_in backslash (written line)

-- how many bytes a line that is not a comment gives to its joined line: all that is written but a `\` at the end
abbrev pub size_of : Text → ℕ
size_of line = if continues line then length (written line) - 1 else length (written line)

-- how many bytes a line gives to its joined line
abbrev pub given_size : Text → ℕ
given_size line = if is_comment line then 0 else size_of line

-- whether a joined line ends with a line
abbrev pub ends_joined : Text → Bool
ends_joined line = not (is_comment line) && not (continues line)
