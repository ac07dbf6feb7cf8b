-- What is left of the lines of a database file once they are cleaned.
use Rattle.std.specs.Prelude.{not, List, map, filter}
use Rattle.text_bytes.specs.Text.{Text}
use Rattle.text_bytes.specs.Names.{hash}
use Rattle.text_bytes.specs.Lines.{NumberedLine, numbered_lines}
use Rattle.text_bytes.specs.Texts.{begins_with, trimmed, up_to}

-- a line without its comment, which begins at its first `#`, and without the whitespace before that
abbrev pub cleaned : NumberedLine → NumberedLine
cleaned l = record { number = l.number; text = trimmed (up_to hash l.text) }

-- lines without those that begin with `#`, the others cleaned
abbrev pub clean_lines : List NumberedLine → List NumberedLine
clean_lines ls = map cleaned (filter (λ l. not (begins_with hash l.text)) ls)

-- the clean lines of a file, which keep the numbers that they have in it, counted from 1
abbrev pub lines_of : Text → List NumberedLine
lines_of bytes = clean_lines (numbered_lines bytes)
