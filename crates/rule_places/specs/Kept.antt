-- The lines of a file that are kept, with where they are in the file and among the joined bytes.
use Rattle.std.specs.Prelude.{ℕ, ◌+◌, ◌-◌, min, nat_le, if◌then◌else◌, List, [], ◌∷◌, length, slice_get, Option, Some, None}
use Rattle.std.specs.List.{prefix_len}
use Rattle.text_bytes.specs.Text.{Text}
use Rattle.text_bytes.specs.Lines.{NumberedLine, numbered_lines}
use Rattle.text_bytes.specs.Numbers.{capped}
use Rattle.rule_core.specs.Lines.{is_comment, piece_of, unindented}
use Rattle.rule_places.specs.declared.kept.KeptLine.{KeptLine}
use Rattle.rule_places.specs.declared.kept.Place.{Place}

-- a line after so many bytes of other kept lines: its number, the column of its first byte that is not a blank, and
-- how many bytes it gives to a joined line
abbrev pub as_kept : ℕ → NumberedLine → KeptLine
as_kept start l =
    record { number = l.number; column = length l.text - length (unindented l).text + 1; start = start; size = length (piece_of (unindented l)).text }

-- the same, unless the line is a comment
abbrev pub kept_line : ℕ → NumberedLine → Option KeptLine
kept_line start l = if is_comment (unindented l) then None else Some (as_kept start l)

-- a line, if it is kept, before those that follow it
abbrev pub kept_before : ℕ → Option KeptLine → (ℕ → List KeptLine) → List KeptLine
kept_before start None rest = rest start
kept_before start (Some line) rest = line ∷ rest (start + line.size)

-- those of these lines that are kept, after so many bytes of others
abbrev pub kept_from : ℕ → List NumberedLine → List KeptLine
kept_from start [] = []
kept_from start (l ∷ ls) = kept_before start (kept_line start l) (λ n. kept_from n ls)

-- the kept lines of a file with these bytes
abbrev pub kept_lines : Text → List KeptLine
kept_lines bytes = kept_from 0 (numbered_lines bytes)

-- the kept line that a byte is in: the last that begins at it or before it
abbrev pub line_at : List KeptLine → ℕ → Option KeptLine
line_at lines at = slice_get lines (prefix_len (λ l. nat_le l.start at) lines - 1)

-- where so many bytes of a line are, after so many of those that it gives to a joined line
abbrev pub place_at : KeptLine → ℕ → ℕ → Place
place_at l past shown = record { line = capped l.number; column = capped (l.column + past); end = capped (l.column + past + shown) }

-- the start of a file
abbrev pub file_start : Place
file_start = record { line = 1; column = 1; end = 1 }

-- where so many bytes are in a line, from a byte on, as far as they are in this line
abbrev pub within_line : Option KeptLine → ℕ → ℕ → Place
within_line None at size = file_start
within_line (Some l) at size = place_at l (at - l.start) (min size (l.size - (at - l.start)))

-- where so many bytes are, from a place among the bytes of the kept lines on, as far as they are in one line
abbrev pub place_in : List KeptLine → ℕ → ℕ → Place
place_in lines at size = within_line (line_at lines at) at size

-- the backslash after the bytes that a line gives to a joined line
abbrev pub backslash_of : Option KeptLine → Place
backslash_of None = file_start
backslash_of (Some l) = place_at l l.size 1

-- the backslash at the end of the last line
abbrev pub place_of_backslash : List KeptLine → Place
place_of_backslash lines = backslash_of (slice_get lines (length lines - 1))
