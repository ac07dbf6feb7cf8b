-- The lines of a file that make a joined line, with its commas and blanks mended.
use Rattle.std.specs.Prelude.{ℕ, ◌+◌, max, min, nat_le, nat_lt, ◌&&◌, if◌then◌else◌, List, [], ◌∷◌, ◌++◌, take, drop}
use Rattle.std.specs.List.{flat_map}
use Rattle.text_bytes.specs.Text.{Text}
use Rattle.text_bytes.specs.Names.{comma, space}
use Rattle.text_bytes.specs.Texts.{is_empty}
use Rattle.rule_core.specs.Style.{between}
use Rattle.rule_places.specs.WholeLines.{indentation, is_comment, size_of}
use Rattle.rule_places.specs.declared.stretches.Stretch.{Stretch}

-- what is written between two places of a joined line for a stretch: its bytes there, and the comma and the blank if it ends there
abbrev pub written_of : Text → ℕ → ℕ → Stretch → Text
written_of text from to s =
    between (max from s.start) (min to s.end) text ++ (if s.comma && (nat_lt from s.end && nat_le s.end to) then comma ∷ space ∷ [] else [])

-- what is written between two places of a joined line
abbrev pub written_between : Text → List Stretch → ℕ → ℕ → Text
written_between text stretches from to = flat_map (written_of text from to) stretches

-- a line of which nothing is left is a blank, so that it stays a line
abbrev pub or_blank : Text → Text
or_blank line = if is_empty line then space ∷ [] else line

-- a line that gives the bytes from a place on to its joined line: the blanks at its start and what follows these bytes stay
abbrev pub rewritten_line : Text → List Stretch → ℕ → Text → Text
rewritten_line text stretches place line =
    or_blank
    (take (indentation line) line ++ (written_between text stretches place (place + size_of line) ++ drop (indentation line + size_of line) line))

-- lines that give the bytes from a place on, and the comments among them, which stay
abbrev pub rewritten_from : Text → List Stretch → ℕ → List Text → Text
rewritten_from text stretches place [] = []
rewritten_from text stretches place (l ∷ ls) =
    if is_comment l then l ++ rewritten_from text stretches place ls
    else rewritten_line text stretches place l ++ rewritten_from text stretches (place + size_of l) ls
