-- What appears and disappears between two answers to the same event.
use Rattle.std.specs.Prelude.{Bool, not, ◌||◌, ◌&&◌, ◌==◌, if◌then◌else◌, nat_eq, List, [], ◌∷◌, ◌++◌, length, codes, filter, flat_map, map}
use Rattle.std.specs.List.{starts_with}
use Rattle.text_bytes.specs.Names.{newline}
use Rattle.text_bytes.specs.Lines.{lines}
use Rattle.text_bytes.specs.Text.{Text}
use Rattle.device_core.specs.Values.{EventValue}
use Rattle.engine_sessions.specs.EventLine.{event_line}
use Rattle.text_tables.specs.Surplus.{ShownLine, line_of, surplus_by}

-- whether a line of an answer is compared: it has a byte, and is not a note
abbrev pub is_compared : Text → Bool
is_compared line = not (length line == 0 || starts_with nat_eq line (codes "note "))

-- lines without the first
abbrev pub after_first : List Text → List Text
after_first [] = []
after_first (first ∷ others) = others

-- the lines of an answer that are compared: of those after its first, which names the event, all but the notes and the
-- empty one at its end
abbrev pub compared_lines : Text → List Text
compared_lines answer = filter is_compared (after_first (lines answer))

-- an answer, and the answer as it is shown, which may have more in each of its lines
abbrev pub ShownAnswer : Type 0
ShownAnswer = Text × Text

-- an answer that is shown as it is
abbrev pub itself : Text → ShownAnswer
itself answer = (answer, answer)

-- lines, each with what is shown for it: the line at the same place among others, or itself if there is none
abbrev pub beside : List Text → List Text → List ShownLine
beside [] others = []
beside (line ∷ lines) [] = (line, line) ∷ beside lines []
beside (line ∷ lines) (other ∷ others) = (line, other) ∷ beside lines others

-- the lines of an answer that are compared, each with what is shown for it
abbrev pub shown_lines : ShownAnswer → List ShownLine
shown_lines answer = filter (λ line. is_compared (line_of line)) (beside (after_first (lines answer.0)) (after_first (lines answer.1)))

-- what is shown for a line
abbrev pub shown_of : ShownLine → Text
shown_of line = line.1

-- what is shown for the lines that an answer has more often than another
abbrev pub more_shown : (answer other : ShownAnswer) → List Text
more_shown answer other = map shown_of (surplus_by line_of (shown_lines answer) (compared_lines other.0))

-- a line after a mark
abbrev pub marked_line : Text → Text → Text
marked_line mark line = mark ++ line ++ newline ∷ []

-- lines, each after a mark
abbrev pub marked_lines : Text → List Text → Text
marked_lines mark lines = flat_map (marked_line mark) lines

-- a text, each of its lines after a mark
abbrev pub marked_text : Text → Text → Text
marked_text mark text = marked_lines mark (lines text)

-- what is reported for an event: its line, each line that disappears after `-`, each that appears after `+`, and an
-- empty line; nothing if no line disappears or appears
abbrev pub reported_for : EventValue → List Text → List Text → Text
reported_for event gone come =
    if length gone == 0 && length come == 0 then []
    else event_line event.action event.device.path ++ marked_lines (codes "-") gone ++ marked_lines (codes "+") come ++ newline ∷ []

-- what appears and disappears between an old and a new answer to an event
abbrev pub differences : EventValue → (old new : ShownAnswer) → Text
differences event old new = reported_for event (more_shown old new) (more_shown new old)
