-- The words of a file of options.
use Rattle.std.specs.Prelude.{◌||◌, ◌++◌, Bool, not, List, Option, Some, None, codes, find, if◌then◌else◌}
use Rattle.std.specs.List.{filter_map}
use Rattle.engine_sessions.specs.Places.{place_of, word_part}
use Rattle.text_bytes.specs.Lines.{NumberedLine, numbered_lines}
use Rattle.text_bytes.specs.Names.{hash}
use Rattle.text_bytes.specs.Numbers.{capped}
use Rattle.text_bytes.specs.Texts.{begins_with, is_empty, trimmed, unindented, word_of}
use Rattle.text_bytes.specs.Text.{Text}
use Rattle.engine_sessions.specs.Words.{is_word}

-- a line without the blanks at its start and the whitespace at its end
abbrev pub bare : Text → Text
bare line = trimmed (unindented line)

-- a line has nothing in it, or is a comment
abbrev pub is_left_out : Text → Bool
is_left_out line = is_empty (bare line) || begins_with hash (bare line)

-- a line has something in it that is no word
abbrev pub is_bad : Text → Bool
is_bad line = not (is_left_out line || is_word (bare line))

-- the word of a line, if it has one
abbrev pub word_in : Text → Option Text
word_in line = if is_word (bare line) then Some (bare line) else None

-- the words of a file, one of each line that has one, in their order
unfoldable pub words_of : Text → List Text
words_of bytes = filter_map (λ line. word_in line.text) (numbered_lines bytes)

-- the first line of a file that is bad, if one is
unfoldable pub bad_line : Text → Option NumberedLine
bad_line bytes = find (λ line. is_bad line.text) (numbered_lines bytes)

-- what is said about a bad line of the file at a path
abbrev pub said_of : (path : Text) → NumberedLine → Text
said_of path line = codes "error: " ++ place_of path (capped line.number) ++ codes "not one option, as --lint or --format=gcc"
    ++ word_part (word_of (bare line.text)) ++ codes "\n\nFor more information, try '--help'.\n"
