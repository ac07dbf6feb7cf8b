-- The text of a line of an answer: a word, and what it says.
use Rattle.std.specs.Prelude.{Bool, true, false, ◌==◌, List, [], ◌∷◌, ◌++◌, codes, flat_map}
use Rattle.text_bytes.specs.Names.{space, equals, dot, newline}
use Rattle.text_bytes.specs.Escapes.{escape_text}
use Rattle.text_bytes.specs.Text.{Text}
use Rattle.text_tables.specs.Pairs.{Pair}
use Rattle.rule_types.specs.Names.{run_name}
use Rattle.device_core.specs.Values.{EventValue}
use Rattle.device_core.specs.Notes.{block_notes, text_of as text_about_block}
use Rattle.device_core.specs.declared.notes.BlockNote.{BlockNote}
use Rattle.eval_rules.specs.declared.outcome.Command.{Command}
use Rattle.eval_state.specs.Notes.{text_of}
use Rattle.eval_state.specs.declared.notes.Note.{Note}
use Rattle.engine_sessions.specs.Places.{place_of, word_part}

-- a line: its word, a space, and what it says
abbrev pub line : Text → Text → Text
line word said = word ++ space ∷ said ++ newline ∷ []

-- a line that is its word alone
abbrev pub bare_line : Text → Text
bare_line word = word ++ newline ∷ []

-- a line with a text
unfoldable pub text_line : Text → Text → Text
text_line word text = line word (escape_text text)

-- a line with a name and its value, `NAME=VALUE`
unfoldable pub pair_line : Text → Pair → Text
pair_line word pair = line word (escape_text pair.0 ++ equals ∷ escape_text pair.1)

-- whether a name begins with a dot: such a property is for rules alone
abbrev pub is_hidden : Text → Bool
is_hidden [] = false
is_hidden (byte ∷ name) = byte == dot

-- the line of a command that would be run: its type, and the command
unfoldable pub run_line : Command → Text
run_line command = line (codes "run") (run_name command.kind ++ space ∷ escape_text command.text)

-- the line of a note: the place of its rule, what it says, and its word
unfoldable pub note_line : Note → Text
note_line note = line (codes "note") (place_of note.file note.line ++ text_of note.kind ++ word_part note.word)

-- the line of a note about the block: `-` where others have the place of a rule, what it says, and its word
unfoldable pub block_note_line : BlockNote → Text
block_note_line note = line (codes "note") (codes "-: " ++ text_about_block note.kind ++ word_part note.word)

-- the lines of the notes about the block of an event
abbrev pub block_note_lines : EventValue → Text
block_note_lines event = flat_map block_note_line (block_notes event)

-- the lines of notes
abbrev pub note_lines : List Note → Text
note_lines notes = flat_map note_line notes
