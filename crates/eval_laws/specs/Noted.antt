-- The notes that say which commands have no answer, for a law.
use Rattle.std.specs.Prelude.{Bool, true, false}
use Rattle.eval_state.specs.declared.note_kind.NoteKind.{NoteKind}
use Rattle.eval_state.specs.declared.note_kind.NoteKind.TheVariants.{NoAnswer}
use Rattle.eval_state.specs.declared.notes.Note.{Note}

-- whether a kind of note says that a command has no answer
abbrev pub says_no_answer : NoteKind → Bool
says_no_answer NoAnswer = true
says_no_answer kind = false

-- whether a note does
abbrev pub is_no_answer : Note → Bool
is_no_answer note = says_no_answer note.kind
