-- Serves laws alone: the notes of one kind, and texts that differ from others.
use Rattle.std.specs.Prelude.{Bool, true, false, ◌≢◌, List, filter}
use Rattle.std.specs.List.{AllByRecursion}
use Rattle.text_bytes.specs.Text.{Text}
use Rattle.device_core.specs.Values.{EventValue}
use Rattle.device_core.specs.Notes.{block_notes}
use Rattle.device_core.specs.declared.kinds.BlockNoteKind.{BlockNoteKind}
use Rattle.device_core.specs.declared.kinds.BlockNoteKind.TheVariants.{BehindCommands, GoneAttributes, NoSubsystem, PathBeginsWithSys, ReturnAtEnds}
use Rattle.device_core.specs.declared.kinds.BlockNoteKind.TheVariants.{StoredByUdev, UnknownAction}
use Rattle.device_core.specs.declared.notes.BlockNote.{BlockNote}

-- whether two kinds are the same
abbrev pub same_kind : BlockNoteKind → BlockNoteKind → Bool
same_kind UnknownAction UnknownAction = true
same_kind PathBeginsWithSys PathBeginsWithSys = true
same_kind StoredByUdev StoredByUdev = true
same_kind BehindCommands BehindCommands = true
same_kind NoSubsystem NoSubsystem = true
same_kind GoneAttributes GoneAttributes = true
same_kind ReturnAtEnds ReturnAtEnds = true
same_kind _ _ = false

-- the notes of a kind about the block of an event
abbrev pub notes_of : BlockNoteKind → EventValue → List BlockNote
notes_of kind event = filter (λ note. same_kind kind note.kind) (block_notes event)

-- a text is none of these
abbrev pub IsNoneOf : Text → List Text → Type 0
IsNoneOf text texts = AllByRecursion (λ other. text ≢ other) texts
