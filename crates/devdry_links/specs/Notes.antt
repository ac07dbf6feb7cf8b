-- What is told about files before their messages.
use Rattle.std.specs.Prelude.{ℕ, Bool, ◌&&◌, if◌then◌else◌, List, [], ◌∷◌, ◌++◌, Option, Some, None, codes, find, flat_map, map, nat_eq, nat_lt}
use Rattle.std.specs.List.{ends_with, list_any}
use Rattle.text_bytes.specs.Escapes.{escape_text}
use Rattle.text_bytes.specs.Kinds.{suffix_of}
use Rattle.text_bytes.specs.Lines.{NumberedLine, numbered_lines}
use Rattle.text_bytes.specs.Names.{newline}
use Rattle.text_bytes.specs.Numbers.{capped}
use Rattle.text_bytes.specs.declared.profile.Profile.{Profile}
use Rattle.text_bytes.specs.declared.profile.Profile.TheVariants.{Manual, Udev}
use Rattle.text_bytes.specs.declared.source_file.FileKind.{FileKind}
use Rattle.text_bytes.specs.declared.source_file.FileKind.TheVariants.{Hwdb, Rules}
use Rattle.text_bytes.specs.declared.source_file.SourceFile.{SourceFile}
use Rattle.text_bytes.specs.Text.{Text}
use Rattle.text_tables.specs.Texts.{same_text}
use Rattle.engine_sessions.specs.Kinds.{kind_named}
use Rattle.engine_sessions.specs.Places.{place_of}
use Rattle.engine_sessions.specs.declared.line.Line.{Line}
use Rattle.devdry_links.specs.Asked.{asks_kinds, asks_root, asks_unseen}
use Rattle.devdry_links.specs.Unseen.{is_in, told_of}
use Rattle.devdry_links.specs.declared.unseen.Unseen.{Unseen}
use Rattle.devdry_links.specs.declared.unseen.Unseen.TheVariants.{Mark, Return, NoBreak}

-- a note on a path
abbrev pub note_on : (path text : Text) → Text
note_on path text = codes "devdry: " ++ escape_text path ++ text ++ newline ∷ []

-- a note on a line of a file
abbrev pub note_at : (name : Text) → Unseen → Option NumberedLine → Text
note_at name unseen None = []
note_at name unseen (Some line) = codes "devdry: " ++ place_of name (capped line.number) ++ told_of unseen ++ newline ∷ []

-- the first line of a file that has what no editor shows
abbrev pub first_with : Unseen → Text → Option NumberedLine
first_with unseen bytes = find (λ line. is_in unseen line.text) (numbered_lines bytes)

-- the note on the first line of a file that has what no editor shows
abbrev pub first_note : SourceFile → Unseen → Text
first_note file unseen = note_at file.name unseen (first_with unseen file.bytes)

-- the note on a carriage return: there is none for udev, for which it ends a line
abbrev pub return_note : Profile → SourceFile → Text
return_note Manual file = first_note file Return
return_note Udev file = []

-- what is told of a file: the first line that has each of what no editor shows
unfoldable pub unseen_in : Profile → SourceFile → Text
unseen_in profile file = first_note file Mark ++ (return_note profile file ++ first_note file NoBreak)

-- whether another file hides this one, so that it is not read: it has the name, and a lesser rank
abbrev pub hides : SourceFile → SourceFile → Bool
hides file other = same_text other.name file.name && nat_lt other.rank file.rank

-- what is told of a file among all that were read from the disk
abbrev pub unseen_among : Profile → List SourceFile → SourceFile → Text
unseen_among profile files file = if list_any (hides file) files then [] else unseen_in profile file

-- the other kind of files
abbrev pub other_kind : FileKind → FileKind
other_kind Hwdb = Rules
other_kind Rules = Hwdb

-- what is told of a file of this kind where one of the other is read
abbrev pub told_of_kind : FileKind → Text
told_of_kind Hwdb = codes ": a file of the hardware database by its name, which devdry update checks"
told_of_kind Rules = codes ": a rules file by its name, which devdry verify checks"

-- the note on a named file, if its name ends as those of this kind do
abbrev pub kind_note : FileKind → Text → Text
kind_note kind path = if ends_with nat_eq path (suffix_of kind) then note_on path (told_of_kind kind) else []

-- what is told of the root
abbrev pub told_of_root : Text
told_of_root = codes ": its rules are not read beside a FILE that is named: --with FILE reads FILE among them"

-- the note on a folder where a file is wanted
abbrev pub folder_note : Text → Text
folder_note path = note_on path (codes ": a folder, of which --all reads the files")

-- the notes on named files that are of the other kind than the subcommand reads
abbrev pub kind_notes : Line → Text
kind_notes line = if asks_kinds line then flat_map (kind_note (other_kind (kind_named line.verb))) (map (λ f. f.now) line.files.items) else []

-- the note on the root, if there is a folder
abbrev pub root_notes : Line → (there : Bool) → Text
root_notes line there = if asks_root line && there then note_on line.root.now told_of_root else []

-- the notes on what no editor shows in files
abbrev pub unseen_notes : Line → List SourceFile → Text
unseen_notes line files = if asks_unseen line then flat_map (unseen_among line.profile files) files else []
