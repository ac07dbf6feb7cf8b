-- Rules files that a text of `--why` may ask for, and that are not read.
use Rattle.std.specs.Prelude.{Bool, true, false, not, ◌&&◌, ◌||◌, ◌==◌, if◌then◌else◌, List, [], ◌∷◌, Option, Some, None}
use Rattle.std.specs.Prelude.{codes, flat_map, map, option_and_then, vec_len}
use Rattle.std.specs.List.{list_any}
use Rattle.text_bytes.specs.Names.{colon, slash}
use Rattle.text_bytes.specs.Texts.{begins_with, following, is_empty}
use Rattle.text_bytes.specs.declared.source_file.FileKind.TheVariants.{Rules}
use Rattle.text_bytes.specs.declared.source_file.SourceFile.{SourceFile}
use Rattle.text_bytes.specs.Kernels.{last_component}
use Rattle.text_bytes.specs.Text.{Text}
use Rattle.text_tables.specs.Texts.{same_text}
use Rattle.engine_sessions.specs.Folders.{folder_path}
use Rattle.engine_sessions.specs.Kinds.{names_files_of, same_kind}
use Rattle.engine_sessions.specs.declared.line.Line.{Line}
use Rattle.engine_sessions.specs.declared.line.Verb.{Verb}
use Rattle.engine_sessions.specs.declared.line.Verb.TheVariants.{Events}
use Rattle.devdry_links.specs.Notes.{hides, note_on}

-- whether a subcommand answers events
abbrev pub is_events : Verb → Bool
is_events Events = true
is_events _ = false

-- whether a line asks which rules files lie in the folders: it asks what rules met
abbrev pub asks_lying : Line → Bool
asks_lying line = is_events line.verb && not (vec_len line.why == 0)

-- whether what follows the name of a file in a text is nothing, or begins with a colon, as a line does
abbrev pub is_line_or_nothing : Option Text → Bool
is_line_or_nothing None = false
is_line_or_nothing (Some rest) = is_empty rest || begins_with colon rest

-- whether a text of `--why` may ask for a file of this name, in whatever folder
abbrev pub may_ask : (text name : Text) → Bool
may_ask text name = is_line_or_nothing (following name (last_component text))

-- whether one of the texts of a line's `--why` may
abbrev pub is_asked : Line → (name : Text) → Bool
is_asked line name = list_any (λ text. may_ask text name) (map (λ w. w.now) line.why.items)

-- whether a file among others is one of rules with this name, has any byte, and is hidden by none of them
abbrev pub answers : List SourceFile → (name : Text) → SourceFile → Bool
answers files name file = ((same_kind file.kind Rules && same_text (last_component file.name) name) && not (is_empty file.bytes))
    && not (list_any (hides file) files)

-- what follows the folder of a file, and a slash, in a path
abbrev pub name_in : (root : Text) → SourceFile → (path : Text) → Option Text
name_in root file path = option_and_then (following (slash ∷ [])) (option_and_then (following (folder_path file.kind file.rank)) (following root path))

-- whether a name is that of a file
abbrev pub is_name_of : SourceFile → Option Text → Bool
is_name_of file None = false
is_name_of file (Some name) = same_text name file.name

-- whether a path is that of a file among others which is read from a folder, and hidden by none of them
abbrev pub is_at : (root : Text) → List SourceFile → (path : Text) → SourceFile → Bool
is_at root files path file = (same_kind file.kind Rules && is_name_of file (name_in root file path)) && not (list_any (hides file) files)

-- whether the file at a path is read: the line names no files, and it is one of those that are read from the folders
abbrev pub is_read : Line → List SourceFile → (path : Text) → Bool
is_read line files path = not (names_files_of line Rules) && list_any (is_at line.root.now files path) files

-- whether a file at a path is told: a text asks for its name, no file with this name and a byte answers it, and it is not read
abbrev pub is_missed : Line → List SourceFile → (path : Text) → Bool
is_missed line files path =
    let name = last_component path in
    (is_asked line name && not (list_any (answers files name) files)) && not (is_read line files path)

-- the note on a file at a path that is not read
abbrev pub lying_note : Line → List SourceFile → (path : Text) → Text
lying_note line files path = if is_missed line files path then note_on path (codes ": not read, though --why asks for a file of its name") else []

-- the notes on the files at these paths
abbrev pub lying_notes : Line → List SourceFile → (paths : List Text) → Text
lying_notes line files paths = if asks_lying line then flat_map (lying_note line files) paths else []
