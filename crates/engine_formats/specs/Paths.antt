-- The paths by which files were opened.
use Rattle.std.specs.Prelude.{if◌then◌else◌, ◌∷◌, ◌++◌}
use Rattle.text_bytes.specs.Text.{Text}
use Rattle.text_bytes.specs.Names.{slash}
use Rattle.text_bytes.specs.declared.source_file.SourceFile.{SourceFile}
use Rattle.engine_sessions.specs.Folders.{folder_path}
use Rattle.engine_sessions.specs.Kinds.{names_files_of}
use Rattle.engine_sessions.specs.declared.line.Line.{Line}

-- the path of a file in its folder, after a root
abbrev pub path_in_folder : Text → SourceFile → Text
path_in_folder root file = root ++ folder_path file.kind file.rank ++ slash ∷ file.name

-- the path of a file: its name if the line names files of its kind, and else that in its folder
abbrev pub path_of : Line → SourceFile → Text
path_of line file = if names_files_of line file.kind then file.name else path_in_folder line.root.now file
